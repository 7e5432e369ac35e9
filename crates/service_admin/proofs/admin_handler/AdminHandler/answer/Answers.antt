use Rattle.std.proofs.Common.{◌≡◌, true, false, option_copied, refl, rules}
use Rattle.admin_pages.specs.Route.{route_view}
use Rattle.http_edge.specs.Seen.{seen}
use Rattle.service_runtime.specs.Token.{is_let_in}
use Rattle.service_front.specs.Pages.{admin_of}
use Rattle.service_admin.specs.Shown.{route_in}
use Rattle.service_admin.proofs.Shown.{looked_so, not_looked, refused_so, shown_so}
use Rattle.service_admin.proofs.admin_handler.AdminHandler.answer.Goals as goal

pub returns-then-is_let_in : goal.returns-then-is_let_in
returns-then-is_let_in g c =
    let route : route_view c.admin_route-asked.result ≡ route_in (seen c.args.message.now) = first_of (cc, search rules) in
    let may : is_let_in (option_copied c.args.self.now.port.now.token) (seen c.args.message.now).headers (route_view c.admin_route-asked.result) ≡ true = first_of (cc, search rules) in
    record {
      shown = shown_so _ _ _ (seen c.args.message.now) _ _ c.show.result _ route may (rw c.as_slice-document.ensures.value at c.show.ensures.shown);
      looks = looked_so _ (admin_of c.args.self.now.port c.args.self.now.limits c.args.self.now.lane_capacity) (seen c.args.message.now) _ _ c.show.result _ route may c.show.ensures.looks;
      same = c.show.ensures.same;
      lent = c.show.ensures.lent;
    }

pub returns-else-is_let_in : goal.returns-else-is_let_in
returns-else-is_let_in g c =
    let route : route_view c.admin_route-asked.result ≡ route_in (seen c.args.message.now) = first_of (cc, search rules) in
    let may : is_let_in (option_copied c.args.self.now.port.now.token) (seen c.args.message.now).headers (route_view c.admin_route-asked.result) ≡ false = first_of (cc, search rules) in
    record {
      shown = refused_so _ _ _ (seen c.args.message.now) _ _ c.not_let_in.result _ route may refl c.not_let_in.ensures;
      looks = not_looked _ (admin_of c.args.self.now.port c.args.self.now.limits c.args.self.now.lane_capacity) (seen c.args.message.now) _ _ c.not_let_in.result _ route may refl;
      same = refl;
      lent = refl;
    }
