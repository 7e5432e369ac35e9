use Rattle.std.proofs.Common.{◌≡◌, ◌&&◌, false, length, option_copied, refl, rules, subst, sym}
use Rattle.admin_pages.specs.Route.{route_view}
use Rattle.http_edge.specs.Message.{with_body}
use Rattle.http_edge.specs.Seen.{seen}
use Rattle.service_runtime.specs.Token.{is_let_in}
use Rattle.service_admin.specs.Shown.{OnlyLooksIf, is_for_figures, not_let_in, route_in, without_memory}
use Rattle.service_admin.proofs.admin_handler.AdminHandlerHandler.reply_to_head.Goals as goal

pub returns-in-Ok : goal.returns-in-Ok
returns-in-Ok g c = λ body.
    let request = with_body (seen c.args.head.now) body in
    let token = option_copied c.args.self.now.port.now.token in
    let route : route_view c.admin_route-asked.result ≡ route_in request = first_of (cc, search rules) in
    let may : is_let_in token request.headers (route_view c.admin_route-asked.result) ≡ false = first_of (cc, search rules) in
    (not_let_in (subst (λ x. is_let_in token request.headers x ≡ false) route may) c.in-Ok.ensures refl, refl, refl)

pub returns-in-Err : goal.returns-in-Err
returns-in-Err g c = λ body.
    let request = with_body (seen c.args.head.now) body in
    let token = option_copied c.args.self.now.port.now.token in
    let route : route_view c.admin_route-asked.result ≡ route_in request = first_of (cc, search rules) in
    let may : is_let_in token request.headers (route_view c.admin_route-asked.result) ≡ false = first_of (cc, search rules) in
    let closed = subst (λ x. is_let_in token request.headers x ≡ false) route may in
    let looks = subst (λ x. OnlyLooksIf (x && is_for_figures (route_in request)) (length c.args.self.now.context.now.hub.now) c.args.self.now.context.now.caller c.args.self.now.context.now.caller) (sym closed) refl in
    (without_memory looks c.without_memory.ensures, refl, refl)
