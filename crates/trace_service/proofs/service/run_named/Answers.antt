use Rattle.std.proofs.Common.{◌≡◌, ◌∙◌, ◌<◌, ℕ, Ok, is_some, sym, subst, ap, length, All, arith, refl}
use Rattle.job_lane.specs.Lane.{LaneName, LaneShape, SeatLists}
use Rattle.machine_hub.specs.Hub.{new_caller}
use Rattle.otlp_front.specs.Route.{names_in}
use Rattle.tenant_registry.specs.Roster.{present_in}
use Rattle.trace_service.specs.Audit.{audit_text, IsFollowed}
use Rattle.trace_service.specs.Whole.{IsServed}
use Rattle.trace_service.proofs.Audited.{are_kept, are_numbered}
use Rattle.trace_service.proofs.Coursed.{course_told}
use Rattle.service_workers.proofs.Jobs.{threads_told}
use Rattle.std.proofs.lemmas.List.Elements.{All-map}
use Rattle.std.proofs.lemmas.Result.{IfOk-weaker}
use Rattle.tail_settings.specs.Settings.{TenantData, settings_view, tenant_view}
use Rattle.service_control.proofs.Standing.{after_lines}
use Rattle.trace_service.proofs.service.run_named.Goals as goal

pub close-totals-requires-clause-same_lane : goal.close-totals-requires-clause-same_lane
close-totals-requires-clause-same_lane g c =
    let all : LaneName → Type 0 = λ name. All (λ (s : SeatLists). s.lane ≡ name) c.in_ok-callers.seats.items in
    subst all (sym c.requires.lane ∙ sym c.requires.lane_keeper) c.in_ok-callers.ensures.same_lane

pub returns : goal.returns
returns g c =
    let table = settings_view c.args.settings in
    let homes = c.args.opened.keeper.homes in
    let slots = g.J.Naming.slots in
    let callers = c.in_ok-callers.callers.items in
    let shards = c.end_hub-shards.result.items in
    let runs = c.end_hub-shards.ensures.calls in
    let port = is_some c.args.start.now.admin in
    let audit = c.args.start.now.options.audit in
    let input = g.I.Read.remaining c.args.console.now.input in
    let so_far = g.O.Write.contents c.args.console.now.output in
    let written = g.O.Write.contents c.at_work.new.console.output in
    let below = All-map (λ (t : TenantData). t.number < table.next) tenant_view c.args.settings.tenants.entries c.args.settings.below in
    IfOk-weaker c.close_output.result
    (λ lost. (before : ℕ) × (c.in_ok-callers.ended ≡ Ok before) × IsFollowed audit (audit_text shards) (written, before) (g.O.Write.contents c.close_output.new.output, lost))
    (λ lost. IsServed port g.D.Documents.reads table audit input so_far (g.O.Write.contents c.close_output.new.output) lost)
    (λ lost out.
    let course = course_told port g.D.Documents.reads c.in_ok-callers.ended out.0 g.J.SettingsNaming.first table (present_in c.in_ok-roster.roster) (names_in table).tenants (length slots) table.global.shards
    input so_far written g.J.Naming.fresh (new_caller slots homes) callers
    out.1 (sym c.requires.first) c.in_ok-roster.ensures c.requires.shards c.requires.fresh c.in_ok-callers.ensures.course in
    record {
      slots = slots;
      homes = homes;
      opened = c.requires.opened;
      callers = callers;
      text = (written, out.0);
      course = course;
      in_force = after_lines table below _ _ _ _ _ _ _ course.directed.heard.answered refl;
      shards = shards;
      calls = runs;
      one_run = c.end_hub-shards.ensures.one_run table c.requires.opened;
      one_history = c.end_hub-shards.ensures.one_history table c.requires.opened;
      seats = c.in_ok-callers.seats.items;
      threads = threads_told g.J.SettingsNaming.first table (length slots) table.global.shards g.J.Naming.fresh (new_caller slots homes) callers c.in_ok-callers.seats.items
          (sym c.requires.first) c.requires.shards c.requires.fresh c.in_ok-callers.ensures.threads;
      taken = c.close-totals.result.taken;
      left = c.close-totals.result.left;
      lane = c.close-totals.ensures.run;
      room = omega (arith, c.close-totals.ensures.left, c.requires.room, ap (λ (lane : LaneShape). lane.capacity) c.in_ok-workplace.ensures.lane);
      logged = c.end_hub-shards.ensures.logged table c.requires.opened;
      count = runs.count ∙ c.requires.opened.count;
      numbered = are_numbered table homes callers shards runs c.requires.opened;
      kept = are_kept table homes callers shards runs audit table.global.shards c.requires.keeps;
      lines = out.2;
    })
    (rw c.as_slice.ensures.value at c.close_output.ensures)
