use Rattle.std.proofs.Common.{◌≡◌, ◌∙◌, Some, is_some, ap, drop, length, rules}
use Rattle.std.proofs.lemmas.List.{take_at}
use Rattle.std.proofs.lemmas.List.Elements.{All-pop}
use Rattle.machine_hub.specs.Hub.{slots_of}
use Rattle.shared_hub.specs.Logs.{CallerState}
use Rattle.tenant_registry.specs.Roster.{present_in}
use Rattle.trace_service.proofs.Coursed.{course_from}
use Rattle.trace_service.proofs.service.at_work.Goals as goal

pub assign_threads-requires-clause-callers : goal.assign_threads-requires-clause-callers
assign_threads-requires-clause-callers g c =
    let P : CallerState → Type 0 = λ x. slots_of x ≡ g.J.Naming.slots in
    (All-pop P c.args.callers.items c.pop.new.self.items (Some c.in-Some.own) c.in-Some.ensures.items c.requires.callers).0

pub assign_threads-requires-clause-new : goal.assign_threads-requires-clause-new
assign_threads-requires-clause-new g c =
    let P : CallerState → Type 0 = λ x. x ≡ g.J.Naming.fresh in
    (All-pop P c.args.callers.items c.pop.new.self.items (Some c.in-Some.own) c.in-Some.ensures.items c.requires.new).0

pub collect_callers-requires-clause-did : goal.collect_callers-requires-clause-did
collect_callers-requires-clause-did g c =
    let after = c.all_work-ended.new.workers in
    let len = c.in_ok-workers.workers.len in
    let same = take_at after (drop (length after) c.in_ok-workers.workers.items) len (search rules) in
    rw same c.all_work-ended.ensures.did

pub returns-clause-course : goal.returns-clause-course
returns-clause-course g c =
    let P : CallerState → Type 0 = λ x. x ≡ g.J.Naming.fresh in
    let new : c.in-Some.own ≡ g.J.Naming.fresh =
    (All-pop P c.args.callers.items c.pop.new.self.items (Some c.in-Some.own) c.in-Some.ensures.items c.requires.new).1 in
    course_from (is_some c.listener_of.result) (is_some c.args.start.now.admin) g.D.Documents.reads c.all_work-ended.result g.J.SettingsNaming.first (present_in c.args.roster) c.new.result c.all_work-ended.new.control.registrar (length c.of_thread.result.hub.now)
    (length g.J.Naming.slots) (g.I.Read.remaining c.args.console.now.input) (g.O.Write.contents c.args.console.now.output)
    (g.O.Write.contents c.all_work-ended.new.console.output) c.of_thread.result.caller g.J.Naming.fresh
    c.all_work-ended.new.control.context.caller _ _ _ (c.listener_of.ensures ∙ c.in_ok-shared.ensures.admin) (ap length (c.of_thread.ensures.hub ∙ c.in_ok-shared.ensures.hub ∙ c.requires.hub))
    (c.of_thread.ensures.caller ∙ new) (c.new.ensures ∙ c.requires.no_change) (rw c.into_caller-own.ensures.caller at c.in_ok-callers.ensures.own_first)
    c.all_work-ended.ensures.directed
