use Rattle.std.proofs.Common.{◌≡◌, ◌∙◌, sym, ap}
use Rattle.tenant_rules.specs.Ready.{ready}
use Rattle.tenant_rules.proofs.Least.{ready_in_order}
use Rattle.tenant_pipeline.specs.Invariant.{WrittenInvariant}
use Rattle.tenant_pipeline.specs.StateIn.{all_written, part_in, unsent_at, written_state_in}
use Rattle.tenant_pipeline.proofs.Beginning.{order_from_start}
use Rattle.tenant_pipeline.proofs.Behind.{behind_is, empty_by, job_behind, ready_is, some_by, state_none, to_written}
use Rattle.tenant_pipeline.proofs.pipeline.Pipeline.ready.Goals as goal

pub returns-then-not-is_empty : goal.returns-then-not-is_empty
returns-then-not-is_empty c =
    let own = c.args.self.now in
    let p = part_in own c.args.stores.now in
    let some = some_by own.unsent c.is_empty.result c.if-not-is_empty.true c.is_empty.ensures.1 in
    let is = behind_is own.unsent own some c.requires.invariant.behind in
    c.ready-job.ensures ∙ sym (ready_is (all_written own p) p is.decided is.fired_is ∙ job_behind (unsent_at p own.unsent) own.sender is.some)

pub next_timer-requires : goal.next_timer-requires
next_timer-requires c =
    let own = c.args.self.now in
    let none = empty_by own.unsent c.is_empty.result c.if-not-is_empty.false c.is_empty.ensures.0 in
    record { invariant = to_written own.clock own (part_in own c.args.stores.now) none c.requires.invariant }

pub returns : goal.returns
returns c =
    let own = c.args.self.now in
    let p = part_in own c.args.stores.now in
    let none = empty_by own.unsent c.is_empty.result c.if-not-is_empty.false c.is_empty.ensures.0 in
    let held : WrittenInvariant own c.args.stores.now = to_written own.clock own p none c.requires.invariant in
    let s = written_state_in own c.args.stores.now in
    let old : c.lesser.result ≡ ready s = let is = ready_in_order s (order_from_start own.clock s.waiting held.order) in cc in
    old ∙ sym (ap ready (state_none own p none))
