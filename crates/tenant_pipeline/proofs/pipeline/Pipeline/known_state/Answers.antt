use Rattle.std.proofs.Common.{◌≡◌, ◌∙◌, ◌++◌, ◌&&◌, sym, true, eqb}
use Rattle.std.proofs.lemmas.Bool.{and_parts, eqb-true}
use Rattle.trace_rows.specs.Maps.{halves}
use Rattle.tenant_stores.specs.Part.{part}
use Rattle.tenant_stores.proofs.Seats.{seat_shows}
use Rattle.tenant_pipeline.specs.StateIn.{counts_in}
use Rattle.tenant_pipeline.proofs.Lasts.{known_last, known_latest}
use Rattle.tenant_pipeline.proofs.TraceStates.{it_waits}
use Rattle.tenant_pipeline.proofs.pipeline.Pipeline.known_state.Goals as goal

pub returns-then-eq-clause-state : goal.returns-then-eq-clause-state
returns-then-eq-clause-state c =
    let own = c.args.self.now in
    let p = part own.tenant c.args.stores.now in
    let held = c.requires.invariant in
    let row = c.in-Some.row in
    let id = c.halves_of in
    let both : (eqb row.trace.0 id.result.0 && eqb row.trace.1 id.result.1) ≡ true = sym c.eq.ensures ∙ c.if-eq.true in
    let parts = and_parts (eqb row.trace.0 id.result.0) (eqb row.trace.1 id.result.1) both in
    let same : halves c.args.trace ≡ row.trace = sym id.ensures.halves ∙ sym (λ i. (eqb-true row.trace.0 id.result.0 parts.0 i, eqb-true row.trace.1 id.result.1 parts.1 i)) in
    let latest = known_latest c.args.last row own p c.in-Some.is c.requires.last c.args.trace id.ensures.id same in
    let above = known_last c.args.last row own p c.in-Some.is c.requires.last in
    let shows = seat_shows (counts_in own) (held.1 ++ own.batcher.spans) held.2 p c.args.trace held.3.sound in
    it_waits own p c.args.trace row.number (shows.waits row.number latest above.1)

pub returns-then-eq-clause-number : goal.returns-then-eq-clause-number
returns-then-eq-clause-number c =
    let own = c.args.self.now in
    let p = part own.tenant c.args.stores.now in
    let row = c.in-Some.row in
    let id = c.halves_of in
    let both : (eqb row.trace.0 id.result.0 && eqb row.trace.1 id.result.1) ≡ true = sym c.eq.ensures ∙ c.if-eq.true in
    let parts = and_parts (eqb row.trace.0 id.result.0) (eqb row.trace.1 id.result.1) both in
    let same : halves c.args.trace ≡ row.trace = sym id.ensures.halves ∙ sym (λ i. (eqb-true row.trace.0 id.result.0 parts.0 i, eqb-true row.trace.1 id.result.1 parts.1 i)) in
    let above = known_last c.args.last row own p c.in-Some.is c.requires.last in
    (known_latest c.args.last row own p c.in-Some.is c.requires.last c.args.trace id.ensures.id same, above.1)
