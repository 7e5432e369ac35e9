use Rattle.std.proofs.Common.{◌≡◌, ◌++◌, ◌∙◌, refl, sym, ap, subst, Option, Some}
use Rattle.decision_cache.specs.Caches.{found, shown}
use Rattle.tail_policy.specs.declared.note.TraceNote.{TraceNote}
use Rattle.trace_rows.specs.declared.table.Row.{Row}
use Rattle.tenant_stores.specs.Part.{part}
use Rattle.tenant_pipeline.specs.declared.place.TraceState.{TraceState}
use Rattle.tenant_pipeline.specs.Posts.{IsTraceState, IsTraceStateAt, state_by_verdict}
use Rattle.tenant_pipeline.specs.StateIn.{counts_in, written_state_of}
use Rattle.tenant_pipeline.proofs.TraceStates.{absent_at, decided_at, is_absent, is_decided, it_waits}
use Rattle.tenant_pipeline.proofs.pipeline.Pipeline.trace_state.Goals as goal

pub returns-in_default-clause-state : goal.returns-in_default-clause-state
returns-in_default-clause-state c =
    let own = c.args.self.now in
    let p = part own.tenant c.args.stores.now in
    let held = c.requires.invariant in
    let shows = c.latest_row.ensures.shows (counts_in own) (held.1 ++ own.batcher.spans) held.2 held.3.sound in
    subst (λ (its_state : TraceState). IsTraceState c.args.trace its_state (written_state_of own p)) (sym c.cached_state.ensures)
    (is_absent own p c.args.trace (found c.args.trace (shown own.caches)) refl (shows.none (sym c.latest_row.ensures.value ∙ c.in_default.is)))

pub returns-in_default-clause-number : goal.returns-in_default-clause-number
returns-in_default-clause-number c =
    let own = c.args.self.now in
    let p = part own.tenant c.args.stores.now in
    subst (λ (its_state : TraceState). IsTraceStateAt c.args.trace its_state own p) (sym c.cached_state.ensures) (absent_at own p c.args.trace (found c.args.trace (shown own.caches)))

pub returns-then-number-self-clause-state : goal.returns-then-number-self-clause-state
returns-then-number-self-clause-state c =
    let own = c.args.self.now in
    let p = part own.tenant c.args.stores.now in
    let held = c.requires.invariant in
    let shows = c.latest_row.ensures.shows (counts_in own) (held.1 ++ own.batcher.spans) held.2 held.3.sound in
    subst (λ (its_state : TraceState). IsTraceState c.args.trace its_state (written_state_of own p)) (sym c.cached_state-then-number-self.ensures)
    (is_absent own p c.args.trace (found c.args.trace (shown own.caches)) refl (shows.gone c.in-Some.number (sym c.latest_row.ensures.value ∙ c.in-Some.is) c.if-number-self.true))

pub returns-then-number-self-clause-number : goal.returns-then-number-self-clause-number
returns-then-number-self-clause-number c =
    let own = c.args.self.now in
    let p = part own.tenant c.args.stores.now in
    subst (λ (its_state : TraceState). IsTraceStateAt c.args.trace its_state own p) (sym c.cached_state-then-number-self.ensures) (absent_at own p c.args.trace (found c.args.trace (shown own.caches)))

pub returns-then-number-self-2-clause-state : goal.returns-then-number-self-2-clause-state
returns-then-number-self-2-clause-state c =
    let own = c.args.self.now in
    let p = part own.tenant c.args.stores.now in
    let held = c.requires.invariant in
    let shows = c.latest_row.ensures.shows (counts_in own) (held.1 ++ own.batcher.spans) held.2 held.3.sound in
    it_waits own p c.args.trace c.in-Some.number (shows.waits c.in-Some.number (sym c.latest_row.ensures.value ∙ c.in-Some.is) c.if-number-self-2.true)

pub returns-clause-state : goal.returns-clause-state
returns-clause-state c =
    let own = c.args.self.now in
    let p = part own.tenant c.args.stores.now in
    let held = c.requires.invariant in
    let shows = c.latest_row.ensures.shows (counts_in own) (held.1 ++ own.batcher.spans) held.2 held.3.sound in
    let decided = shows.decided c.in-Some.number (sym c.latest_row.ensures.value ∙ c.in-Some.is) c.if-number-self.false c.if-number-self-2.false in
    let both : Path (Option (Row TraceNote)) (Some decided.row) (Some c.in-Some-row.row.now) = sym decided.there ∙ sym c.in-Some-row.ensures in
    let same : decided.row ≡ c.in-Some-row.row.now = cc in
    let verdict : state_by_verdict decided.row.sampled ≡ c.decided_state.result = ap (λ (r : Row TraceNote). state_by_verdict r.sampled) same ∙ sym c.decided_state.ensures in
    subst (λ (its_state : TraceState). IsTraceState c.args.trace its_state (written_state_of own p)) verdict (is_decided own p c.args.trace c.in-Some.number decided)

pub returns-clause-number : goal.returns-clause-number
returns-clause-number c =
    let own = c.args.self.now in
    let p = part own.tenant c.args.stores.now in
    subst (λ (its_state : TraceState). IsTraceStateAt c.args.trace its_state own p) (sym c.decided_state.ensures) (decided_at own p c.args.trace c.in-Some-row.row.now.sampled)
