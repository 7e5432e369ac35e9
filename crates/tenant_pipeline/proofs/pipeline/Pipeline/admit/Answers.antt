use Rattle.std.proofs.Common.{arith, ◌≡◌, ◌+◌, ◌∙◌, ℕ, List, [], ◌∷◌, refl, sym, ap, subst, true, false, Some, None}
use Rattle.std.specs.Prelude.{nat_lt}
use Rattle.std.proofs.lemmas.Bool.Decides.{nat_tests}
use Rattle.std.proofs.lemmas.Result.{on_ok_weaker}
use Rattle.decision_cache.specs.Caches.{found}
use Rattle.drop_ledger.specs.declared.places.Place.TheVariants.{Undecided}
use Rattle.tenant_stores.specs.Part.{part}
use Rattle.tenant_rules.specs.Arrivals.{trace_of}
use Rattle.tenant_rules.specs.Machine.{cached_or_opens, come, counted_in, evicted, has_row, joins, opens, sampled_in}
use Rattle.tenant_rules.specs.State.{State}
use Rattle.tenant_rules.specs.Timers.{grouped}
use Rattle.tenant_pipeline.specs.declared.journal.Journal.{Journal}
use Rattle.tenant_pipeline.specs.declared.place.KeptState.{KeptState}
use Rattle.tenant_pipeline.specs.StateIn.{part_in, written_state_of}
use Rattle.tenant_pipeline.specs.Posts.{arrival_at, IsKeptState}
use Rattle.tenant_pipeline.proofs.Placing.{came_by, written_same}
use Rattle.tenant_pipeline.proofs.TraceStates.{it_comes_late, it_hits, it_joins, it_opens}
use Rattle.tenant_pipeline.proofs.pipeline.Pipeline.admit.Goals as goal

pub returns-in-Waits-clause-came : goal.returns-in-Waits-clause-came
returns-in-Waits-clause-came c =
    let own = c.args.self.now in
    let p = part own.tenant c.args.stores.now in
    let s = written_state_of own p in
    let m = c.args.moment in
    let x = arrival_at p c.args.keys.now.keys c.args.span.now.text in
    let journal = c.args.journal.now in
    let ready : Journal = record { placed = c.reserve.new.self; undo = journal.undo; hits = journal.hits } in
    let budget = c.requires.budget in
    let room : nat_lt (own.ledger.places.undecided + own.ledger.places.pending) own.section.max_spans ≡ true = grind (arith, nat_tests, budget) in
    let trace = c.requires.coming.1.trace in
    let has : has_row (trace_of x) s.waiting ≡ true = ap (λ (t : List ℕ). has_row t s.waiting) (sym trace) ∙ subst (λ (its_state : KeptState). IsKeptState c.args.span.now.trace its_state s) c.in-Waits.is c.requires.state in
    on_ok_weaker c.join.result
    (came_by (λ (t : State). joins x (counted_in t)) (come m x) m ready journal c.join.new.journal own c.join.new.self p (part_in c.join.new.self c.join.new.stores) (it_joins m x s room has) refl)
    c.join.ensures.came

pub returns-in-Waits-clause-written : goal.returns-in-Waits-clause-written
returns-in-Waits-clause-written c = λ start first written.
    let own = c.args.self.now in
    let p = part own.tenant c.args.stores.now in
    let journal = c.args.journal.now in
    let ready : Journal = record { placed = c.reserve.new.self; undo = journal.undo; hits = journal.hits } in
    c.join.ensures.written start first (written_same journal ready start own first p c.reserve.ensures.items refl refl written)

pub returns-in-Decided-clause-came : goal.returns-in-Decided-clause-came
returns-in-Decided-clause-came c =
    let own = c.args.self.now in
    let p = part own.tenant c.args.stores.now in
    let s = written_state_of own p in
    let m = c.args.moment in
    let x = arrival_at p c.args.keys.now.keys c.args.span.now.text in
    let journal = c.args.journal.now in
    let ready : Journal = record { placed = c.reserve.new.self; undo = journal.undo; hits = journal.hits } in
    let budget = c.requires.budget in
    let room : nat_lt (own.ledger.places.undecided + own.ledger.places.pending) own.section.max_spans ≡ true = grind (arith, nat_tests, budget) in
    let trace = c.requires.coming.1.trace in
    let its_state = subst (λ (its_state : KeptState). IsKeptState c.args.span.now.trace its_state s) c.in-Decided.is c.requires.state in
    let none : has_row (trace_of x) s.waiting ≡ false = ap (λ (t : List ℕ). has_row t s.waiting) (sym trace) ∙ its_state.0 in
    let sampled : sampled_in (trace_of x) s.settled ≡ Some true =
    ap (λ (t : List ℕ). sampled_in t s.settled) (sym trace) ∙ its_state.1 in
    on_ok_weaker c.admit_late.result
    (came_by (λ (t : State). grouped Undecided m (x ∷ []) (counted_in t)) (come m x) m ready journal c.admit_late.new.journal own c.admit_late.new.self p (part_in c.admit_late.new.self c.admit_late.new.stores) (it_comes_late m x s room none sampled) refl)
    c.admit_late.ensures.came

pub returns-in-Decided-clause-written : goal.returns-in-Decided-clause-written
returns-in-Decided-clause-written c = λ start first written.
    let own = c.args.self.now in
    let p = part own.tenant c.args.stores.now in
    let journal = c.args.journal.now in
    let ready : Journal = record { placed = c.reserve.new.self; undo = journal.undo; hits = journal.hits } in
    c.admit_late.ensures.written start first (written_same journal ready start own first p c.reserve.ensures.items refl refl written)

pub hit_sampled-requires-clause-known : goal.hit_sampled-requires-clause-known
hit_sampled-requires-clause-known c =
    let s = written_state_of c.args.self.now (part c.args.self.now.tenant c.args.stores.now) in
    let its_state = subst (λ (its_state : KeptState). IsKeptState c.args.span.now.trace its_state s) c.in-Cached.is c.requires.state in
    its_state.2

pub returns-in-Cached-clause-came : goal.returns-in-Cached-clause-came
returns-in-Cached-clause-came c =
    let own = c.args.self.now in
    let p = part own.tenant c.args.stores.now in
    let s = written_state_of own p in
    let m = c.args.moment in
    let x = arrival_at p c.args.keys.now.keys c.args.span.now.text in
    let journal = c.args.journal.now in
    let ready : Journal = record { placed = c.reserve.new.self; undo = journal.undo; hits = journal.hits } in
    let budget = c.requires.budget in
    let room : nat_lt (own.ledger.places.undecided + own.ledger.places.pending) own.section.max_spans ≡ true = grind (arith, nat_tests, budget) in
    let trace = c.requires.coming.1.trace in
    let its_state = subst (λ (its_state : KeptState). IsKeptState c.args.span.now.trace its_state s) c.in-Cached.is c.requires.state in
    let none : has_row (trace_of x) s.waiting ≡ false = ap (λ (t : List ℕ). has_row t s.waiting) (sym trace) ∙ its_state.0 in
    let sampled : sampled_in (trace_of x) s.settled ≡ None = ap (λ (t : List ℕ). sampled_in t s.settled) (sym trace) ∙ its_state.1 in
    let known : found (trace_of x) s.caches ≡ Some true = ap (λ (t : List ℕ). found t s.caches) (sym trace) ∙ its_state.2 in
    on_ok_weaker c.hit_sampled.result
    (came_by (λ (t : State). cached_or_opens m x (Some true) (counted_in t)) (come m x) m ready journal c.hit_sampled.new.journal own c.hit_sampled.new.self p (part_in c.hit_sampled.new.self c.hit_sampled.new.stores) (it_hits m x s room true none sampled known) refl)
    c.hit_sampled.ensures.came

pub returns-in-Cached-clause-written : goal.returns-in-Cached-clause-written
returns-in-Cached-clause-written c = λ start first written.
    let own = c.args.self.now in
    let p = part own.tenant c.args.stores.now in
    let journal = c.args.journal.now in
    let ready : Journal = record { placed = c.reserve.new.self; undo = journal.undo; hits = journal.hits } in
    c.hit_sampled.ensures.written start first (written_same journal ready start own first p c.reserve.ensures.items refl refl written)

pub returns-in-Nowhere-clause-came : goal.returns-in-Nowhere-clause-came
returns-in-Nowhere-clause-came c =
    let own = c.args.self.now in
    let p = part own.tenant c.args.stores.now in
    let s = written_state_of own p in
    let m = c.args.moment in
    let x = arrival_at p c.args.keys.now.keys c.args.span.now.text in
    let journal = c.args.journal.now in
    let ready : Journal = record { placed = c.reserve.new.self; undo = journal.undo; hits = journal.hits } in
    let budget = c.requires.budget in
    let room : nat_lt (own.ledger.places.undecided + own.ledger.places.pending) own.section.max_spans ≡ true = grind (arith, nat_tests, budget) in
    let trace = c.requires.coming.1.trace in
    let its_state = subst (λ (its_state : KeptState). IsKeptState c.args.span.now.trace its_state s) c.in-Nowhere.is c.requires.state in
    let none : has_row (trace_of x) s.waiting ≡ false = ap (λ (t : List ℕ). has_row t s.waiting) (sym trace) ∙ its_state.0 in
    let sampled : sampled_in (trace_of x) s.settled ≡ None = ap (λ (t : List ℕ). sampled_in t s.settled) (sym trace) ∙ its_state.1 in
    let new : found (trace_of x) s.caches ≡ None = ap (λ (t : List ℕ). found t s.caches) (sym trace) ∙ its_state.2 in
    on_ok_weaker c.open.result
    (came_by (λ (t : State). opens m x (evicted (counted_in t))) (come m x) m ready journal c.open.new.journal own c.open.new.self p (part_in c.open.new.self c.open.new.stores) (it_opens m x s room none sampled new) refl)
    c.open.ensures.came

pub returns-in-Nowhere-clause-written : goal.returns-in-Nowhere-clause-written
returns-in-Nowhere-clause-written c = λ start first written.
    let own = c.args.self.now in
    let p = part own.tenant c.args.stores.now in
    let journal = c.args.journal.now in
    let ready : Journal = record { placed = c.reserve.new.self; undo = journal.undo; hits = journal.hits } in
    c.open.ensures.written start first (written_same journal ready start own first p c.reserve.ensures.items refl refl written)
