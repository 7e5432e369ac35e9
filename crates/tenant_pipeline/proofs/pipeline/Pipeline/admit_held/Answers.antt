use Rattle.std.proofs.Common.{arith, ◌≡◌, ◌<◌, ◌+◌, ◌∙◌, ℕ, List, sym, ap, refl, subst, true, false, Some, None}
use Rattle.std.specs.Prelude.{nat_lt}
use Rattle.std.proofs.lemmas.Bool.Decides.{nat_tests}
use Rattle.std.proofs.lemmas.Result.{on_ok_weaker}
use Rattle.decision_cache.specs.Caches.{found}
use Rattle.drop_ledger.specs.Ledger.{moved, taken}
use Rattle.drop_ledger.specs.declared.places.Place.TheVariants.{Undecided, NotSampled}
use Rattle.prepared_body.specs.Arrivals.{arrival_in}
use Rattle.tenant_stores.specs.Part.{part}
use Rattle.tenant_rules.specs.Arrivals.{trace_of}
use Rattle.tenant_rules.specs.Machine.{cached_or_opens, come, counted_in, has_row, held as held_spans, sampled_in}
use Rattle.tenant_rules.specs.State.{State}
use Rattle.tenant_rules.specs.Timers.{recount}
use Rattle.tenant_pipeline.specs.declared.pipeline.Pipeline.{Pipeline}
use Rattle.tenant_pipeline.specs.Posts.{CameNext, CameUnsampled, IsSameTenant, IsWrittenWith}
use Rattle.tenant_pipeline.specs.StateIn.{part_in, written_state_of}
use Rattle.tenant_pipeline.proofs.Holds.{no_room, recounted, unkept, written_on}
use Rattle.tenant_pipeline.proofs.Late.{lost_came}
use Rattle.tenant_pipeline.proofs.Placing.{came_by}
use Rattle.tenant_pipeline.proofs.TraceStates.{it_hits, it_is_lost}
use Rattle.tenant_pipeline.proofs.pipeline.Pipeline.admit_held.Goals as goal

pub returns-then-not-has_room-clause-came : goal.returns-then-not-has_room-clause-came
returns-then-not-has_room-clause-came c =
    no_room c.args.moment c.args.origins.now c.args.journal.now c.args.held.now c.args.span.now c.args.self.now (part_in c.args.self.now c.args.stores.now) c.requires.next (sym c.has_room.ensures ∙ c.if-not-has_room.true)

pub returns-in-Unsampled-clause-full : goal.returns-in-Unsampled-clause-full
returns-in-Unsampled-clause-full c = λ full.
    let contrary : true ≡ false = sym c.if-not-has_room.false ∙ (c.has_room.ensures ∙ full) in
    cc

pub returns-in-CachedUnsampled-clause-full : goal.returns-in-CachedUnsampled-clause-full
returns-in-CachedUnsampled-clause-full c = λ full.
    let contrary : true ≡ false = sym c.if-not-has_room.false ∙ (c.has_room.ensures ∙ full) in
    cc

pub returns-in-Kept-clause-full : goal.returns-in-Kept-clause-full
returns-in-Kept-clause-full c = λ full.
    let contrary : true ≡ false = sym c.if-not-has_room.false ∙ (c.has_room.ensures ∙ full) in
    cc

-- ---- its trace was decided, and isn't sampled

pub returns-in-Unsampled-clause-came : goal.returns-in-Unsampled-clause-came
returns-in-Unsampled-clause-came c =
    let own = c.args.self.now in
    let p = part_in own c.args.stores.now in
    let s = written_state_of own p in
    let m = c.args.moment in
    let x = arrival_in c.args.origins.now c.args.span.now in
    let journal = c.args.journal.now in
    let room : nat_lt (held_spans s) s.section.max_spans ≡ true = sym c.has_room.ensures ∙ c.if-not-has_room.false in
    let test : nat_lt (own.ledger.places.undecided + own.ledger.places.pending) own.section.max_spans ≡ true = room in
    let budget : own.ledger.places.undecided + own.ledger.places.pending < own.section.max_spans = grind (arith, nat_tests, test) in
    let trace = c.requires.next.ready.trace in
    let its_state = c.in-Unsampled.ensures.state in
    let none : has_row (trace_of x) s.waiting ≡ false = ap (λ (t : List ℕ). has_row t s.waiting) (sym trace) ∙ its_state.0 in
    let sampled : sampled_in (trace_of x) s.settled ≡ Some false =
    ap (λ (t : List ℕ). sampled_in t s.settled) (sym trace) ∙ its_state.1 in
    let new : Pipeline = record own { ledger = moved Undecided NotSampled 1 (taken 1 own.ledger) } in
    let came = came_by (λ (t : State). recount Undecided NotSampled 1 (counted_in t)) (come m x) m journal journal journal own new p p
    (it_is_lost m x s room none sampled) refl (lost_came own p m c.requires.fits budget journal journal refl) in
    subst (λ (o : Pipeline). CameNext (come m x) m journal c.args.origins.now c.args.held.now own o p (part_in o c.args.stores.now)) (sym c.count_unsampled.ensures)
    (unkept (come m x) m c.args.origins.now journal c.args.held.now c.args.span.now own new p c.requires.next came)

pub returns-in-Unsampled-clause-written : goal.returns-in-Unsampled-clause-written
returns-in-Unsampled-clause-written c = λ start first written.
    let own = c.args.self.now in
    let p = part_in own c.args.stores.now in
    let journal = c.args.journal.now in
    let ledger = moved Undecided NotSampled 1 (taken 1 own.ledger) in
    let new : Pipeline = record own { ledger = ledger } in
    subst (λ (o : Pipeline). IsWrittenWith journal c.args.held.now start o first (part_in o c.args.stores.now)) (sym c.count_unsampled.ensures)
    (written_on c.args.held.now journal journal own new p p (λ s f w. recounted ledger journal s own f p w) start first written)

pub returns-in-Unsampled-clause-same : goal.returns-in-Unsampled-clause-same
returns-in-Unsampled-clause-same c =
    let own = c.args.self.now in
    let is : IsSameTenant own (record own { ledger = moved Undecided NotSampled 1 (taken 1 own.ledger) }) = record { tenant = refl; section = refl; clock = refl; drained = refl } in
    subst (λ (o : Pipeline). IsSameTenant own o) (sym c.count_unsampled.ensures) is

-- ---- a cache knows that it isn't

pub hit_unsampled-requires-clause-known : goal.hit_unsampled-requires-clause-known
hit_unsampled-requires-clause-known c = c.in-CachedUnsampled.ensures.state.2

pub returns-in-CachedUnsampled-clause-came : goal.returns-in-CachedUnsampled-clause-came
returns-in-CachedUnsampled-clause-came c =
    let own = c.args.self.now in
    let new = c.hit_unsampled.new.self in
    let p = part_in own c.args.stores.now in
    let s = written_state_of own p in
    let m = c.args.moment in
    let x = arrival_in c.args.origins.now c.args.span.now in
    let journal = c.args.journal.now in
    let room : nat_lt (held_spans s) s.section.max_spans ≡ true = sym c.has_room.ensures ∙ c.if-not-has_room.false in
    let trace = c.requires.next.ready.trace in
    let its_state = c.in-CachedUnsampled.ensures.state in
    let none : has_row (trace_of x) s.waiting ≡ false = ap (λ (t : List ℕ). has_row t s.waiting) (sym trace) ∙ its_state.0 in
    let sampled : sampled_in (trace_of x) s.settled ≡ None = ap (λ (t : List ℕ). sampled_in t s.settled) (sym trace) ∙ its_state.1 in
    let known : found (trace_of x) s.caches ≡ Some false =
    ap (λ (t : List ℕ). found t s.caches) (sym trace) ∙ its_state.2 in
    let tenant = c.hit_unsampled.ensures.same.tenant in
    on_ok_weaker c.hit_unsampled.result
    (λ (came : CameUnsampled c.args.span.now.trace own new).
    let here = came_by (λ (t : State). cached_or_opens m x (Some false) (counted_in t)) (come m x) m journal journal journal own new p p
    (it_hits m x s room false none sampled known) refl (came p m journal x trace) in
    subst (λ (t : ℕ). CameNext (come m x) m journal c.args.origins.now c.args.held.now own new p (part t c.args.stores.now)) (sym tenant)
    (unkept (come m x) m c.args.origins.now journal c.args.held.now c.args.span.now own new p c.requires.next here))
    c.hit_unsampled.ensures.came

pub returns-in-CachedUnsampled-clause-written : goal.returns-in-CachedUnsampled-clause-written
returns-in-CachedUnsampled-clause-written c = λ start first written.
    let own = c.args.self.now in
    let new = c.hit_unsampled.new.self in
    let p = part_in own c.args.stores.now in
    let journal = c.args.journal.now in
    subst (λ (t : ℕ). IsWrittenWith journal c.args.held.now start new first (part t c.args.stores.now)) (sym c.hit_unsampled.ensures.same.tenant)
    (written_on c.args.held.now journal journal own new p p (λ s f w. c.hit_unsampled.ensures.written p f journal s w) start first written)
