-- Batches that aren't written: their spans, in the stores and as they are sent.
use Rattle.std.proofs.Common.{◌≡◌, ◌<◌, ◌+◌, ◌++◌, ◌∙◌, ℕ, List, [], ◌∷◌, length, map, refl, sym, ap, subst, arith, append_assoc, length-append, Bool, true, false, cond, eqb, Option, Some, None}
use Rattle.std.proofs.lemmas.Bool.Decides.{nat_tests}
use Rattle.std.proofs.lemmas.List.{length-map, map-append}
use Rattle.span_batcher.specs.Batches.{Batch}
use Rattle.span_batcher.specs.Maps.{spans_of}
use Rattle.span_pool.specs.Stored.{StoredData, SpanTexts}
use Rattle.tail_policy.specs.declared.note.TraceNote.{TraceNote}
use Rattle.tenant_stores.specs.Part.{Part}
use Rattle.tenant_stores.specs.Counts.{Counts, count}
use Rattle.tenant_stores.specs.Invariant.{StoreInvariant}
use Rattle.tenant_stores.specs.Shows.{AreAmong, span_at}
use Rattle.tenant_stores.specs.View.{spans_at}
use Rattle.tenant_stores.proofs.Keys.{keys_are_shown}
use Rattle.tenant_stores.proofs.Lists.{count-append, count-self}
use Rattle.tenant_rules.specs.Arrivals.{Arrival}
use Rattle.tenant_rules.specs.Batching.{as_sent, all_sent}
use Rattle.tenant_rules.specs.Sender.{BatchData, sizes}
use Rattle.tenant_pipeline.specs.StateIn.{arrivals_at, arrivals_of, batch_at, unsent_at}
use Rattle.tenant_pipeline.specs.Outbox.{AreThere}
use Rattle.tenant_pipeline.proofs.Spans.{arrival_or, there_is, there-front, there-back}

-- ---- keys that are named

-- have their spans
pub named_there : (n : Counts) (pending held : List ℕ) (p : Part TraceNote) → StoreInvariant n pending held p → AreThere p pending
named_there n pending held p sound key some none =
    let shows = keys_are_shown TraceNote n pending held p sound in
    let waits = shows.waits key in
    let found = shows.there key (omega (arith, waits, some)) in
    let clash : Path (Option StoredData) (Some found.0) None = sym found.1 ∙ none in
    absurd (cc)

pub there_size : (p : Part TraceNote) (keys : List ℕ) → AreThere p keys → length (arrivals_at p keys) ≡ length keys
there_size p keys there = ap length (there_is p keys there) ∙ length-map keys (arrival_or p)

-- how many spans batches have
pub unsent_sizes : (p : Part TraceNote) (us : List (Batch ℕ)) → AreThere p (spans_of us) → sizes (unsent_at p us) ≡ length (spans_of us)
unsent_sizes p [] there = refl
unsent_sizes p (u ∷ us) there =
    let first = there_size p u.spans (there-front p u.spans (spans_of us) there) in
    let rest = unsent_sizes p us (there-back p u.spans (spans_of us) there) in
    let both = length-append u.spans (spans_of us) in
    let all : length (arrivals_at p u.spans) + sizes (unsent_at p us) ≡ length (u.spans ++ spans_of us) = omega (arith, first, rest, both) in
    all

pub unsent_length : (p : Part TraceNote) (us : List (Batch ℕ)) → length (unsent_at p us) ≡ length us
unsent_length p us = length-map (map (batch_at p) us) as_sent ∙ length-map us (batch_at p)

pub unsent-append : (p : Part TraceNote) (us vs : List (Batch ℕ)) → unsent_at p (us ++ vs) ≡ unsent_at p us ++ unsent_at p vs
unsent-append p us vs = ap all_sent (map-append (batch_at p) us vs) ∙ map-append as_sent (map (batch_at p) us) (map (batch_at p) vs)

pub spans_of-append : (us vs : List (Batch ℕ)) → spans_of (us ++ vs) ≡ spans_of us ++ spans_of vs
spans_of-append [] vs = refl
spans_of-append (u ∷ us) vs =
    ap (λ (ks : List ℕ). u.spans ++ ks) (spans_of-append us vs) ∙ sym (append_assoc u.spans (spans_of us) (spans_of vs))

-- ---- keys that show the same

-- these keys show what they did
abbrev pub ShowSame : List ℕ → (p q : Part TraceNote) → Type 0
ShowSame keys p q = spans_at q.spans q.texts keys ≡ spans_at p.spans p.texts keys

-- so do batches of such keys
pub unsent_same : (us : List (Batch ℕ)) (p q : Part TraceNote) → ((keys : List ℕ) → AreAmong keys (spans_of us) → ShowSame keys p q) → unsent_at q us ≡ unsent_at p us
unsent_same [] p q same = refl
unsent_same (u ∷ us) p q same =
    let front : AreAmong u.spans (spans_of (u ∷ us)) = λ key. let both = count-append key u.spans (spans_of us) in omega (arith, both) in
    let here : arrivals_at q u.spans ≡ arrivals_at p u.spans = ap arrivals_of (same u.spans front) in
    let back : (keys : List ℕ) → AreAmong keys (spans_of us) → ShowSame keys p q = λ keys among.
    same keys (λ key. let both = count-append key u.spans (spans_of us) in let few = among key in omega (arith, both, few)) in
    ap (λ (as' : List Arrival). as_sent (record { moment = u.moment; spans = as' }) ∷ unsent_at q us) here
    ∙ ap (λ (bs : List BatchData). as_sent (record { moment = u.moment; spans = arrivals_at p u.spans }) ∷ bs) (unsent_same us p q back)

-- of keys that show the same as a whole each does
map_each : (f g : ℕ → SpanTexts) (keys : List ℕ) → map f keys ≡ map g keys → (key : ℕ) → 0 < count key keys → f key ≡ g key
map_each f g [] same key some = absurd (omega (arith, some))
map_each f g (k ∷ ks) same key some = by_test (eqb k key) refl some (map_each f g ks rest key)
  where
    head : f k ≡ g k
    head = cc (same)

    rest : map f ks ≡ map g ks
    rest = cc (same)

    by_test : (b : Bool) → eqb k key ≡ b → 0 < cond b 1 0 + count key ks → (0 < count key ks → f key ≡ g key) → f key ≡ g key
    by_test true is some ih =
        let at : k ≡ key = grind (arith, nat_tests, is) in
        subst (λ (j : ℕ). f j ≡ g j) at head
    by_test false is some ih = ih (omega (arith, some))

maps_same : (f g : ℕ → SpanTexts) (keys : List ℕ) → ((key : ℕ) → 0 < count key keys → f key ≡ g key) → map f keys ≡ map g keys
maps_same f g [] same = refl
maps_same f g (k ∷ ks) same =
    let self = count-self k ks in
    let here : f k ≡ g k = same k (omega (arith, self)) in
    let rest : map f ks ≡ map g ks = maps_same f g ks (λ key some. same key (omega (arith, some))) in
    cc (here, rest)

module _ (all : List ℕ) (p q : Part TraceNote) (old : (keys : List ℕ) → AreAmong keys all → spans_at p.spans p.texts keys ≡ map (span_at p) keys)
    (new : (keys : List ℕ) → AreAmong keys all → spans_at q.spans q.texts keys ≡ map (span_at q) keys) (same : ShowSame all p q) where
  pub some_same : (keys : List ℕ) → AreAmong keys all → ShowSame keys p q
  some_same keys among =
      let whole : map (span_at q) all ≡ map (span_at p) all = sym (new all (λ key. omega arith)) ∙ (same ∙ old all (λ key. omega arith)) in
      let each : map (span_at q) keys ≡ map (span_at p) keys = maps_same (span_at q) (span_at p) keys (λ key some. map_each (span_at q) (span_at p) all whole key (let few = among key in omega (arith, few, some))) in
      new keys among ∙ (each ∙ sym (old keys among))
