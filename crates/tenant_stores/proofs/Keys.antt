-- Keys that are named show a span each.
use Rattle.std.proofs.Common.{◌≡◌, ℕ, suc, ◌-◌, ◌<◌, ◌≤◌, List, [], ◌∷◌, map, refl, ap, sym, ◌∙◌, arith, Option, Some, None}
use Rattle.span_pool.specs.Stored.{StoredData}
use Rattle.trace_rows.specs.Part.{keys_of}
use Rattle.tenant_stores.specs.Part.{Part}
use Rattle.tenant_stores.specs.Counts.{Counts, in_table, count}
use Rattle.tenant_stores.specs.View.{shown, spans_at, keys_in}
use Rattle.tenant_stores.specs.Invariant.{one, named_keys, StoreInvariant}
use Rattle.tenant_stores.specs.Shows.{AreAmong, no_span, shown_or, span_at, KeysShow, KeysAreShown}
use Rattle.tenant_stores.proofs.Lists.{count-append, count-self}
use Rattle.tenant_stores.proofs.Rows.{named-replaced}

module _ {N : Type 0} (n : Counts) (pending held : List ℕ) (p : Part N) (sound : StoreInvariant n pending held p) where
  key_there : (key : ℕ) → 0 < count key (named_keys n pending p) → (span : StoredData) × (p.spans key ≡ Some span)
  key_there key some = by_span (p.spans key) refl
    where
      by_span : (o : Option StoredData) → p.spans key ≡ o → (span : StoredData) × (p.spans key ≡ Some span)
      by_span None e = let none : one (p.spans key) ≡ 0 = ap one e in absurd (omega (arith, some, sound.named key, none))
      by_span (Some span) e = (span, e)

  key_shows : (key : ℕ) → 0 < count key (named_keys n pending p) → shown p.texts (p.spans key) ≡ span_at p key ∷ []
  key_shows key some =
      let found = key_there key some in
      ap (shown p.texts) found.1 ∙ sym (ap (λ (o : Option StoredData). shown_or p.texts no_span o ∷ []) found.1)

  keys_each : (keys : List ℕ) → AreAmong keys (named_keys n pending p) → spans_at p.spans p.texts keys ≡ map (span_at p) keys
  keys_each keys among = by_keys keys (λ key some. omega (arith, some, among key))
    where
      by_keys : (ks : List ℕ) → ((key : ℕ) → 0 < count key ks → 0 < count key (named_keys n pending p)) → spans_at p.spans p.texts ks ≡ map (span_at p) ks
      by_keys [] named = refl
      by_keys (k ∷ ks) named =
          let here = key_shows k (named k (omega (arith, count-self k ks))) in
          let rest : (key : ℕ) → 0 < count key ks → 0 < count key (named_keys n pending p) = λ key some. named key (omega (arith, some)) in
          cc (here, by_keys ks rest)

  keys_of_row : (m : ℕ) → n.swept ≤ m → m < n.opened → AreAmong (keys_of (p.rows (suc m))) (named_keys n pending p)
  keys_of_row m le lt key = omega (arith, named-replaced None p.rows n.swept m n.opened key le lt, count-append key (keys_in p.rows (in_table n)) pending)

  keys_of_number : (number : ℕ) → n.swept < number → number ≤ n.opened → AreAmong (keys_of (p.rows number)) (named_keys n pending p)
  keys_of_number number above below key =
      let m = number - 1 in
      let e : number ≡ suc m = omega (arith, above) in
      let le = keys_of_row m (omega (arith, above)) (omega (arith, above, below)) key in
      let same : count key (keys_of (p.rows number)) ≡ count key (keys_of (p.rows (suc m))) = ap (λ (k : ℕ). count key (keys_of (p.rows k))) e in
      omega (arith, le, same)

  pub keys_show : KeysShow n pending p
  keys_show = record {
    there = key_there;
    each = keys_each;
    rows = keys_of_number;
    waits = λ key. omega (arith, count-append key (keys_in p.rows (in_table n)) pending);
  }

pub keys_are_shown : (N : Type 0) → KeysAreShown N
keys_are_shown N n pending held p sound = keys_show n pending held p sound
