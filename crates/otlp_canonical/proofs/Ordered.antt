-- Fields that are put in order make the span that they make as they stand.
use Rattle.std.proofs.Common.{◌≡◌, ℕ, ◌<◌, ◌≤◌, Bool, true, false, nat_lt, List, [], ◌∷◌, ◌++◌, Result, Ok, refl, sym, ap, ◌∙◌, append_assoc, arith}
use Rattle.std.proofs.lemmas.Bool.Decides.{nat_tests}
use Rattle.std.specs.List.{AllByRecursion}
use Rattle.pb_wire.specs.Grammar.{Datum, Varint, Eight, Bytes, Four, Group}
use Rattle.otlp_trace.specs.Data.{SpanData}
use Rattle.otlp_read.specs.declared.fault.ReadFault.{ReadFault}
use Rattle.otlp_read.specs.Value.{span_step}
use Rattle.otlp_read.specs.Walk.{◌>>=◌, Piece, fold_fields}
use Rattle.otlp_read.proofs.Laws.{bind_ok, fold_append}
use Rattle.otlp_read.proofs.Sound.{by_test}
use Rattle.otlp_canonical.specs.Order.{is_known, place_at, place_of, from, between}
use Rattle.otlp_canonical.proofs.Mixed.{swapped}

-- the field stands before this place
abbrev pub before : ℕ → Piece → Bool
before high p = nat_lt (place_of p.field) high

module _ (room : ℕ) where
  -- one field moves before others whose places are all before its own
  moved : (high : ℕ) (xs : List Piece) (p : Piece) (ys : List Piece) (s t : SpanData) → AllByRecursion (λ x. before high x ≡ true) xs → before high p ≡ false
      → fold_fields (span_step room) s (xs ++ p ∷ ys) ≡ Ok t → fold_fields (span_step room) s (p ∷ (xs ++ ys)) ≡ Ok t
  moved high [] p ys s t all last made = made
  moved high (x ∷ xs) p ys s t all last made =
      let one = bind_ok (span_step room s x.field x.spelled) (λ a. fold_fields (span_step room) a (xs ++ p ∷ ys)) t made in
      let two = bind_ok (span_step room one.0 p.field p.spelled) (λ b. fold_fields (span_step room) b (xs ++ ys)) t (moved high xs p ys one.0 t all.1 last one.2) in
      let other = swapped room (λ n. nat_lt n high) s one.0 two.0 x.field p.field x.spelled p.spelled all.0 last one.1 two.1 in
      ap (λ (r : Result SpanData ReadFault). r >>= λ b. fold_fields (span_step room) b (x ∷ (xs ++ ys))) other.1
      ∙ ap (λ (r : Result SpanData ReadFault). r >>= λ b. fold_fields (span_step room) b (xs ++ ys)) other.2 ∙ two.2

  all_before : (low high : ℕ) (ps : List Piece) → AllByRecursion (λ x. before high x ≡ true) (between low high ps)
  all_before low high [] = tt
  all_before low high (p ∷ ps) =
      by_test (nat_lt (place_of p.field) low) (λ early. rw early (all_before low high ps)) λ late.
      by_test (nat_lt (place_of p.field) high) (λ is. rw (late, is) (is, all_before low high ps)) λ behind.
      rw (late, behind) (all_before low high ps)

  then : (p : Piece) (s t : SpanData) (xs ys : List Piece) → ((b : SpanData) → fold_fields (span_step room) b xs ≡ Ok t → fold_fields (span_step room) b ys ≡ Ok t)
      → fold_fields (span_step room) s (p ∷ xs) ≡ Ok t → fold_fields (span_step room) s (p ∷ ys) ≡ Ok t
  then p s t xs ys same made =
      let one = bind_ok (span_step room s p.field p.spelled) (λ b. fold_fields (span_step room) b xs) t made in
      ap (λ (r : Result SpanData ReadFault). r >>= λ b. fold_fields (span_step room) b ys) one.1 ∙ same one.0 one.2

  -- those before a place, and then the others
  pub two_parts : (low high : ℕ) (ps : List Piece) (s t : SpanData) → low ≤ high → fold_fields (span_step room) s (between low high ps ++ from high ps) ≡ Ok t → fold_fields (span_step room) s (from low ps) ≡ Ok t
  two_parts low high [] s t le made = made
  two_parts low high (p ∷ ps) s t le made =
      by_test (nat_lt (place_of p.field) low)
      (λ early.
      let is : nat_lt (place_of p.field) high ≡ true = grind (arith, nat_tests) in
      rw early (two_parts low high ps s t le (rw (early, is) at made))) λ late.
      by_test (nat_lt (place_of p.field) high)
      (λ is. rw late (then p s t (between low high ps ++ from high ps) (from low ps) (λ b. two_parts low high ps b t le) (rw (late, is) at made))) λ behind.
      rw late (then p s t (between low high ps ++ from high ps) (from low ps) (λ b. two_parts low high ps b t le)
      (moved high (between low high ps) p (from high ps) s t (all_before low high ps) behind (rw (late, behind) at made)))

  after : (r : Result SpanData ReadFault) (t : SpanData) (xs ys : List Piece) → ((b : SpanData) → fold_fields (span_step room) b xs ≡ Ok t → fold_fields (span_step room) b ys ≡ Ok t)
      → (r >>= λ b. fold_fields (span_step room) b xs) ≡ Ok t → (r >>= λ b. fold_fields (span_step room) b ys) ≡ Ok t
  after r t xs ys same made =
      let one = bind_ok r (λ b. fold_fields (span_step room) b xs) t made in
      ap (λ (q : Result SpanData ReadFault). q >>= λ b. fold_fields (span_step room) b ys) one.1 ∙ same one.0 one.2

  pub next_part : (low high : ℕ) (sorted ps : List Piece) (s t : SpanData) → low ≤ high → fold_fields (span_step room) s ((sorted ++ between low high ps) ++ from high ps) ≡ Ok t
      → fold_fields (span_step room) s (sorted ++ from low ps) ≡ Ok t
  next_part low high sorted ps s t le made =
      let parts : fold_fields (span_step room) s (sorted ++ (between low high ps ++ from high ps)) ≡ Ok t = ap (fold_fields (span_step room) s) (sym (append_assoc sorted (between low high ps) (from high ps))) ∙ made in
      fold_append (span_step room) s sorted (from low ps)
      ∙ after (fold_fields (span_step room) s sorted) t (between low high ps ++ from high ps) (from low ps) (λ b. two_parts low high ps b t le) (sym (fold_append (span_step room) s sorted (between low high ps ++ from high ps)) ∙ parts)

-- all of them
pub from_first : (ps : List Piece) → from 0 ps ≡ ps
from_first [] = refl
from_first (p ∷ ps) =
    let late : nat_lt (place_of p.field) 0 ≡ false = grind (arith, nat_tests) in
    rw late (ap (λ (l : List Piece). p ∷ l) (from_first ps))

-- no place is higher
known_low : (n : ℕ) (v : Datum) → is_known n v ≡ true → n ≤ 16
known_low n (Varint x) is = grind (arith, nat_tests)
known_low n (Eight bs) is = grind (arith, nat_tests)
known_low n (Bytes bs) is = grind (arith, nat_tests)
known_low n (Four bs) is = grind (arith, nat_tests)
known_low n (Group bs) is = absurd (cc)

place_low : (n : ℕ) (v : Datum) → place_at n v ≤ 17
place_low n v = by_test (is_known n v) (λ e. rw e (let low = known_low n v e in omega arith)) λ e. rw e (omega arith)

pub from_last : (low : ℕ) (ps : List Piece) → 17 < low → from low ps ≡ []
from_last low [] lt = refl
from_last low (p ∷ ps) lt =
    let high : place_of p.field ≤ 17 = place_low p.field.number p.field.value in
    let early : nat_lt (place_of p.field) low ≡ true = grind (arith, nat_tests) in
    rw early (from_last low ps lt)
