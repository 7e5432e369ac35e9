-- The first byte of a value, as `memchr` finds it.
use Rattle.std.proofs.Common.{◌≡◌, ◌<◌, ◌==◌, ℕ, Bool, true, false, cond, List, Option, Some, None, length, refl, ap, sym, arith, nat_lt}
use Rattle.std.specs.List.{position}
use Rattle.std.proofs.lemmas.List.Sums.{position_or_len_is}
use Rattle.memchr.specs.Find.{IsFirstByte, is_byte}
use Rattle.replay_script.proofs.Places.{tested, further}

fails : (b : Bool) → ¬ (b ≡ true) → b ≡ false
fails true h = absurd (h refl)
fails false h = refl

missed : (p n : ℕ) → p ≡ n → None ≡ cond (nat_lt p n) (Some p) None
missed p n at = by (nat_lt p n) refl
  where
    by : (b : Bool) → nat_lt p n ≡ b → None ≡ cond b (Some p) None
    by true less = let under = tested p n less in absurd (omega arith)
    by false less = refl

reached : (p n k : ℕ) → p ≡ k → k < n → Some k ≡ cond (nat_lt p n) (Some p) None
reached p n k at below = by (nat_lt p n) refl
  where
    by : (b : Bool) → nat_lt p n ≡ b → Some k ≡ cond b (Some p) None
    by true less = ap Some (sym at)
    by false less = let beyond = further k p n below less in absurd (omega arith)

pub first_place : (a : ℕ) (text : List ℕ) (found : Option ℕ) → IsFirstByte (is_byte a) text found → found ≡ position (λ byte. byte == a) text
first_place a text None h =
    let at = position_or_len_is (λ byte. byte == a) text (length text) 0 (omega arith) (λ k below. fails _ (h k (omega arith) below)) (λ under. absurd (omega arith)) in
    missed _ _ at
first_place a text (Some k) h =
    let below = h.0.high in
    let at = position_or_len_is (λ byte. byte == a) text k 0 (omega arith) (λ j under. fails _ (h.0.before j (omega arith) under)) (λ under. h.1) in
    reached _ _ k at below
