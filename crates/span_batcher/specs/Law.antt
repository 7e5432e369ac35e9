-- The laws of the batches: what comes later only adds, and no span is lost or doubled (Batches, after the Collector's
-- batchprocessor).
use Rattle.std.specs.Prelude.{◌≡◌, ℕ, ◌≤◌, true, List, [], ◌∷◌, ◌++◌, map, flat_map, Option, Some, None}
use Rattle.span_batcher.specs.Batches.{Rules, Group, Place, span_of, batches_in, rest_in, batches, left}
use Rattle.span_batcher.specs.Maps.{spans_of}

-- no span is of a moment before this one
abbrev pub AllFrom : {X : Type 0} → ℕ → List (Place X) → Type 0
AllFrom m [] = Unit
AllFrom m (p ∷ rest) = (m ≤ p.moment) × AllFrom m rest

-- no span is of a moment after this one
abbrev pub AllUpTo : {X : Type 0} → ℕ → List (Place X) → Type 0
AllUpTo m [] = Unit
AllUpTo m (p ∷ rest) = (p.moment ≤ m) × AllUpTo m rest

-- time and groups go on: until a drain anything may come, and after it nothing
abbrev pub TimerMovesOn : {X : Type 0} → ℕ → Option ℕ → ℕ → Option ℕ → List (Place X) → Type 0
TimerMovesOn e None e' None more = (e ≤ e') × AllFrom e more
TimerMovesOn e None e' (Some x) more = (e ≤ e') × (e ≤ x) × AllFrom e more
TimerMovesOn e (Some x) e' None more = ⊥
TimerMovesOn e (Some x) e' (Some y) more = (e ≤ e') × (x ≤ e) × (x ≡ y) × (more ≡ [])

-- the last span is the last of its group
abbrev pub IsWhole : {X : Type 0} → List (Place X) → Type 0
IsWhole [] = Unit
IsWhole (p ∷ []) = p.is_end ≡ true
IsWhole (p ∷ q ∷ rest) = IsWhole (q ∷ rest)

-- what comes later only adds batches: those of what was left with what came
abbrev pub Continues : Type 0 → Type 0
Continues X = (r : Rules) (e e' : ℕ) (x x' : Option ℕ) (old more : List (Place X)) → IsWhole old →
    TimerMovesOn e x e' x' more →
    (batches_in r e' x' (old ++ more) ≡ batches_in r e x old ++ batches_in r e' x' (rest_in r e x old ++ more))
    × (rest_in r e' x' (old ++ more) ≡ rest_in r e' x' (rest_in r e x old ++ more))

-- what all batches hold, and behind it what they leave, are the spans of all groups, in order
abbrev pub HoldAll : Type 0 → Type 0
HoldAll X = (r : Rules) (e : ℕ) (x : Option ℕ) (groups : List (Group X)) →
    spans_of (batches r e x groups) ++ map span_of (left r e x groups) ≡ flat_map (λ group. group.spans) groups
