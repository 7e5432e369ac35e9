-- Groups come one after the other as time goes on: at one moment the timer runs out first, and then a group comes
-- (`timeout` of the Collector's batchprocessor; the order is this project's own rule).
use Rattle.std.specs.Prelude.{◌≡◌, ℕ, ◌<◌, ◌≤◌, Bool, false, List, [], ◌∷◌, ◌++◌, length, Option, Some, None, if◌then◌else◌, nat_le, unwrap_or}
use Rattle.span_batcher.specs.Batches.{Rules, AreValidRules, Group, Batch, batches}
use Rattle.span_batcher.specs.State.{State, state, next_due, IsUpTo}
use Rattle.span_batcher.specs.Machine.{cuts, added, fired}

-- a timer runs out by a moment
abbrev pub is_due : Option ℕ → ℕ → Bool
is_due None m = false
is_due (Some due) m = nat_le due m

-- the batches as time goes on to a moment: the timer may run out, once
abbrev pub passed : {X : Type 0} → ℕ → State X → List (Batch X)
passed m s =
    if is_due (next_due s) m then record { moment = unwrap_or (next_due s) m; spans = s.spans } ∷ [] else []

-- what a batcher keeps when time went on to a moment
abbrev pub after : {X : Type 0} → ℕ → State X → State X
after m s = if is_due (next_due s) m then fired s else s

-- what a batcher keeps when one group after the other came
abbrev pub come : {X : Type 0} → List (Group X) → State X → State X
come [] s = s
come (g ∷ gs) s = come gs (added g.moment g.spans (after g.moment s))

-- the batches as one group after the other comes
abbrev pub come_batches : {X : Type 0} → List (Group X) → State X → List (Batch X)
come_batches [] s = []
come_batches (g ∷ gs) s =
    passed g.moment s
    ++ (cuts s.rules g.moment ((after g.moment s).spans ++ g.spans)
    ++ come_batches gs (added g.moment g.spans (after g.moment s)))

-- the groups come in order of their moments, none before this one, and each has a span
abbrev pub InOrder : {X : Type 0} → ℕ → List (Group X) → Type 0
InOrder e [] = Unit
InOrder e (g ∷ gs) = (e ≤ g.moment) × (0 < length g.spans) × InOrder g.moment gs

-- the moment of the last group, or this one where there is none
abbrev pub last_moment : {X : Type 0} → ℕ → List (Group X) → ℕ
last_moment e [] = e
last_moment e (g ∷ gs) = last_moment g.moment gs

-- time alone: batches and rest at a later moment, from those at an earlier one
abbrev pub Passes : Type 0 → Type 0
Passes X = (r : Rules) (e m : ℕ) (groups : List (Group X)) → AreValidRules r → IsUpTo e groups → e ≤ m →
    (batches r m None groups ≡ batches r e None groups ++ passed m (state r e None groups))
    × (state r m None groups ≡ after m (state r e None groups))

-- groups that come in order: batches and rest with them, from those without them
abbrev pub AllCome : Type 0 → Type 0
AllCome X = (r : Rules) (e : ℕ) (groups more : List (Group X)) → AreValidRules r → IsUpTo e groups → InOrder e more →
    (batches r (last_moment e more) None (groups ++ more)
    ≡ batches r e None groups ++ come_batches more (state r e None groups))
    × (state r (last_moment e more) None (groups ++ more) ≡ come more (state r e None groups))
