-- What a batcher keeps, what it stands for, and what its calls make of it (Batches, after the Collector's
-- batchprocessor).
use Rattle.std.specs.Prelude.{◌≡◌, ℕ, ◌+◌, ◌<◌, ◌≤◌, List, [], ◌∷◌, ◌++◌, map, Option, Some, None, option_to_list}
use Rattle.span_batcher.specs.Batches.{Rules, AreValidRules, Group, Batch, Place, span_of, batches, left}

-- the pending spans, and the moment in milliseconds at which their timer started, where there are any
pub record State (X : Type 0) : Type 0 where
  pub rules : Rules
  pub start : Option ℕ
  pub spans : List X

-- the moment of the first span
abbrev pub start_of : {X : Type 0} → List (Place X) → Option ℕ
start_of [] = None
start_of (p ∷ rest) = Some p.moment

-- a batcher in which this rest is pending
unfoldable pub state_of : {X : Type 0} → Rules → List (Place X) → State X
state_of rules rest = record { rules = rules; start = start_of rest; spans = map span_of rest }

-- what is pending of groups at the moment reached: the spans that are in no batch
unfoldable pub state : {X : Type 0} → Rules → ℕ → Option ℕ → List (Group X) → State X
state rules reached drain groups = state_of rules (left rules reached drain groups)

-- a timeout after a start
abbrev pub due_after : ℕ → Option ℕ → Option ℕ
due_after timeout None = None
due_after timeout (Some start) = Some (start + timeout)

-- when the timer runs out; none where nothing is pending
abbrev pub next_due : {X : Type 0} → State X → Option ℕ
next_due s = due_after s.rules.timeout s.start

-- no timer runs out by the moment
abbrev pub IsAfter : Option ℕ → ℕ → Type 0
IsAfter None moment = Unit
IsAfter (Some due) moment = moment < due

-- no group came after this moment
abbrev pub IsUpTo : {X : Type 0} → ℕ → List (Group X) → Type 0
IsUpTo e [] = Unit
IsUpTo e (group ∷ groups) = (group.moment ≤ e) × IsUpTo e groups

-- a group comes: what is answered is what the batches have with it beyond those without it, and what is kept is what
-- all of them leave, whatever groups the batcher stood for
abbrev pub Adds : {X : Type 0} → ℕ → List X → State X → List (Batch X) → State X → Type 0
Adds {X} moment spans old answered new =
    (rules : Rules) (e : ℕ) (groups : List (Group X)) → IsUpTo e groups → e ≤ moment →
    old ≡ state rules e None groups →
    (batches rules moment None (groups ++ record { moment = moment; spans = spans } ∷ [])
    ≡ batches rules e None groups ++ answered)
    × (new ≡ state rules moment None (groups ++ record { moment = moment; spans = spans } ∷ []))

-- the timer runs out at its due moment: the same for that one more batch
abbrev pub Fires : {X : Type 0} → ℕ → State X → Batch X → State X → Type 0
Fires {X} due old answered new =
    (rules : Rules) (e : ℕ) (groups : List (Group X)) → IsUpTo e groups → old ≡ state rules e None groups →
    (batches rules due None groups ≡ batches rules e None groups ++ answered ∷ [])
    × (new ≡ state rules due None groups)

-- nothing came yet
abbrev pub Begins : {X : Type 0} → Rules → State X → Type 0
Begins rules new = (e : ℕ) → new ≡ state rules e None []

-- the drain: what is pending is one batch
abbrev pub Drains : {X : Type 0} → ℕ → State X → Option (Batch X) → State X → Type 0
Drains {X} moment old answered new =
    (rules : Rules) (e : ℕ) (groups : List (Group X)) → IsUpTo e groups → e ≤ moment →
    old ≡ state rules e None groups →
    (batches rules moment (Some moment) groups ≡ batches rules e None groups ++ option_to_list answered)
    × (new ≡ state rules moment (Some moment) groups)

-- a law of time alone: before the timer runs out nothing more forms
abbrev pub WaitsOn : Type 0 → Type 0
WaitsOn X = (rules : Rules) (e e' : ℕ) (groups : List (Group X)) → AreValidRules rules → IsUpTo e groups → e ≤ e' →
    IsAfter (next_due (state rules e None groups)) e' →
    (batches rules e' None groups ≡ batches rules e None groups)
    × (state rules e' None groups ≡ state rules e None groups)

-- a law of time alone: after a drain nothing more forms
abbrev pub StaysDrained : Type 0 → Type 0
StaysDrained X = (rules : Rules) (drain e : ℕ) (groups : List (Group X)) → drain ≤ e →
    (batches rules e (Some drain) groups ≡ batches rules drain (Some drain) groups)
    × (state rules e (Some drain) groups ≡ state rules drain (Some drain) groups)
