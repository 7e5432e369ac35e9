-- The least of several kinds of moments, and that `ready` is the least of all that are due.
use Rattle.std.proofs.Common.{◌≡◌, ℕ, ◌<◌, ◌≤◌, ◌⊎◌, inl, inr, List, [], ◌∷◌, refl, subst, ap, ◌∙◌, arith, Bool, true, false, cond, leb, Option, Some, None}
use Rattle.std.specs.Prelude.{min, Contains}
use Rattle.std.proofs.lemmas.Bool.Decides.{nat_tests}
use Rattle.std.proofs.lemmas.List.Elements.{Contains-append_left, Contains-append_right, Contains-append_cases, Contains-push, Contains-push_cases}
use Rattle.span_batcher.specs.State.{next_due}
use Rattle.tenant_rules.specs.Fate.{WaitingData}
use Rattle.tenant_rules.specs.Sender.{BatchData, ActiveData, SenderData, has_tickets, has_consumer}
use Rattle.tenant_rules.specs.State.{State}
use Rattle.tenant_rules.specs.Ready.{lesser, next_decision, next_retry, front_moment, next_front, next_job, ready}
use Rattle.tenant_rules.specs.Timers.{first_due, next_timer}
use Rattle.tenant_rules.specs.Fronts.{AreInOrder}
use Rattle.tenant_rules.specs.Least.{IsDueAt, decision, timeout, attempt, first_attempt, IsLeast, ReadyIsLeast}

-- ---- the least of some moments

-- of another kind with the same moments
least_of : (Is Also : ℕ → Type 0) (o : Option ℕ) → ((m : ℕ) → Is m → Also m) → ((m : ℕ) → Also m → Is m) → IsLeast Is o → IsLeast Also o
least_of Is Also None to from least = λ m h. least m (from m h)
least_of Is Also (Some x) to from least = (to x least.0, λ m h. least.1 m (from m h))

min_is : (a b : ℕ) → (a ≡ min a b) ⊎ (b ≡ min a b)
min_is a b = by_test (leb a b) refl
  where
    by_test : (t : Bool) → leb a b ≡ t → (a ≡ min a b) ⊎ (b ≡ min a b)
    by_test true is = let le : a ≤ b = grind (arith, nat_tests, is) in inl (omega (arith, le))
    by_test false is = let lt : b < a = grind (arith, nat_tests, is) in inr (omega (arith, lt))

-- of either kind
least_of_both : (Is Also : ℕ → Type 0) (a b : Option ℕ) → IsLeast Is a → IsLeast Also b → IsLeast (λ m. Is m ⊎ Also m) (lesser a b)
least_of_both Is Also None None p q = λ m h. either m h
  where
    either : (m : ℕ) → Is m ⊎ Also m → ⊥
    either m (inl x) = p m x
    either m (inr y) = q m y
least_of_both Is Also None (Some b) p q = (inr q.0, either)
  where
    either : (m : ℕ) → Is m ⊎ Also m → b ≤ m
    either m (inl x) = absurd (p m x)
    either m (inr y) = q.1 m y
least_of_both Is Also (Some a) None p q = (inl p.0, either)
  where
    either : (m : ℕ) → Is m ⊎ Also m → a ≤ m
    either m (inl x) = p.1 m x
    either m (inr y) = absurd (q m y)
least_of_both Is Also (Some a) (Some b) p q = (first (min_is a b), either)
  where
    first : (a ≡ min a b) ⊎ (b ≡ min a b) → Is (min a b) ⊎ Also (min a b)
    first (inl same) = inl (subst Is same p.0)
    first (inr same) = inr (subst Also same q.0)

    either : (m : ℕ) → Is m ⊎ Also m → min a b ≤ m
    either m (inl x) = omega (arith, p.1 m x)
    either m (inr y) = omega (arith, q.1 m y)

-- only where a test holds
least_if : (Is : ℕ → Type 0) (b : Bool) (o : Option ℕ) → IsLeast Is o → IsLeast (λ m. Is m × (b ≡ true)) (cond b o None)
least_if Is true o least = least_of Is (λ m. Is m × (true ≡ true)) o (λ m h. (h, refl)) (λ m h. h.0) least
least_if Is false o least = λ m h. let is : false ≡ true = h.1 in absurd (cc)

-- a moment that may be missing
least_alone : (o : Option ℕ) → IsLeast (λ m. o ≡ Some m) o
least_alone None = λ m is. absurd (cc)
least_alone (Some x) = (refl, λ m is. let same : x ≡ m = cc in omega (arith, same))

-- ---- members of a list

pub in_none : {X : Type 0} (x : X) → Contains [] x → ⊥
in_none x h = absurd (omega (arith, h.1))

pub is_first : {X : Type 0} (x : X) (xs : List X) → Contains (x ∷ xs) x
is_first x xs = Contains-append_left (x ∷ []) xs x (Contains-push [] x)

pub is_later : {X : Type 0} (y : X) (xs : List X) (x : X) → Contains xs x → Contains (y ∷ xs) x
is_later y xs x h = Contains-append_right (y ∷ []) xs x h

pub first_or_later : {X : Type 0} (y : X) (xs : List X) (x : X) → Contains (y ∷ xs) x → (y ≡ x) ⊎ Contains xs x
first_or_later y xs x h = by_place (Contains-append_cases (y ∷ []) xs x h)
  where
    by_first : Contains [] x ⊎ (y ≡ x) → (y ≡ x) ⊎ Contains xs x
    by_first (inl none) = absurd (in_none x none)
    by_first (inr is) = inl is

    by_place : Contains (y ∷ []) x ⊎ Contains xs x → (y ≡ x) ⊎ Contains xs x
    by_place (inl one) = by_first (Contains-push_cases [] y x one)
    by_place (inr later) = inr later

-- ---- rows, attempts, the queue

abbrev AtRow : List WaitingData → ℕ → Type 0
AtRow ws m = (row : WaitingData) × Contains ws row × (row.due ≡ m)

pub decision_least : (ws : List WaitingData) → IsLeast (λ m. AtRow ws m) (next_decision ws)
decision_least [] = λ m h. in_none h.0 h.1
decision_least (r ∷ rs) = least_of (λ m. (r.due ≡ m) ⊎ AtRow rs m) (λ m. AtRow (r ∷ rs) m) (lesser (Some r.due) (next_decision rs)) to from
    (least_of_both (λ m. r.due ≡ m) (λ m. AtRow rs m) (Some r.due) (next_decision rs) (refl, λ m is. omega (arith, is)) (decision_least rs))
  where
    to : (m : ℕ) → (r.due ≡ m) ⊎ AtRow rs m → AtRow (r ∷ rs) m
    to m (inl is) = (r, is_first r rs, is)
    to m (inr h) = (h.0, is_later r rs h.0 h.1, h.2)

    by_place : (m : ℕ) (row : WaitingData) → row.due ≡ m → (r ≡ row) ⊎ Contains rs row → (r.due ≡ m) ⊎ AtRow rs m
    by_place m row is (inl same) = inl (ap (λ (z : WaitingData). z.due) same ∙ is)
    by_place m row is (inr later) = inr (row, later, is)

    from : (m : ℕ) → AtRow (r ∷ rs) m → (r.due ≡ m) ⊎ AtRow rs m
    from m h = by_place m h.0 h.2 (first_or_later r rs h.0 h.1)

abbrev AtAttempt : List ActiveData → ℕ → Type 0
AtAttempt active m = (a : ActiveData) × Contains active a × (a.due ≡ Some m)

attempt_least : (active : List ActiveData) → IsLeast (λ m. AtAttempt active m) (next_retry active)
attempt_least [] = λ m h. in_none h.0 h.1
attempt_least (a ∷ rest) = least_of (λ m. (a.due ≡ Some m) ⊎ AtAttempt rest m) (λ m. AtAttempt (a ∷ rest) m) (lesser a.due (next_retry rest)) to from
    (least_of_both (λ m. a.due ≡ Some m) (λ m. AtAttempt rest m) a.due (next_retry rest) (least_alone a.due) (attempt_least rest))
  where
    to : (m : ℕ) → (a.due ≡ Some m) ⊎ AtAttempt rest m → AtAttempt (a ∷ rest) m
    to m (inl is) = (a, is_first a rest, is)
    to m (inr h) = (h.0, is_later a rest h.0 h.1, h.2)

    by_place : (m : ℕ) (b : ActiveData) → b.due ≡ Some m → (a ≡ b) ⊎ Contains rest b → (a.due ≡ Some m) ⊎ AtAttempt rest m
    by_place m b is (inl same) = inl (ap (λ (z : ActiveData). z.due) same ∙ is)
    by_place m b is (inr later) = inr (b, later, is)

    from : (m : ℕ) → AtAttempt (a ∷ rest) m → (a.due ≡ Some m) ⊎ AtAttempt rest m
    from m h = by_place m h.0 h.2 (first_or_later a rest h.0 h.1)

abbrev AtFront : List BatchData → ℕ → Type 0
AtFront queue m = (b : BatchData) × (rest : List BatchData) × (queue ≡ b ∷ rest) × (b.moment ≡ m)

front_least : (queue : List BatchData) → IsLeast (λ m. AtFront queue m) (front_moment queue)
front_least [] = λ m h. none h.0 h.1 h.2
  where
    none : (b : BatchData) (rest : List BatchData) → Path (List BatchData) [] (b ∷ rest) → ⊥
    none b rest is = absurd (cc)
front_least (b ∷ rest) = ((b, rest, refl, refl), λ m h. omega (arith, same h.0 h.1 h.2, h.3))
  where
    same : (c : BatchData) (more : List BatchData) → Path (List BatchData) (b ∷ rest) (c ∷ more) → b.moment ≡ c.moment
    same c more is = let one : b ≡ c = cc in ap (λ (z : BatchData). z.moment) one

-- ---- all together

abbrev AtJob : SenderData → ℕ → Type 0
AtJob d m = (AtAttempt d.active m ⊎ (AtFront d.queue m × (has_consumer d ≡ true))) × (has_tickets d ≡ true)

job_least : (d : SenderData) → IsLeast (λ m. AtJob d m) (next_job d)
job_least d = least_if (λ m. AtAttempt d.active m ⊎ (AtFront d.queue m × (has_consumer d ≡ true))) (has_tickets d) (lesser (next_retry d.active) (next_front d))
    (least_of_both (λ m. AtAttempt d.active m) (λ m. AtFront d.queue m × (has_consumer d ≡ true)) (next_retry d.active) (next_front d) (attempt_least d.active)
    (least_if (λ m. AtFront d.queue m) (has_consumer d) (front_moment d.queue) (front_least d.queue)))

abbrev AtAny : State → ℕ → Type 0
AtAny s m = (AtRow s.waiting m ⊎ (next_due s.pending ≡ Some m)) ⊎ AtJob s.sender m

to_due : (s : State) (m : ℕ) → AtAny s m → IsDueAt s m
to_due s m (inl (inl h)) = decision h.0 h.1 h.2
to_due s m (inl (inr is)) = timeout is
to_due s m (inr h) = by_job h.0 h.1
  where
    by_job : AtAttempt s.sender.active m ⊎ (AtFront s.sender.queue m × (has_consumer s.sender ≡ true)) → has_tickets s.sender ≡ true → IsDueAt s m
    by_job (inl a) tickets = attempt a.0 a.1 a.2 tickets
    by_job (inr f) tickets = let b = f.0 in first_attempt b.0 b.1 b.2 b.3 f.1 tickets

from_due : (s : State) (m : ℕ) → IsDueAt s m → AtAny s m
from_due s m (decision row here is) = inl (inl (row, here, is))
from_due s m (timeout is) = inl (inr is)
from_due s m (attempt a here is tickets) = inr (inl (a, here, is), tickets)
from_due s m (first_attempt b rest is formed consumer tickets) = inr (inr ((b, rest, is, formed), consumer), tickets)

pub ready_is_least : ReadyIsLeast
unfolding ready
ready_is_least s = least_of (λ m. AtAny s m) (λ m. IsDueAt s m) (lesser (lesser (next_decision s.waiting) (next_due s.pending)) (next_job s.sender)) (to_due s) (from_due s)
    (least_of_both (λ m. AtRow s.waiting m ⊎ (next_due s.pending ≡ Some m)) (λ m. AtJob s.sender m) (lesser (next_decision s.waiting) (next_due s.pending)) (next_job s.sender)
    (least_of_both (λ m. AtRow s.waiting m) (λ m. next_due s.pending ≡ Some m) (next_decision s.waiting) (next_due s.pending) (decision_least s.waiting) (least_alone (next_due s.pending)))
    (job_least s.sender))

-- ---- the next timer

lesser_swap : (a b : Option ℕ) → lesser a b ≡ lesser b a
lesser_swap None None = refl
lesser_swap None (Some b) = refl
lesser_swap (Some a) None = refl
lesser_swap (Some a) (Some b) = let same : min a b ≡ min b a = omega arith in ap (λ (n : ℕ). Some n) same

-- none of these rows is due before the moment
first_least : (m : ℕ) (ws : List WaitingData) → AreInOrder m ws → lesser (Some m) (next_decision ws) ≡ Some m
first_least m [] order = refl
first_least m (r ∷ rs) order =
    let rest : lesser (Some r.due) (next_decision rs) ≡ Some r.due = first_least r.due rs order.1 in
    let same : min m r.due ≡ m = omega (arith, order.0) in
    ap (λ (o : Option ℕ). lesser (Some m) o) rest ∙ ap (λ (n : ℕ). Some n) same

pub decision_is_first : (ws : List WaitingData) → AreInOrder 0 ws → next_decision ws ≡ first_due ws
decision_is_first [] order = refl
decision_is_first (r ∷ rs) order = first_least r.due rs order.1

pub ready_in_order : (s : State) → AreInOrder 0 s.waiting → ready s ≡ lesser (next_timer s) (next_job s.sender)
unfolding ready
ready_in_order s order =
    ap (λ (o : Option ℕ). lesser (lesser o (next_due s.pending)) (next_job s.sender)) (decision_is_first s.waiting order)
    ∙ ap (λ (o : Option ℕ). lesser o (next_job s.sender)) (lesser_swap (first_due s.waiting) (next_due s.pending))
