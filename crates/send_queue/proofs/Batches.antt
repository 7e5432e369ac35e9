-- Lists of active batches: what a batch that comes, leaves or changes makes of them.
use Rattle.std.proofs.Common.{◌≡◌, ℕ, ◌+◌, ◌<◌, ◌≤◌, List, [], ◌∷◌, ◌++◌, length, refl, sym, ap, ◌∙◌, arith, Bool, true, false, Option, Some, None, is_some, eqb, subst}
use Rattle.std.proofs.lemmas.Bool.Decides.{nat_tests}
use Rattle.send_queue.specs.Sender.{ActiveData, under, without, replaced}
use Rattle.send_queue.specs.Inside.{one_if, total, has_due, waiting, AllUpTo, AllBefore, AllAfter, AreInOrder}

-- by cases on whether the first batch is the one under the ticket
pub under_ticket : (t : ℕ) (bs : List ActiveData) (a : ActiveData) → under t bs ≡ Some a → a.ticket ≡ t
under_ticket t [] a h = absurd (cc)
under_ticket t (b ∷ bs) a h = by_test (eqb b.ticket t) refl (under_ticket t bs a)
  where
    by_test : (c : Bool) → eqb b.ticket t ≡ c → (under t bs ≡ Some a → a.ticket ≡ t) → a.ticket ≡ t
    by_test true e rec =
        let is : Some b ≡ Some a = rw e at h in
        let same : b ≡ a = cc in
        let ticket : b.ticket ≡ t = grind (arith, nat_tests, e) in
        sym (ap (λ (x : ActiveData). x.ticket) same) ∙ ticket
    by_test false e rec = let is : under t bs ≡ Some a = rw e at h in rec is

-- one more batch
pub before_up_to : (n : ℕ) (bs : List ActiveData) → AllUpTo n bs → AllBefore (n + 1) bs
before_up_to n [] h = tt
before_up_to n (b ∷ bs) h = (omega arith, before_up_to n bs h.1)

pub AllUpTo-append : (n m : ℕ) (bs : List ActiveData) (x : ActiveData) → n ≤ m → x.ticket ≤ m → AllUpTo n bs → AllUpTo m (bs ++ x ∷ [])
AllUpTo-append n m [] x le last h = (last, tt)
AllUpTo-append n m (b ∷ bs) x le last h = (omega arith, AllUpTo-append n m bs x le last h.1)

AllAfter-append : (t : ℕ) (bs : List ActiveData) (x : ActiveData) → t < x.ticket → AllAfter t bs → AllAfter t (bs ++ x ∷ [])
AllAfter-append t [] x lt h = (lt, tt)
AllAfter-append t (b ∷ bs) x lt h = (h.0, AllAfter-append t bs x lt h.1)

pub AreInOrder-append : (bs : List ActiveData) (x : ActiveData) → AllBefore x.ticket bs → AreInOrder bs → AreInOrder (bs ++ x ∷ [])
AreInOrder-append [] x before h = (tt, tt)
AreInOrder-append (b ∷ bs) x before h = (AllAfter-append b.ticket bs x before.0 h.0, AreInOrder-append bs x before.1 h.1)

pub total-append : (f : ActiveData → ℕ) (bs : List ActiveData) (x : ActiveData) → total f (bs ++ x ∷ []) ≡ total f bs + f x
total-append f [] x = omega arith
total-append f (b ∷ bs) x = omega (arith, total-append f bs x)

pub length-append_one : (bs : List ActiveData) (x : ActiveData) → length (bs ++ x ∷ []) ≡ length bs + 1
length-append_one [] x = omega arith
length-append_one (b ∷ bs) x = omega (arith, length-append_one bs x)

AllAfter-without : (t u : ℕ) (bs : List ActiveData) → AllAfter t bs → AllAfter t (without u bs)
AllAfter-without t u [] h = tt
AllAfter-without t u (b ∷ bs) h = by_test (eqb b.ticket u) refl (AllAfter-without t u bs h.1)
  where
    by_test : (c : Bool) → eqb b.ticket u ≡ c → AllAfter t (without u bs) → AllAfter t (without u (b ∷ bs))
    by_test true e rec = rw e (h.1)
    by_test false e rec = rw e (h.0, rec)

pub AreInOrder-without : (u : ℕ) (bs : List ActiveData) → AreInOrder bs → AreInOrder (without u bs)
AreInOrder-without u [] h = tt
AreInOrder-without u (b ∷ bs) h = by_test (eqb b.ticket u) refl (AreInOrder-without u bs h.1)
  where
    by_test : (c : Bool) → eqb b.ticket u ≡ c → AreInOrder (without u bs) → AreInOrder (without u (b ∷ bs))
    by_test true e rec = rw e (h.1)
    by_test false e rec = rw e (AllAfter-without b.ticket u bs h.0, rec)

pub AllUpTo-without : (n u : ℕ) (bs : List ActiveData) → AllUpTo n bs → AllUpTo n (without u bs)
AllUpTo-without n u [] h = tt
AllUpTo-without n u (b ∷ bs) h = by_test (eqb b.ticket u) refl (AllUpTo-without n u bs h.1)
  where
    by_test : (c : Bool) → eqb b.ticket u ≡ c → AllUpTo n (without u bs) → AllUpTo n (without u (b ∷ bs))
    by_test true e rec = rw e (h.1)
    by_test false e rec = rw e (h.0, rec)

pub total-without : (f : ActiveData → ℕ) (u : ℕ) (bs : List ActiveData) (a : ActiveData) → under u bs ≡ Some a → total f (without u bs) + f a ≡ total f bs
total-without f u [] a h = absurd (cc)
total-without f u (b ∷ bs) a h = by_test (eqb b.ticket u) refl (total-without f u bs a)
  where
    by_test : (c : Bool) → eqb b.ticket u ≡ c → (under u bs ≡ Some a → total f (without u bs) + f a ≡ total f bs) → total f (without u (b ∷ bs)) + f a ≡ total f (b ∷ bs)
    by_test true e rec =
        let is : Some b ≡ Some a = rw e at h in
        let same : f b ≡ f a = ap f cc in
        rw e (omega (arith, same))
    by_test false e rec =
        let is : under u bs ≡ Some a = rw e at h in
        rw e (omega (arith, rec is))

pub length-without : (u : ℕ) (bs : List ActiveData) (a : ActiveData) → under u bs ≡ Some a → length (without u bs) + 1 ≡ length bs
length-without u [] a h = absurd (cc)
length-without u (b ∷ bs) a h = by_test (eqb b.ticket u) refl (length-without u bs a)
  where
    by_test : (c : Bool) → eqb b.ticket u ≡ c → (under u bs ≡ Some a → length (without u bs) + 1 ≡ length bs) → length (without u (b ∷ bs)) + 1 ≡ length (b ∷ bs)
    by_test true e rec = rw e (omega arith)
    by_test false e rec =
        let is : under u bs ≡ Some a = rw e at h in
        rw e (omega (arith, rec is))

-- a batch that changes
AllAfter-replaced : (t u : ℕ) (y : ActiveData) (bs : List ActiveData) → y.ticket ≡ u → AllAfter t bs → AllAfter t (replaced u y bs)
AllAfter-replaced t u y [] is h = tt
AllAfter-replaced t u y (b ∷ bs) is h = by_test (eqb b.ticket u) refl (AllAfter-replaced t u y bs is h.1)
  where
    by_test : (c : Bool) → eqb b.ticket u ≡ c → AllAfter t (replaced u y bs) → AllAfter t (replaced u y (b ∷ bs))
    by_test true e rec = let same : b.ticket ≡ u = grind (arith, nat_tests, e) in rw e (omega arith, h.1)
    by_test false e rec = rw e (h.0, rec)

pub AreInOrder-replaced : (u : ℕ) (y : ActiveData) (bs : List ActiveData) → y.ticket ≡ u → AreInOrder bs → AreInOrder (replaced u y bs)
AreInOrder-replaced u y [] is h = tt
AreInOrder-replaced u y (b ∷ bs) is h = by_test (eqb b.ticket u) refl (AreInOrder-replaced u y bs is h.1)
  where
    by_test : (c : Bool) → eqb b.ticket u ≡ c → AreInOrder (replaced u y bs) → AreInOrder (replaced u y (b ∷ bs))
    by_test true e rec =
        let same : b.ticket ≡ y.ticket = grind (arith, nat_tests, e) in
        rw e (subst (λ (t : ℕ). AllAfter t bs) same h.0, h.1)
    by_test false e rec = rw e (AllAfter-replaced b.ticket u y bs is h.0, rec)

pub AllUpTo-replaced : (n u : ℕ) (y : ActiveData) (bs : List ActiveData) → y.ticket ≡ u → AllUpTo n bs → AllUpTo n (replaced u y bs)
AllUpTo-replaced n u y [] is h = tt
AllUpTo-replaced n u y (b ∷ bs) is h = by_test (eqb b.ticket u) refl (AllUpTo-replaced n u y bs is h.1)
  where
    by_test : (c : Bool) → eqb b.ticket u ≡ c → AllUpTo n (replaced u y bs) → AllUpTo n (replaced u y (b ∷ bs))
    by_test true e rec = let same : b.ticket ≡ u = grind (arith, nat_tests, e) in rw e (omega arith, h.1)
    by_test false e rec = rw e (h.0, rec)

pub total-replaced : (f : ActiveData → ℕ) (u : ℕ) (y : ActiveData) (bs : List ActiveData) (a : ActiveData) → under u bs ≡ Some a → total f (replaced u y bs) + f a ≡ total f bs + f y
total-replaced f u y [] a h = absurd (cc)
total-replaced f u y (b ∷ bs) a h = by_test (eqb b.ticket u) refl (total-replaced f u y bs a)
  where
    by_test : (c : Bool) → eqb b.ticket u ≡ c → (under u bs ≡ Some a → total f (replaced u y bs) + f a ≡ total f bs + f y) → total f (replaced u y (b ∷ bs)) + f a ≡ total f (b ∷ bs) + f y
    by_test true e rec =
        let is : Some b ≡ Some a = rw e at h in
        let same : f b ≡ f a = ap f cc in
        rw e (omega (arith, same))
    by_test false e rec =
        let is : under u bs ≡ Some a = rw e at h in
        rw e (omega (arith, rec is))

pub length-replaced : (u : ℕ) (y : ActiveData) (bs : List ActiveData) → length (replaced u y bs) ≡ length bs
length-replaced u y [] = refl
length-replaced u y (b ∷ bs) = by_test (eqb b.ticket u) refl (length-replaced u y bs)
  where
    by_test : (c : Bool) → eqb b.ticket u ≡ c → length (replaced u y bs) ≡ length bs → length (replaced u y (b ∷ bs)) ≡ length (b ∷ bs)
    by_test true e rec = rw e (omega arith)
    by_test false e rec = rw e (omega (arith, rec))

-- a batch that comes, and one of the others that leaves
pub without-append : (u : ℕ) (bs : List ActiveData) (x a : ActiveData) → under u bs ≡ Some a → without u (bs ++ x ∷ []) ≡ without u bs ++ x ∷ []
without-append u [] x a h = absurd (cc)
without-append u (b ∷ bs) x a h = by_test (eqb b.ticket u) refl (without-append u bs x a)
  where
    by_test : (c : Bool) → eqb b.ticket u ≡ c → (under u bs ≡ Some a → without u (bs ++ x ∷ []) ≡ without u bs ++ x ∷ []) → without u ((b ∷ bs) ++ x ∷ []) ≡ without u (b ∷ bs) ++ x ∷ []
    by_test true e rec = rw e refl
    by_test false e rec =
        let is : under u bs ≡ Some a = rw e at h in
        rw e (ap (λ (rest : List ActiveData). b ∷ rest) (rec is))

pub under-append : (u : ℕ) (bs : List ActiveData) (x a : ActiveData) → under u bs ≡ Some a → under u (bs ++ x ∷ []) ≡ Some a
under-append u [] x a h = absurd (cc)
under-append u (b ∷ bs) x a h = by_test (eqb b.ticket u) refl (under-append u bs x a)
  where
    by_test : (c : Bool) → eqb b.ticket u ≡ c → (under u bs ≡ Some a → under u (bs ++ x ∷ []) ≡ Some a) → under u ((b ∷ bs) ++ x ∷ []) ≡ Some a
    by_test true e rec = let is : Some b ≡ Some a = rw e at h in rw e is
    by_test false e rec = let is : under u bs ≡ Some a = rw e at h in rw e (rec is)

-- a batch has a later ticket than those before it
pub after_under : (t u : ℕ) (bs : List ActiveData) (a : ActiveData) → AllAfter t bs → under u bs ≡ Some a → t < u
after_under t u [] a h is = absurd (cc)
after_under t u (b ∷ bs) a h is = by_test (eqb b.ticket u) refl (after_under t u bs a h.1)
  where
    by_test : (c : Bool) → eqb b.ticket u ≡ c → (under u bs ≡ Some a → t < u) → t < u
    by_test true e rec = let same : b.ticket ≡ u = grind (arith, nat_tests, e) in omega arith
    by_test false e rec = let there : under u bs ≡ Some a = rw e at is in rec there

-- no more batches wait than there are
one_if_le : (b : Bool) → one_if b ≤ 1
one_if_le true = omega arith
one_if_le false = omega arith

pub waiting-le : (bs : List ActiveData) → waiting bs ≤ length bs
waiting-le [] = omega arith
waiting-le (b ∷ bs) = omega (arith, one_if_le (is_some b.due), waiting-le bs)

-- and fewer where one is in flight
pub waiting-lt : (u : ℕ) (bs : List ActiveData) (a : ActiveData) → under u bs ≡ Some a → a.due ≡ None → waiting bs < length bs
waiting-lt u bs a h none =
    let flies : has_due a ≡ 0 = ap (λ (o : Option ℕ). one_if (is_some o)) none in
    omega (arith, total-without has_due u bs a h, length-without u bs a h, waiting-le (without u bs), flies)
