-- The retry that comes first, of the active batches and of the heap.
use Rattle.std.proofs.Common.{◌≡◌, ℕ, ◌+◌, ◌<◌, ◌≤◌, List, [], ◌∷◌, length, refl, sym, ap, ◌∙◌, arith, Bool, true, false, Option, Some, None, eqb, cond, get_or, subst, min}
use Rattle.std.proofs.lemmas.Bool.Decides.{nat_tests}
use Rattle.std.proofs.lemmas.List.Sorted.{sum_by-IsPermutation}
use Rattle.std.proofs.lemmas.List.Sums.{sum_by-cons}
use Rattle.std.specs.List.{sum_by}
use Rattle.std.specs.List.Sorted.{IsPermutation}
use Rattle.std.specs.Ordering.{is_lt}
use Rattle.std.specs.BinaryHeap.{IsUpperBound}
use Rattle.std.specs.declared.cmp.Reverse.{Reverse}
use Rattle.send_queue.specs.declared.active.Retry.{Retry}
use Rattle.send_queue.specs.Sender.{ActiveData, comes_before, sooner, sooner_of, first_retry, next_retry, lesser, under}
use Rattle.send_queue.specs.Inside.{retry_cmp, heap_cmp, is_retry, one_if, in_heap, waits_at, in_active, AreInOrder}
use Rattle.send_queue.proofs.Batches.{after_under}

-- a retry is one of those counted, and none of them comes before it; or none is counted
abbrev pub Leads : Option Retry → (Retry → ℕ) → Type 0
Leads None count = (r : Retry) → count r ≡ 0
Leads (Some m) count = (0 < count m) × ((r : Retry) → 0 < count r → comes_before r m ≡ false)

same_retry : (r q : Retry) → r.due ≡ q.due → r.ticket ≡ q.ticket → r ≡ q
same_retry r q due ticket = ap (λ (d : ℕ). let s : Retry = record { due = d; ticket = r.ticket } in s) due ∙ ap (λ (t : ℕ). let s : Retry = record { due = q.due; ticket = t } in s) ticket

is_same : (r q : Retry) → is_retry r q ≡ true → r ≡ q
is_same r q h = same_retry r q (grind (arith, nat_tests, h)) (grind (arith, nat_tests, h))

-- only one leads
pub alone : (o p : Option Retry) (count : Retry → ℕ) → Leads o count → Leads p count → o ≡ p
alone None None count h k = refl
alone None (Some q) count h k = absurd (omega (arith, h q, k.0))
alone (Some m) None count h k = absurd (omega (arith, k m, h.0))
alone (Some m) (Some q) count h k =
    let one : comes_before q m ≡ false = h.1 q k.0 in
    let other : comes_before m q ≡ false = k.1 m h.0 in
    ap Some (same_retry m q (grind (arith, nat_tests, one, other)) (grind (arith, nat_tests, one, other)))

-- with one more batch
leads_more : (ticket : ℕ) (due : Option ℕ) (o : Option Retry) (count : Retry → ℕ) → Leads o count → Leads (sooner_of ticket due o) (λ r. one_if (waits_at r due ticket) + count r)
leads_more ticket None None count h = λ r. omega (arith, h r)
leads_more ticket None (Some q) count h = (omega (arith, h.0), λ r some. h.1 r (omega arith))
leads_more ticket (Some due) None count h = (grind (arith, nat_tests), λ r some. by_test r (is_retry r (record { due = due; ticket = ticket })) refl some)
  where
    by_test : (r : Retry) (b : Bool) → is_retry r (record { due = due; ticket = ticket }) ≡ b → 0 < one_if (waits_at r (Some due) ticket) + count r → comes_before r (record { due = due; ticket = ticket }) ≡ false
    by_test r true e some = grind (arith, nat_tests, e)
    by_test r false e some = let zero : one_if (is_retry r (record { due = due; ticket = ticket })) ≡ 0 = ap one_if e in absurd (omega (arith, some, zero, h r))
leads_more ticket (Some due) (Some q) count h = by_order (comes_before q (record { due = due; ticket = ticket })) refl
  where
    by_order : (b : Bool) → comes_before q (record { due = due; ticket = ticket }) ≡ b → Leads (sooner_of ticket (Some due) (Some q)) (λ r. one_if (waits_at r (Some due) ticket) + count r)
    by_order true t = rw t (omega (arith, h.0), λ r some. by_test r (is_retry r (record { due = due; ticket = ticket })) refl some)
      where
        by_test : (r : Retry) (b : Bool) → is_retry r (record { due = due; ticket = ticket }) ≡ b → 0 < one_if (waits_at r (Some due) ticket) + count r → comes_before r q ≡ false
        by_test r true e some = grind (arith, nat_tests, e, t)
        by_test r false e some = let zero : one_if (is_retry r (record { due = due; ticket = ticket })) ≡ 0 = ap one_if e in h.1 r (omega (arith, some, zero))
    by_order false t = rw t (grind (arith, nat_tests), λ r some. by_test r (is_retry r (record { due = due; ticket = ticket })) refl some)
      where
        by_test : (r : Retry) (b : Bool) → is_retry r (record { due = due; ticket = ticket }) ≡ b → 0 < one_if (waits_at r (Some due) ticket) + count r → comes_before r (record { due = due; ticket = ticket }) ≡ false
        by_test r true e some = grind (arith, nat_tests, e)
        by_test r false e some =
            let zero : one_if (is_retry r (record { due = due; ticket = ticket })) ≡ 0 = ap one_if e in
            let not_before : comes_before r q ≡ false = h.1 r (omega (arith, some, zero)) in
            grind (arith, nat_tests, t, not_before)

pub first_leads : (bs : List ActiveData) → Leads (first_retry bs) (λ r. in_active r bs)
first_leads [] = λ r. refl
first_leads (b ∷ bs) = leads_more b.ticket b.due (first_retry bs) (λ r. in_active r bs) (first_leads bs)

-- the top of the heap
cmp_is : (r q : Retry) → is_lt (retry_cmp r q) ≡ comes_before r q
cmp_is r q = grind (arith, nat_tests)

bounded : (x : Reverse Retry) (heap : List (Reverse Retry)) → IsUpperBound heap_cmp x heap → (r : Retry) → 0 < in_heap r heap → comes_before r x.0 ≡ false
bounded x [] u r some = absurd (omega (arith, some))
bounded x (y ∷ heap) u r some = by_test (is_retry r y.0) refl (bounded x heap u.1 r)
  where
    by_test : (b : Bool) → is_retry r y.0 ≡ b → (0 < in_heap r heap → comes_before r x.0 ≡ false) → comes_before r x.0 ≡ false
    by_test true e rec =
        let same : r ≡ y.0 = is_same r y.0 e in
        let not_before : comes_before y.0 x.0 ≡ false = sym (cmp_is y.0 x.0) ∙ u.0 in
        ap (λ (s : Retry). comes_before s x.0) same ∙ not_before
    by_test false e rec = let zero : one_if (is_retry r y.0) ≡ 0 = ap one_if e in rec (omega (arith, some, zero))

pub top_in : (heap : List (Reverse Retry)) (x : Reverse Retry) → 0 < length heap → x ≡ get_or heap 0 x → 0 < in_heap x.0 heap
top_in [] x some is = absurd (omega arith)
top_in (y ∷ heap) x some is =
    let same : is_retry x.0 y.0 ≡ true = ap (λ (z : Reverse Retry). is_retry x.0 z.0) (sym is) ∙ grind (arith, nat_tests) in
    rw same (omega arith)

pub top_first : (x : Reverse Retry) (heap : List (Reverse Retry)) (bs : List ActiveData) → ((r : Retry) → in_heap r heap ≡ in_active r bs) → 0 < in_heap x.0 heap → IsUpperBound heap_cmp x heap → first_retry bs ≡ Some x.0
top_first x heap bs same some bound =
    let leads : Leads (Some x.0) (λ r. in_active r bs) = (omega (arith, same x.0, some), λ r there. bounded x heap bound r (omega (arith, same r, there))) in
    alone (first_retry bs) (Some x.0) (λ r. in_active r bs) (first_leads bs) leads

pub none_first : (heap : List (Reverse Retry)) (bs : List ActiveData) → ((r : Retry) → in_heap r heap ≡ in_active r bs) → length heap ≤ 0 → first_retry bs ≡ None
none_first [] bs same none = alone (first_retry bs) None (λ r. in_active r bs) (first_leads bs) (λ r. sym (same r))
none_first (x ∷ heap) bs same none = absurd (omega arith)

-- the batch that waits for the first retry
waits_is : (r : Retry) (due : Option ℕ) (ticket : ℕ) → waits_at r due ticket ≡ true → (due ≡ Some r.due) × (ticket ≡ r.ticket)
waits_is r None ticket h = absurd (cc)
waits_is r (Some due) ticket h = (ap Some (grind (arith, nat_tests, h)), grind (arith, nat_tests, h))

waits_under : (r : Retry) (bs : List ActiveData) → AreInOrder bs → 0 < in_active r bs → (a : ActiveData) × (under r.ticket bs ≡ Some a) × (a.due ≡ Some r.due)
waits_under r [] ordered some = absurd (omega (arith, some))
waits_under r (b ∷ bs) ordered some = by_test (waits_at r b.due b.ticket) refl (waits_under r bs ordered.1)
  where
    by_test : (c : Bool) → waits_at r b.due b.ticket ≡ c → (0 < in_active r bs → (a : ActiveData) × (under r.ticket bs ≡ Some a) × (a.due ≡ Some r.due)) → (a : ActiveData) × (under r.ticket (b ∷ bs) ≡ Some a) × (a.due ≡ Some r.due)
    by_test true e rec =
        let is = waits_is r b.due b.ticket e in
        let here : eqb b.ticket r.ticket ≡ true = grind (arith, nat_tests, is.1) in
        (b, rw here refl, is.0)
    by_test false e rec =
        let zero : one_if (waits_at r b.due b.ticket) ≡ 0 = ap one_if e in
        let found = rec (omega (arith, some, zero)) in
        let later : b.ticket < r.ticket = after_under b.ticket r.ticket bs found.0 ordered.0 found.1 in
        let other : eqb b.ticket r.ticket ≡ false = grind (arith, nat_tests, later) in
        (found.0, rw other found.1, found.2)

pub first_under : (r : Retry) (bs : List ActiveData) → AreInOrder bs → first_retry bs ≡ Some r → (a : ActiveData) × (under r.ticket bs ≡ Some a) × (a.due ≡ Some r.due)
first_under r bs ordered is =
    let leads : Leads (Some r) (λ q. in_active q bs) = subst (λ (o : Option Retry). Leads o (λ q. in_active q bs)) is (first_leads bs) in
    waits_under r bs ordered leads.0

-- the order of the heap doesn't count
in_heap_sum : (r : Retry) (heap : List (Reverse Retry)) → in_heap r heap ≡ sum_by (λ x. one_if (is_retry r x.0)) heap
in_heap_sum r [] = refl
in_heap_sum r (x ∷ heap) = ap (λ (n : ℕ). one_if (is_retry r x.0) + n) (in_heap_sum r heap) ∙ sym (sum_by-cons (λ x. one_if (is_retry r x.0)) x heap)

pub in_heap-IsPermutation : (r : Retry) (heap other : List (Reverse Retry)) → IsPermutation heap other → in_heap r other ≡ in_heap r heap
in_heap-IsPermutation r heap other h = in_heap_sum r other ∙ (sum_by-IsPermutation (λ x. one_if (is_retry r x.0)) heap other h ∙ sym (in_heap_sum r heap))

-- its moment is the least
abbrev pub due_of : Option Retry → Option ℕ
due_of None = None
due_of (Some r) = Some r.due

sooner_due : (r : Retry) (o : Option Retry) → due_of (sooner r o) ≡ lesser (Some r.due) (due_of o)
sooner_due r None = refl
sooner_due r (Some q) = by_order (comes_before q r) refl
  where
    by_order : (b : Bool) → comes_before q r ≡ b → Path (Option ℕ) (Some (cond b q r).due) (Some (min r.due q.due))
    by_order true t = let le : q.due ≤ r.due = grind (arith, nat_tests, t) in ap Some (omega (arith, le))
    by_order false t = let le : r.due ≤ q.due = grind (arith, nat_tests, t) in ap Some (omega (arith, le))

pub first_due : (bs : List ActiveData) → due_of (first_retry bs) ≡ next_retry bs
first_due [] = refl
first_due (b ∷ bs) = by_due b.due (first_due bs)
  where
    by_due : (o : Option ℕ) → due_of (first_retry bs) ≡ next_retry bs → due_of (sooner_of b.ticket o (first_retry bs)) ≡ lesser o (next_retry bs)
    by_due None rec = rec
    by_due (Some due) rec = sooner_due (record { due = due; ticket = b.ticket }) (first_retry bs) ∙ ap (lesser (Some due)) rec
