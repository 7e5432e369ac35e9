-- What is kept still fits together when a batch is handed out or answered.
use Rattle.std.proofs.Common.{◌≡◌, ℕ, ◌+◌, ◌<◌, ◌≤◌, List, [], ◌∷◌, ◌++◌, length, sym, ap, ◌∙◌, arith, true, Option, Some, None, is_some}
use Rattle.std.proofs.lemmas.Bool.Decides.{nat_tests}
use Rattle.std.specs.List.Sorted.{IsPermutation}
use Rattle.std.specs.BinaryHeap.{PopsGreatest, KeepsHeap}
use Rattle.std.specs.declared.cmp.Reverse.{Reverse}
use Rattle.send_queue.specs.declared.active.Retry.{Retry}
use Rattle.send_queue.specs.Sender.{ActiveData, under, without, replaced, first_retry, most_tickets}
use Rattle.send_queue.specs.Inside.{IsWhole, heap_cmp, is_retry, one_if, in_heap, waits_at, has_retry, has_due, AllBefore}
use Rattle.send_queue.proofs.Batches.{under_ticket, before_up_to, AllUpTo-append, AreInOrder-append, total-append, length-append_one, AreInOrder-without, AllUpTo-without, total-without, length-without, AreInOrder-replaced, AllUpTo-replaced, total-replaced, length-replaced, waiting-lt}
use Rattle.send_queue.proofs.First.{top_first, in_heap-IsPermutation}

-- a batch in flight waits for no retry
flies : (a : ActiveData) → a.due ≡ None → (r : Retry) → has_retry r a ≡ 0
flies a none r = ap (λ (o : Option ℕ). one_if (waits_at r o a.ticket)) none

rests : (a : ActiveData) → a.due ≡ None → has_due a ≡ 0
rests a none = ap (λ (o : Option ℕ). one_if (is_some o)) none

module _ {bs : List ActiveData} {heap : List (Reverse Retry)} {count capacity consumers handed_out : ℕ} where
  -- the queue's oldest batch is in flight under the next ticket
  pub whole_first : (x : ActiveData) → IsWhole bs heap count capacity consumers handed_out → length bs < consumers → handed_out < most_tickets → x.ticket ≡ handed_out + 1 → x.due ≡ None → IsWhole (bs ++ x ∷ []) heap count capacity consumers (handed_out + 1)
  whole_first x w free left ticket none = record {
    ordered = AreInOrder-append bs x (rw ticket (before_up_to handed_out bs w.latest)) w.ordered;
    latest = AllUpTo-append handed_out (handed_out + 1) bs x (omega arith) (omega arith) w.latest;
    few = omega (arith, length-append_one bs x);
    room = w.room;
    greatest = w.greatest;
    same = λ r. omega (arith, w.same r, total-append (has_retry r) bs x, flies x none r);
    counted = omega (arith, w.counted, total-append has_due bs x, rests x none);
    tickets = omega arith;
  }

  -- a batch that isn't settled is in flight again, and the heap's top has left
  pub whole_again : (r : Retry) (a y : ActiveData) (x : Reverse Retry) (heap' : List (Reverse Retry)) (count' capacity' : ℕ) → IsWhole bs heap count capacity consumers handed_out → handed_out < most_tickets → first_retry bs ≡ Some r → under r.ticket bs ≡ Some a → a.due ≡ Some r.due → IsPermutation heap (x ∷ heap') → PopsGreatest heap_cmp heap x heap' → count' + 1 ≡ count → capacity' ≡ capacity → y.ticket ≡ handed_out + 1 → y.due ≡ None → IsWhole (without r.ticket bs ++ y ∷ []) heap' count' capacity' consumers (handed_out + 1)
  whole_again r a y x heap' count' capacity' w left first is due moved pops counted kept ticket none =
      let up : AllBefore (handed_out + 1) (without r.ticket bs) = before_up_to handed_out (without r.ticket bs) (AllUpTo-without handed_out r.ticket bs w.latest) in
      let there : 0 < in_heap x.0 heap = at_top in
      let top : Some x.0 ≡ Some r = sym (top_first x heap bs w.same there (pops w.greatest).1) ∙ first in
      let is_r : x.0 ≡ r = cc in
      record {
        ordered = AreInOrder-append (without r.ticket bs) y (rw ticket up) (AreInOrder-without r.ticket bs w.ordered);
        latest = AllUpTo-append handed_out (handed_out + 1) (without r.ticket bs) y (omega arith) (omega arith) (AllUpTo-without handed_out r.ticket bs w.latest);
        few = omega (arith, length-append_one (without r.ticket bs) y, length-without r.ticket bs a is, w.few);
        room = omega (arith, w.room, kept);
        greatest = (pops w.greatest).0;
        same = λ q.
            let gone : in_heap q heap ≡ one_if (is_retry q r) + in_heap q heap' = sym (in_heap-IsPermutation q heap (x ∷ heap') moved) ∙ ap (λ (s : Retry). one_if (is_retry q s) + in_heap q heap') is_r in
            let had : has_retry q a ≡ one_if (is_retry q r) = ap (λ (o : Option ℕ). one_if (waits_at q o a.ticket)) due ∙ ap (λ (t : ℕ). one_if (waits_at q (Some r.due) t)) (under_ticket r.ticket bs a is) in
            omega (arith, w.same q, gone, had, total-without (has_retry q) r.ticket bs a is, total-append (has_retry q) (without r.ticket bs) y, flies y none q);
        counted =
            let had : has_due a ≡ 1 = ap (λ (o : Option ℕ). one_if (is_some o)) due in
            omega (arith, w.counted, counted, had, total-without has_due r.ticket bs a is, total-append has_due (without r.ticket bs) y, rests y none);
        tickets = omega arith;
      }
    where
      at_top : 0 < in_heap x.0 heap
      at_top =
          let self : is_retry x.0 x.0 ≡ true = grind (arith, nat_tests) in
          let once : one_if (is_retry x.0 x.0) ≡ 1 = ap one_if self in
          omega (arith, in_heap-IsPermutation x.0 heap (x ∷ heap') moved, once)

  -- a batch in flight is settled
  pub whole_left : (t : ℕ) (a : ActiveData) → IsWhole bs heap count capacity consumers handed_out → under t bs ≡ Some a → a.due ≡ None → IsWhole (without t bs) heap count capacity consumers handed_out
  whole_left t a w is none = record {
    ordered = AreInOrder-without t bs w.ordered;
    latest = AllUpTo-without handed_out t bs w.latest;
    few = omega (arith, length-without t bs a is, w.few);
    room = w.room;
    greatest = w.greatest;
    same = λ r. omega (arith, w.same r, total-without (has_retry r) t bs a is, flies a none r);
    counted = omega (arith, w.counted, total-without has_due t bs a is, rests a none);
    tickets = w.tickets;
  }

  -- where a retry comes first the heap isn't empty
  pub some_wait : (r : Retry) (a : ActiveData) → IsWhole bs heap count capacity consumers handed_out → under r.ticket bs ≡ Some a → a.due ≡ Some r.due → 0 < count
  some_wait r a w is due =
      let had : has_due a ≡ 1 = ap (λ (o : Option ℕ). one_if (is_some o)) due in
      omega (arith, w.counted, had, total-without has_due r.ticket bs a is)

  -- there is room for the retry of a batch in flight
  pub room_left : (t : ℕ) (a : ActiveData) → IsWhole bs heap count capacity consumers handed_out → under t bs ≡ Some a → a.due ≡ None → count < capacity
  room_left t a w is none = omega (arith, w.few, w.room, w.counted, waiting-lt t bs a is none)

  -- a batch in flight waits to be sent again
  pub whole_waits : (t due : ℕ) (a b : ActiveData) (x : Reverse Retry) (heap' : List (Reverse Retry)) (count' capacity' : ℕ) → IsWhole bs heap count capacity consumers handed_out → under t bs ≡ Some a → a.due ≡ None → b.ticket ≡ t → b.due ≡ Some due → x.0.due ≡ due → x.0.ticket ≡ t → IsPermutation (x ∷ heap) heap' → KeepsHeap heap_cmp heap heap' → count' ≡ count + 1 → capacity ≤ capacity' → IsWhole (replaced t b bs) heap' count' capacity' consumers handed_out
  whole_waits t due a b x heap' count' capacity' w is none ticket waits x_due x_ticket moved keeps counted kept = record {
    ordered = AreInOrder-replaced t b bs ticket w.ordered;
    latest = AllUpTo-replaced handed_out t b bs ticket w.latest;
    few = omega (arith, length-replaced t b bs, w.few);
    room = omega (arith, w.room, kept);
    greatest = keeps w.greatest;
    same = λ q.
        let come : in_heap q heap' ≡ one_if (is_retry q x.0) + in_heap q heap = in_heap-IsPermutation q (x ∷ heap) heap' moved in
        let has : has_retry q b ≡ one_if (is_retry q x.0) = ap (λ (o : Option ℕ). one_if (waits_at q o b.ticket)) (waits ∙ ap Some (sym x_due)) ∙ ap (λ (n : ℕ). one_if (waits_at q (Some x.0.due) n)) (ticket ∙ sym x_ticket) in
        omega (arith, w.same q, come, has, total-replaced (has_retry q) t b bs a is, flies a none q);
    counted =
        let has : has_due b ≡ 1 = ap (λ (o : Option ℕ). one_if (is_some o)) waits in
        omega (arith, w.counted, counted, has, total-replaced has_due t b bs a is, rests a none);
    tickets = w.tickets;
  }
