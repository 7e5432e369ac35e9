use Rattle.std.proofs.Common.{◌≡◌, ◌∙◌, ap, sym, refl, Some, None, Option, List, ℕ, subst, is_some, true, false}
use Rattle.std.specs.BinaryHeap.{heap_items, heap_len, heap_capacity}
use Rattle.send_retry.specs.Class.{AnswerData, answer_view}
use Rattle.send_retry.specs.Delay.{state_view}
use Rattle.send_queue.specs.Sender.{SenderData, ActiveData, FateData, Stays, under, fate, flying, left_by, answered, answered_by}
use Rattle.send_queue.specs.View.{active_view, fate_view}
use Rattle.send_queue.specs.Inside.{IsWhole, inside_view}
use Rattle.send_queue.proofs.Whole.{whole_left, whole_waits, room_left}
use Rattle.send_queue.proofs.queue.SendQueue.settle.Goals as goal

none_is : (o : Option ℕ) → is_some o ≡ false → o ≡ None
none_is None h = refl
none_is (Some n) h = absurd (cc)

pub invariant_of-self : goal.invariant_of-self
invariant_of-self c =
    let t = c.args.ticket in
    let q = c.self.inside.retries in
    let a : ActiveData = active_view (t, c.in-Some.active.now) in
    let there : under t c.self.inside.active ≡ Some a = sym c.in-Some.ensures in
    record {
      whole =
          subst (λ (bs : List ActiveData). IsWhole bs (heap_items q) (heap_len q) (heap_capacity q) c.self.inside.sending.num_consumers c.self.inside.handed_out)
          (sym c.remove.ensures.rest)
          (whole_left t a c.self.invariant.whole there (none_is a.due c.if-is_none.ensures));
      left = c.self.invariant.left;
    }

pub unreachable-requires : goal.unreachable-requires
unreachable-requires c =
    let t = c.args.ticket in
    let a : ActiveData = active_view (t, c.in-Some.active.now) in
    let there : under t c.self.inside.active ≡ Some a = sym c.in-Some.ensures in
    let pushed : false ≡ true = c.in_default-push.ensures.succeeds (room_left t a c.self.invariant.whole there (none_is a.due c.if-is_none.ensures)) in
    absurd (cc)

pub invariant_of-self-in-Waits : goal.invariant_of-self-in-Waits
invariant_of-self-in-Waits c =
    let t = c.args.ticket in
    let q = c.push.new.self in
    let a : ActiveData = active_view (t, c.in-Some.active.now) in
    let b : ActiveData = record a { retry = state_view c.in-Waits.state; due = Some c.in-Waits.due } in
    let there : under t c.self.inside.active ≡ Some a = sym c.in-Some.ensures in
    record {
      whole =
          subst (λ (bs : List ActiveData). IsWhole bs (heap_items q) (heap_len q) (heap_capacity q) c.self.inside.sending.num_consumers c.self.inside.handed_out)
          (sym (c.set_waiting.ensures.waiting a there))
          (whole_waits t c.in-Waits.due a b _ (heap_items q) (heap_len q) (heap_capacity q) c.self.invariant.whole there (none_is a.due c.if-is_none.ensures) refl refl refl refl c.in-Ok.ensures.permutation c.in-Ok.ensures.heap_order c.in-Ok.ensures.len c.in-Ok.ensures.capacity);
      left = c.self.invariant.left;
    }

pub returns-in-Ok-clause-answered : goal.returns-in-Ok-clause-answered
returns-in-Ok-clause-answered c =
    let t = c.args.ticket in
    let now = c.args.now in
    let word = c.args.word in
    let answer : AnswerData = answer_view c.args.answer.now in
    let bs = c.self.inside.active in
    let s : SenderData = inside_view c.self.inside in
    let a : ActiveData = active_view (t, c.in-Some.active.now) in
    let b : ActiveData = record a { retry = state_view c.in-Waits.state; due = Some c.in-Waits.due } in
    let there : under t bs ≡ Some a = sym c.in-Some.ensures in
    let stays : Stays c.in-Waits.due (state_view c.in-Waits.state) ≡ fate now word answer a = sym (ap fate_view c.in-Waits.is) ∙ c.fate.ensures in
    let flies : flying (Some a) ≡ Some a = rw c.if-is_none.ensures refl in
    let in_flight : flying (under t bs) ≡ Some a = ap flying there ∙ flies in
    ap (λ (l : List ActiveData). let z : SenderData = record s { active = l } in z) (c.set_waiting.ensures.waiting a there)
    ∙ (ap (λ (f : FateData). let z : SenderData = record s { active = left_by a f bs } in z) stays
    ∙ (ap (λ (o : Option ActiveData). answered_by now word answer o s) (sym in_flight)
    ∙ ap (λ (s : SenderData). answered t now word answer s) c.self.view_is))
