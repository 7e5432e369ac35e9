use Rattle.std.proofs.Common.{◌≡◌, ◌∙◌, ap, sym, refl, Some, None, Option, List, [], ◌∷◌, ◌++◌, subst, ◌+◌, ◌<◌, ◌^◌, true, false}
use Rattle.std.specs.BinaryHeap.{heap_items, heap_len, heap_capacity}
use Rattle.send_queue.specs.declared.active.Active.{Active}
use Rattle.send_queue.specs.Sender.{SenderData, ActiveData, under, without, first_retry, sent_again, job_of, retried, handed_of}
use Rattle.send_queue.specs.View.{active_view}
use Rattle.send_queue.specs.Inside.{IsWhole, inside_view}
use Rattle.send_queue.proofs.Batches.{before_up_to, under-append, without-append}
use Rattle.send_queue.proofs.First.{first_under}
use Rattle.send_queue.proofs.Whole.{whole_again, some_wait}
use Rattle.send_queue.proofs.queue.SendQueue.send_again.Goals as goal

pub unreachable-requires : goal.unreachable-requires
unreachable-requires c =
    let first : first_retry c.self.inside.active ≡ Some c.args.retry = ap (λ (s : SenderData). first_retry s.active) c.self.view_is ∙ c.requires.first in
    let found = first_under c.args.retry c.self.inside.active c.self.invariant.whole.ordered first in
    let there : under c.args.retry.ticket c.self.inside.active ≡ Some found.0 = found.1 in
    let none : None ≡ under c.args.retry.ticket c.self.inside.active = c.in_default.ensures in
    absurd (cc)

pub put-requires : goal.put-requires
put-requires c = record { later = before_up_to c.self.inside.handed_out c.self.inside.active c.self.invariant.whole.latest }

pub unreachable-requires-in_default-remove : goal.unreachable-requires-in_default-remove
unreachable-requires-in_default-remove c =
    let bs = c.self.inside.active in
    let t = c.args.retry.ticket in
    let x = active_view (c.self.inside.handed_out + 1, c.in_ok-again.again) in
    let first : first_retry bs ≡ Some c.args.retry = ap (λ (s : SenderData). first_retry s.active) c.self.view_is ∙ c.requires.first in
    let found = first_under c.args.retry bs c.self.invariant.whole.ordered first in
    let there : under t (bs ++ x ∷ []) ≡ Some found.0 = under-append t bs x found.0 found.1 in
    let none : None ≡ under t (bs ++ x ∷ []) = c.in_default-remove.ensures.batch ∙ ap (under t) c.in_ok-put.ensures.on_success in
    absurd (cc)

pub unreachable-requires-in_default-pop : goal.unreachable-requires-in_default-pop
unreachable-requires-in_default-pop c =
    let bs = c.self.inside.active in
    let first : first_retry bs ≡ Some c.args.retry = ap (λ (s : SenderData). first_retry s.active) c.self.view_is ∙ c.requires.first in
    let found = first_under c.args.retry bs c.self.invariant.whole.ordered first in
    let some : 0 < heap_len c.self.inside.retries = some_wait c.args.retry found.0 c.self.invariant.whole found.1 found.2 in
    let popped : false ≡ true = c.in_default-pop.ensures.variant.1 some in
    absurd (cc)

pub invariant_of-self-2 : goal.invariant_of-self-2
invariant_of-self-2 c =
    let bs = c.self.inside.active in
    let t = c.args.retry.ticket in
    let q = c.pop.new.self in
    let x = active_view (c.self.inside.handed_out + 1, c.in_ok-again.again) in
    let first : first_retry bs ≡ Some c.args.retry = ap (λ (s : SenderData). first_retry s.active) c.self.view_is ∙ c.requires.first in
    let found = first_under c.args.retry bs c.self.invariant.whole.ordered first in
    let left : c.self.inside.handed_out < 2 ^ 62 = subst (λ (s : SenderData). s.handed_out < 2 ^ 62) (sym c.self.view_is) c.requires.tickets in
    let moved : c.remove.new.self ≡ without t bs ++ x ∷ [] = c.remove.ensures.rest ∙ (ap (without t) c.in_ok-put.ensures.on_success ∙ without-append t bs x found.0 found.1) in
    record {
      whole =
          subst (λ (bs : List ActiveData). IsWhole bs (heap_items q) (heap_len q) (heap_capacity q) c.self.inside.sending.num_consumers (c.self.inside.handed_out + 1))
          (sym moved)
          (whole_again c.args.retry found.0 x c.in-Some-pop.field-0 (heap_items q) (heap_len q) (heap_capacity q) c.self.invariant.whole left first found.1 found.2 c.in-Some-pop.ensures.permutation c.in-Some-pop.ensures.heap_order c.in-Some-pop.ensures.len c.in-Some-pop.ensures.capacity refl (ap (λ (a : Active). a.due) c.in_ok-again.ensures));
      left = c.self.invariant.left;
    }

pub returns-clause-job : goal.returns-clause-job
returns-clause-job c =
    let bs = c.self.inside.active in
    let t = c.args.retry.ticket in
    let x = active_view (c.self.inside.handed_out + 1, c.in_ok-again.again) in
    let first : first_retry bs ≡ Some c.args.retry = ap (λ (s : SenderData). first_retry s.active) c.self.view_is ∙ c.requires.first in
    let found = first_under c.args.retry bs c.self.invariant.whole.ordered first in
    let there : Some (active_view (t, c.in-Some-remove.sent)) ≡ Some found.0 = c.in-Some-remove.ensures.batch ∙ (ap (under t) c.in_ok-put.ensures.on_success ∙ under-append t bs x found.0 found.1) in
    ap (λ (o : Option ActiveData). job_of (retried o) (inside_view c.self.inside)) (there ∙ sym found.1)
    ∙ ap (λ (s : SenderData). job_of (retried (under t s.active)) s) c.self.view_is

pub returns-clause-asked : goal.returns-clause-asked
returns-clause-asked c =
    let bs = c.self.inside.active in
    let t = c.args.retry.ticket in
    let ticket = c.self.inside.handed_out + 1 in
    let row : Active = c.in-Some.active.now in
    let a : ActiveData = active_view (t, row) in
    let s : SenderData = inside_view c.self.inside in
    let x = active_view (ticket, c.in_ok-again.again) in
    let there : under t bs ≡ Some a = sym c.in-Some.ensures in
    let again : x ≡ sent_again ticket a = ap (λ (z : Active). active_view (ticket, z)) c.in_ok-again.ensures in
    let moved : c.remove.new.self ≡ without t bs ++ sent_again ticket a ∷ [] = c.remove.ensures.rest ∙ (ap (without t) c.in_ok-put.ensures.on_success ∙ (without-append t bs x a there ∙ ap (λ (y : ActiveData). without t bs ++ y ∷ []) again)) in
    ap (λ (l : List ActiveData). let z : SenderData = record s { active = l; handed_out = ticket } in z) moved
    ∙ (ap (λ (o : Option ActiveData). handed_of 0 (retried o) s) (sym there)
    ∙ ap (λ (s : SenderData). handed_of 0 (retried (under t s.active)) s) c.self.view_is)
