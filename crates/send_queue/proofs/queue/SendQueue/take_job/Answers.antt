use Rattle.std.proofs.Common.{rules, ◌≡◌, ◌∙◌, ◌+◌, ◌<◌, ◌^◌, ℕ, List, Bool, true, false, cond, Option, Some, None, sym, ap, refl, arith}
use Rattle.std.specs.Prelude.{nat_le}
use Rattle.std.proofs.lemmas.Bool.Decides.{nat_tests}
use Rattle.send_queue.specs.declared.active.Retry.{Retry}
use Rattle.send_queue.specs.Sender.{SenderData, ActiveData, first_retry, under, due_by, has_tickets, job}
use Rattle.send_queue.proofs.First.{first_under}
use Rattle.send_queue.proofs.queue.SendQueue.take_job.Goals as goal

-- a retry that is due is the first
due_first : (moment : ℕ) (o : Option Retry) (r : Retry) → due_by moment o ≡ Some r → o ≡ Some r
due_first moment None r e = absurd (cc)
due_first moment (Some q) r e = by_test (nat_le q.due moment) e
  where
    by_test : (b : Bool) → cond b (Some q) None ≡ Some r → Path (Option Retry) (Some q) (Some r)
    by_test true is = is
    by_test false is = absurd (cc)

-- and its batch has a job
not_none : (moment : ℕ) (s : SenderData) (r : Retry) (a : ActiveData) → has_tickets s ≡ true → due_by moment (first_retry s.active) ≡ Some r
    → under r.ticket s.active ≡ Some a → job moment s ≡ None → ⊥
not_none moment s r a tickets due there none =
    let is_some : job moment s ≡ Some (s.handed_out + 1, a.batch.payload) = rw (tickets, due, there) refl in
    let wrong : Path (Option (ℕ × List ℕ)) (Some (s.handed_out + 1, a.batch.payload)) None = sym is_some ∙ none in
    cc

pub returns-in_err-send_again-in-Some-clause-none : goal.returns-in_err-send_again-in-Some-clause-none
returns-in_err-send_again-in-Some-clause-none c = λ none.
    let s : SenderData = c.args.self.now in
    let moment : ℕ = c.args.moment in
    let r : Retry = c.in-Some.retry in
    let due : due_by moment (first_retry s.active) ≡ Some r = sym c.in-Some.ensures in
    let first : first_retry s.active ≡ Some r = due_first moment (first_retry s.active) r due in
    let found = first_under r c.self.inside.active c.self.invariant.whole.ordered (ap (λ (s : SenderData). first_retry s.active) c.self.view_is ∙ first) in
    let there : under r.ticket s.active ≡ Some found.0 = ap (λ (s : SenderData). under r.ticket s.active) (sym c.self.view_is) ∙ found.1 in
    let left : s.handed_out < 2 ^ 62 = search rules in
    let tickets : has_tickets s ≡ true = grind (arith, nat_tests, left) in
    absurd (not_none moment s r found.0 tickets due there none)
