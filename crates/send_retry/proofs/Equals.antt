-- Answers are equal where they say the same.
use Rattle.std.proofs.Common.{◌≡◌, ◌==◌, ◌&&◌, ℕ, true, refl, ap, nat_eq, Option, Some, None}
use Rattle.std.specs.Prelude.{◌↔◌}
use Rattle.std.specs.Str.{bytes_eq}
use Rattle.std.specs.Option.{option_eq}
use Rattle.std.proofs.lemmas.Bool.{and_parts, eq-eqb, eqb-true}
use Rattle.std.proofs.lemmas.Slice.Eq.{bytes_eq-Decides}
use Rattle.send_retry.specs.contracts.answer.AnswerPartialEq.TheImpl as answer_equal
use Rattle.send_retry.specs.declared.answer.Answer.{Answer}
use Rattle.send_retry.specs.declared.answer.Answer.TheVariants as answers
use Rattle.send_retry.specs.Class.{answer_view}

waits_equal : (r q : Option ℕ) → (option_eq nat_eq r q ≡ true) ↔ (r ≡ q)
waits_equal None None = (λ _. refl, λ _. refl)
waits_equal (Some m) (Some n) = (λ h. ap Some (eqb-true m n h), λ h. eq-eqb m n cc)
waits_equal _ _ = (λ h. cc, λ h. cc)

pub answers_equal : (a b : Answer) → (answer_equal.eq-value.it a b ≡ true) ↔ (answer_view a ≡ answer_view b)
answers_equal (answers.Http s r b) (answers.Http t q c) =
    let waits = waits_equal r q in
    let bodies = bytes_eq-Decides b.items c.items in (
      λ h.
          let parts = and_parts (s == t) (option_eq nat_eq r q && bytes_eq b.items c.items) h in
          let rest = and_parts (option_eq nat_eq r q) (bytes_eq b.items c.items) parts.1 in
          let status = eqb-true s t parts.0 in
          let wait = waits.0 rest.0 in
          let body = bodies.0 rest.1 in
          cc,
      λ h. rw (eq-eqb s t cc, waits.1 cc, bodies.1 cc),
    )
answers_equal answers.Failed answers.Failed = (λ _. refl, λ _. refl)
answers_equal _ _ = (λ h. cc, λ h. cc)
