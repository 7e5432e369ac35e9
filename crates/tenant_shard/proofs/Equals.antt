-- Steps that are no posts are equal where they say the same.
use Rattle.std.proofs.Common.{◌≡◌, ◌==◌, ◌&&◌, ℕ, true, refl}
use Rattle.std.specs.Prelude.{◌↔◌}
use Rattle.std.proofs.lemmas.Bool.{and_parts, eq-eqb, eqb-true}
use Rattle.prepared_body.specs.Prepared.{PreparedData}
use Rattle.send_retry.specs.contracts.answer.AnswerPartialEq.TheImpl as answer_equal
use Rattle.send_retry.proofs.Equals.{answers_equal}
use Rattle.tail_settings.specs.contracts.section.SectionPartialEq.TheImpl as section_equal
use Rattle.tail_settings.proofs.Sections.{sections_equal}
use Rattle.tenant_shard.specs.contracts.step.StepPartialEq.TheImpl as step_equal
use Rattle.tenant_shard.specs.declared.step.Step.{Step}
use Rattle.tenant_shard.specs.declared.step.Step.TheVariants as steps
use Rattle.tenant_shard.specs.Equal.{AreSame}

pub others_equal : (one other : Step) → ((now : ℕ) (prepared : PreparedData) → one ≡ steps.Post now prepared → ⊥) → (step_equal.eq-value.it one other ≡ true) ↔ AreSame one other
others_equal (steps.Post now prepared) other no_post = absurd (no_post now prepared refl)
others_equal (steps.Turn m) (steps.Turn n) no_post = (λ h. eqb-true m n h, λ h. eq-eqb m n h)
others_equal (steps.Answer t m k w a) (steps.Answer u n l x b) no_post =
    let answers = answers_equal a b in (
      λ h.
          let one = and_parts (t == u) ((m == n) && ((k == l) && ((w == x) && answer_equal.eq-value.it a b))) h in
          let two = and_parts (m == n) ((k == l) && ((w == x) && answer_equal.eq-value.it a b)) one.1 in
          let three = and_parts (k == l) ((w == x) && answer_equal.eq-value.it a b) two.1 in
          let four = and_parts (w == x) (answer_equal.eq-value.it a b) three.1 in
          (eqb-true t u one.0, eqb-true m n two.0, eqb-true k l three.0, eqb-true w x four.0, answers.0 four.1),
      λ h. rw (eq-eqb t u h.0, eq-eqb m n h.1, eq-eqb k l h.2, eq-eqb w x h.3, answers.1 h.4) refl,
    )
others_equal (steps.Report t m) (steps.Report u n) no_post = (
  λ h. let parts = and_parts (t == u) (m == n) h in (eqb-true t u parts.0, eqb-true m n parts.1),
  λ h. rw (eq-eqb t u h.0, eq-eqb m n h.1) refl,
)
others_equal (steps.Drain t m) (steps.Drain u n) no_post = (
  λ h. let parts = and_parts (t == u) (m == n) h in (eqb-true t u parts.0, eqb-true m n parts.1),
  λ h. rw (eq-eqb t u h.0, eq-eqb m n h.1) refl,
)
others_equal (steps.Add t a) (steps.Add u b) no_post =
    let sections = sections_equal a b in (
      λ h. let parts = and_parts (t == u) (section_equal.eq-value.it a b) h in (eqb-true t u parts.0, sections.0 parts.1),
      λ h. rw (eq-eqb t u h.0, sections.1 h.1) refl,
    )
others_equal (steps.Retire t m) (steps.Retire u n) no_post = (
  λ h. let parts = and_parts (t == u) (m == n) h in (eqb-true t u parts.0, eqb-true m n parts.1),
  λ h. rw (eq-eqb t u h.0, eq-eqb m n h.1) refl,
)
others_equal _ _ no_post = (λ h. absurd (cc), λ h. absurd h)
