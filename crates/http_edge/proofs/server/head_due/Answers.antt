use Rattle.std.proofs.Common.{◌≡◌, ℕ, List, [], ◌∷◌, length, refl, arith}
use Rattle.httparse.specs.Grammar.{HasNoRequest}
use Rattle.http_edge.proofs.Searched.{not_so, blank_yet, no_request_yet, request_blank}
use Rattle.http_edge.proofs.server.head_due.Goals.{else-is_due-via-then-is_due+else-not-is_empty, else-is_due-via-else-is_due}
use Rattle.http_edge.proofs.server.head_due.Goals as goal

-- where there is no byte there is no head
no_byte : (bytes : List ℕ) → length bytes ≡ 0 → HasNoRequest bytes
no_byte [] e = request_blank [] refl
no_byte (b ∷ bytes) e = absurd (omega (arith, e))

pub returns-then-not-is_empty-clause-blank : goal.returns-then-not-is_empty-clause-blank
returns-then-not-is_empty-clause-blank c = blank_yet c.args.watch.now.seen c.args.bytes.now c.args.watch.now.is_begun _
    c.if-is_due.ensures.begun c.requires.blank (λ f. c.if-is_due.ensures.blank f c.requires.within)

pub returns-else-is_due-clause-blank : goal.returns-else-is_due-clause-blank
returns-else-is_due-clause-blank c =
    elim c.else-is_due.branch [
      | else-is_due-via-then-is_due+else-not-is_empty w ↦
          blank_yet c.args.watch.now.seen c.args.bytes.now c.args.watch.now.is_begun _
          w.if-is_due.ensures.begun c.requires.blank (λ f. w.if-is_due.ensures.blank f c.requires.within)
      | else-is_due-via-else-is_due w ↦
          blank_yet c.args.watch.now.seen c.args.bytes.now c.args.watch.now.is_begun _
          w.if-is_due.ensures.begun c.requires.blank (λ f. w.if-is_due.ensures.blank f c.requires.within)
    ]

pub returns-else-is_due-clause-none : goal.returns-else-is_due-clause-none
returns-else-is_due-clause-none c = λ _.
    elim c.else-is_due.branch [
      | else-is_due-via-then-is_due+else-not-is_empty w ↦
          no_byte c.args.bytes.now (grind (arith, w.is_empty.ensures, w.if-not-is_empty.false))
      | else-is_due-via-else-is_due w ↦
          no_request_yet c.args.watch.now.seen c.args.bytes.now c.is_due.new.self.is_begun c.requires.none
          (λ b. not_so _ (λ met. w.if-is_due.ensures.line b c.requires.within met))
          (blank_yet c.args.watch.now.seen c.args.bytes.now c.args.watch.now.is_begun _ w.if-is_due.ensures.begun
          c.requires.blank (λ f. w.if-is_due.ensures.blank f c.requires.within))
    ]
