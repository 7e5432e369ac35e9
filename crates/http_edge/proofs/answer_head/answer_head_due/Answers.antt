use Rattle.http_edge.proofs.Searched.{not_so, blank_yet, no_response_yet}
use Rattle.http_edge.proofs.answer_head.answer_head_due.Goals as goal

pub returns-then-is_due-clause-blank : goal.returns-then-is_due-clause-blank
returns-then-is_due-clause-blank c = blank_yet c.args.watch.now.seen c.args.bytes.now c.args.watch.now.is_begun _
    c.if-is_due.ensures.begun c.requires.blank (λ f. c.if-is_due.ensures.blank f c.requires.within)

pub returns-else-is_due-clause-blank : goal.returns-else-is_due-clause-blank
returns-else-is_due-clause-blank c = blank_yet c.args.watch.now.seen c.args.bytes.now c.args.watch.now.is_begun _
    c.if-is_due.ensures.begun c.requires.blank (λ f. c.if-is_due.ensures.blank f c.requires.within)

pub returns-else-is_due-clause-begin : goal.returns-else-is_due-clause-begin
returns-else-is_due-clause-begin c =
    no_response_yet c.args.watch.now.seen c.args.bytes.now c.is_due.new.self.is_begun c.requires.none
    (λ b. not_so _ (λ met. c.if-is_due.ensures.line b c.requires.within met))
    (blank_yet c.args.watch.now.seen c.args.bytes.now c.args.watch.now.is_begun _ c.if-is_due.ensures.begun
    c.requires.blank (λ f. c.if-is_due.ensures.blank f c.requires.within))
