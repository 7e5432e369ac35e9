use Rattle.std.proofs.Common.{◌++◌, Ok, length, ap, ◌∙◌, append_assoc, [], refl, sym, subst, append-nil, rules}
use Rattle.std.proofs.lemmas.Result.{err_from_is_err_and}
use Rattle.http_line.proofs.Moved.{then, then_to}
use Rattle.http_line.specs.Line.{no_call}
use Rattle.httparse.specs.Grammar.{HasNoResponse}
use Rattle.http_edge.specs.Chunks.{has_text}
use Rattle.http_edge.specs.AnswerBody.{IsAnswerHeadProgress}
use Rattle.http_edge.specs.declared.answer_head.AnswerHeadProgress.TheVariants.{More}
use Rattle.http_edge.proofs.Searched.{response_blank, watched_more}
use Rattle.http_edge.proofs.answer_head.read_answer_head.Goals as goal

pub returns-in_err-fill-clause-on_error : goal.returns-in_err-fill-clause-on_error
returns-in_err-fill-clause-on_error g c =
    let e = c.in_err-fill.ensures.on_error in
    let p = err_from_is_err_and c.from_residual.result c.from_residual.ensures.1 in
    rw p.1 (c.looks.invariant.read ++ e.0, then c.looks.invariant.moves.0 e.1)

pub looks-preserved : goal.looks-preserved
looks-preserved g c =
    let inv = c.looks.invariant in
    let e = c.in_ok-fill.ensures.on_success in
    let none : IsAnswerHeadProgress c.looks.buffer.items More = rw (c.in-More.is, c.deref.ensures.value)
    at c.answer_head_due.ensures.begin in
    record {
      read = inv.read ++ e.0;
      moves = (
        then inv.moves.0 e.1,
        e.2 ∙ (ap (λ v. v ++ e.0) inv.moves.1
            ∙ append_assoc c.args.buffer.now.items inv.read e.0),
      );
      kept = c.in_ok-fill.ensures.kept ∙ inv.kept;
      ends = c.in_ok-fill.ensures.more (ap Ok c.if-not-branch.false) ∙ inv.ends;
      watched = watched_more c.looks.buffer.items e.0
          (c.answer_head_due.ensures.seen ∙ ap length c.deref.ensures.value) e.2 none
          (λ f. ap has_text (sym c.deref.ensures.value) ∙ c.answer_head_due.ensures.blank f);
    }

pub looks-init : goal.looks-init
looks-init g c = record {
  read = [];
  moves = (no_call, sym (append-nil c.args.buffer.now.items));
  kept = refl;
  ends = refl;
  watched = record {
    within = search rules;
    none = rw c.before_head-watch.ensures.seen (response_blank [] refl);
    blank = λ _. rw c.before_head-watch.ensures.seen refl;
  };
}

pub returns-then-not-branch-clause-on_success : goal.returns-then-not-branch-clause-on_success
returns-then-not-branch-clause-on_success g c =
    let inv = c.looks.invariant in
    let end = c.in_ok-fill.ensures.end c.if-not-branch.true in
    let quiet = c.in_ok-fill.ensures.quiet (ap Ok c.if-not-branch.true) in
    let none : IsAnswerHeadProgress c.looks.buffer.items More = rw (c.in-More.is, c.deref.ensures.value)
    at c.answer_head_due.ensures.begin in (
      inv.read,
      then_to inv.moves.0 quiet (append-nil inv.read) refl,
      end.0 ∙ inv.moves.1,
      rw end.0 none,
    )

pub returns-in_err-fill-clause-unread : goal.returns-in_err-fill-clause-unread
returns-in_err-fill-clause-unread g c = λ failed.
    let inv = c.looks.invariant in
    let p = err_from_is_err_and c.from_residual.result c.from_residual.ensures.1 in
    let told = p.1 in
    let same = p.2 in
    let quiet = c.in_err-fill.ensures.unread (cc) in
    let none : IsAnswerHeadProgress c.looks.buffer.items More = rw (c.in-More.is, c.deref.ensures.value)
    at c.answer_head_due.ensures.begin in (
      inv.read,
      then_to inv.moves.0 quiet.0 (append-nil inv.read) refl,
      subst HasNoResponse inv.moves.1 none,
    )
