use Rattle.std.proofs.Common.{◌≡◌, ◌++◌, ◌∙◌, suc, Ok, sym, ap, subst, drop, arith, [], refl, rules}
use Rattle.std.proofs.lemmas.Result.{err_from_is_err_and}
use Rattle.std.proofs.lemmas.Bool.{lt-ltb}
use Rattle.http_edge.specs.declared.answer_head.AnswerHeadProgress.TheVariants.{Whole, More, Bad}
use Rattle.http_edge.specs.Post.{SkipsInterims, many_interims, bad_head, cut_head}
use Rattle.http_edge.specs.AnswerBody.{IsAnswerHeadProgress}
use Rattle.http_line.proofs.Moved.{then}
use Rattle.http_edge.proofs.Answered.{skips_read, skips_more, skips_next, answer_within, status_interim}
use Rattle.http_edge.proofs.OneAnswer.{lacks_head}
use Rattle.http_line.specs.Line.{no_call}
use Rattle.http_edge.proofs.answer.read_final_head.Goals as goal

pub returns-in_err-read_answer_head-clause-on_error : goal.returns-in_err-read_answer_head-clause-on_error
returns-in_err-read_answer_head-clause-on_error g c =
    let e = c.in_err-read_answer_head.ensures.on_error in
    let p = err_from_is_err_and c.from_residual.result c.from_residual.ensures.1 in
    rw p.1 (c.heads.invariant.read ++ e.0, then c.heads.invariant.so_far.0 e.1)

pub returns-in-More-clause-on_success : goal.returns-in-More-clause-on_success
returns-in-More-clause-on_success g c =
    let inv = c.heads.invariant in
    let e = c.in_ok-read_answer_head.ensures.on_success in
    let begin : IsAnswerHeadProgress c.read_answer_head.new.buffer.items More = rw c.in-More.is at e.3 in
    let skips = skips_read c.heads.interims inv.read c.heads.buffer.items e.0 inv.so_far.1 in
    let met = c.in_ok-read_answer_head.ensures.end (ap Ok c.in-More.is) in (
      inv.read ++ e.0,
      then inv.so_far.0 e.1,
      cut_head c.heads.interims c.read_answer_head.new.buffer.items inv.few
          (rw (← e.2) at skips) begin (lt-ltb _ _ (omega (arith, met, inv.ends))),
    )

pub returns-in-Bad-clause-on_success : goal.returns-in-Bad-clause-on_success
returns-in-Bad-clause-on_success g c =
    let inv = c.heads.invariant in
    let e = c.in_ok-read_answer_head.ensures.on_success in
    let begin : IsAnswerHeadProgress c.read_answer_head.new.buffer.items Bad = rw c.in-Bad.is at e.3 in
    let skips = skips_read c.heads.interims inv.read c.heads.buffer.items e.0 inv.so_far.1 in (
      inv.read ++ e.0,
      then inv.so_far.0 e.1,
      bad_head c.heads.interims c.read_answer_head.new.buffer.items inv.few
          (rw (← e.2) at skips) begin,
    )

pub returns-then-not-is_interim-clause-on_success : goal.returns-then-not-is_interim-clause-on_success
returns-then-not-is_interim-clause-on_success g c =
    let inv = c.heads.invariant in
    let e = c.in_ok-read_answer_head.ensures.on_success in
    let begin : IsAnswerHeadProgress c.read_answer_head.new.buffer.items (Whole c.in-Whole.head) = rw c.in-Whole.is at e.3 in
    let skips = skips_read c.heads.interims inv.read c.heads.buffer.items e.0 inv.so_far.1 in
    let final = sym (status_interim c.is_interim.result begin.1 c.is_interim.ensures) ∙ c.if-not-is_interim.true in (
      inv.read ++ e.0,
      then inv.so_far.0 e.1,
      (
        begin.0,
        record {
          interims = c.heads.interims;
          few = inv.few;
          rest = c.read_answer_head.new.buffer.items;
          skips = rw (← e.2) at skips;
          head = begin.1.has;
          final = final;
        },
        begin.1,
      ),
    )

pub returns-then-interims-eq-MOST_INTERIMS-clause-on_success : goal.returns-then-interims-eq-MOST_INTERIMS-clause-on_success
returns-then-interims-eq-MOST_INTERIMS-clause-on_success g c =
    let inv = c.heads.invariant in
    let e = c.in_ok-read_answer_head.ensures.on_success in
    let buffer = c.read_answer_head.new.buffer.items in
    let after = drop c.in-Whole.head.len buffer in
    let begin : IsAnswerHeadProgress buffer (Whole c.in-Whole.head) = rw c.in-Whole.is at e.3 in
    let skips = rw (← e.2) at (skips_read c.heads.interims inv.read c.heads.buffer.items e.0 inv.so_far.1) in
    let interim = sym (status_interim c.is_interim.result begin.1 c.is_interim.ensures) ∙ c.if-not-is_interim.false in
    let all : c.heads.interims ≡ 16 = omega arith in
    let more = skips_more c.heads.interims begin.0 (inv.read ++ e.0) buffer after skips begin.1.has interim in (
      inv.read ++ e.0,
      then inv.so_far.0 e.1,
      many_interims after (subst (λ n. SkipsInterims (suc n) (inv.read ++ e.0) after) all more),
    )

pub drop_front-requires : goal.drop_front-requires
drop_front-requires g c =
    let e = c.in_ok-read_answer_head.ensures.on_success in
    let begin : IsAnswerHeadProgress c.read_answer_head.new.buffer.items (Whole c.in-Whole.head) = rw c.in-Whole.is at e.3 in
    answer_within begin.1

pub heads-preserved : goal.heads-preserved
heads-preserved g c =
    let inv = c.heads.invariant in
    let e = c.in_ok-read_answer_head.ensures.on_success in
    let begin : IsAnswerHeadProgress c.read_answer_head.new.buffer.items (Whole c.in-Whole.head) = rw c.in-Whole.is at e.3 in
    let skips = rw (← e.2) at (skips_read c.heads.interims inv.read c.heads.buffer.items e.0 inv.so_far.1) in
    let interim = sym (status_interim c.is_interim.result begin.1 c.is_interim.ensures) ∙ c.if-not-is_interim.false in
    let buffer = c.read_answer_head.new.buffer.items in
    let after = drop c.in-Whole.head.len buffer in
    let more = skips_next c.heads.interims begin.0 (inv.read ++ e.0) buffer after skips begin.1.has interim in
    record {
      read = inv.read ++ e.0;
      so_far = (then inv.so_far.0 e.1, rw c.drop_front.ensures more);
      few = omega (arith, inv.few);
      kept = c.in_ok-read_answer_head.ensures.kept ∙ inv.kept;
      ends = (rw c.in-Whole.is at c.in_ok-read_answer_head.ensures.whole) ∙ inv.ends;
    }

pub heads-init : goal.heads-init
heads-init g c = record {
  read = [];
  so_far = (no_call, sym c.requires);
  few = search rules;
  kept = refl;
  ends = refl;
}

pub returns-then-not-is_interim-clause-whole : goal.returns-then-not-is_interim-clause-whole
returns-then-not-is_interim-clause-whole g c =
    (rw c.in-Whole.is at c.in_ok-read_answer_head.ensures.whole) ∙ c.heads.invariant.ends

pub returns-in_err-read_answer_head-clause-unread : goal.returns-in_err-read_answer_head-clause-unread
returns-in_err-read_answer_head-clause-unread g c = λ failed.
    let inv = c.heads.invariant in
    let p = err_from_is_err_and c.from_residual.result c.from_residual.ensures.1 in
    let told = p.1 in
    let same = p.2 in
    let e = c.in_err-read_answer_head.ensures.unread (cc) in (
      inv.read ++ e.0,
      then inv.so_far.0 e.1,
      lacks_head c.heads.interims (inv.read ++ e.0) (c.heads.buffer.items ++ e.0) inv.few
          (skips_read c.heads.interims inv.read c.heads.buffer.items e.0 inv.so_far.1) e.2,
    )
