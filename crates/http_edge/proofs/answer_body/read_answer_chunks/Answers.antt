use Rattle.std.proofs.Common.{◌≡◌, ◌++◌, Ok, length, drop, sym, ap, inr, ◌∙◌, append_assoc, append-nil, length-drop, length-append, arith, [], refl, rules}
use Rattle.std.proofs.lemmas.List.{drop_all}
use Rattle.std.proofs.Math.Seq.{drop-append_seam}
use Rattle.std.proofs.lemmas.Result.{err_from_is_err_and}
use Rattle.http_line.proofs.Moved.{then, then_to}
use Rattle.http_edge.proofs.Pieces.{at_more, ended_by, goes_by}
use Rattle.http_edge.proofs.Searched.{no_body_at_all, no_body_since, still_going}
use Rattle.http_line.specs.Line.{no_call}
use Rattle.http_edge.proofs.answer_body.read_answer_chunks.Goals as goal

pub returns-then-ended-clause-on_success : goal.returns-then-ended-clause-on_success
returns-then-ended-clause-on_success g c =
    let inv = c.reads.invariant in
    let p = c.in_ok-taken.ensures.pieces (c.args.buffer.now.items ++ inv.read) inv.body (rw c.deref-in-reads.ensures.value
    inv.so_far.1) inv.so_far.2 in
    let q = rw c.in-More.is at p in
    (inv.read, inv.so_far.0, inr (q.3 (c.is_due-due.ensures.end c.if-ended.true), inv.met c.if-ended.true))

pub returns-in_err-more-clause-on_error : goal.returns-in_err-more-clause-on_error
returns-in_err-more-clause-on_error g c =
    let e = c.in_err-more.ensures.on_error in
    let p = err_from_is_err_and c.from_residual-in_err-more.result c.from_residual-in_err-more.ensures.1 in
    rw p.1 (c.reads.invariant.read ++ e.0, then c.reads.invariant.so_far.0 e.1)

pub reads-preserved : goal.reads-preserved
reads-preserved g c =
    let inv = c.reads.invariant in
    let p = c.in_ok-taken.ensures.pieces (c.args.buffer.now.items ++ inv.read) inv.body (rw c.deref-in-reads.ensures.value
    inv.so_far.1) inv.so_far.2 in
    let q = rw (c.in-More.is, c.deref-in-reads.ensures.value) at p in
    let e = c.in_ok-more.ensures.on_success in
    let before = c.args.buffer.now.items ++ inv.read in
    let left = drop c.in_ok-taken.taken c.reads.buffer.items in
    let behind : c.drop_front.new.buffer.items ≡ left = c.drop_front.ensures in
    let seen : c.drop_front-in-reads.new.self.seen ≡ length left = omega (
      arith,
      c.drop_front-in-reads.ensures.seen,
      c.is_due-due.ensures.seen,
      ap length c.deref.ensures.value,
      length-drop c.in_ok-taken.taken c.reads.buffer.items,
    ) in
    let begun = c.is_due-due.ensures.begun inv.watch.1 in
    let line = rw c.deref.ensures.value at c.is_due-due.ensures.line in
    let none = no_body_since before inv.searched.0 (drop c.reads.watch.seen c.reads.buffer.items) c.is_due-due.result
    inv.searched.1 inv.searched.2 q.3 (λ met. line begun inv.watch.0 met) in
    let come : drop c.drop_front-in-reads.new.self.seen c.fill.new.buffer.items ≡ e.0 =
    ap (λ n. drop n c.fill.new.buffer.items) (seen ∙ ap length (sym behind))
    ∙ (ap (drop (length c.drop_front.new.buffer.items)) e.2 ∙ drop-append_seam c.drop_front.new.buffer.items e.0) in
    record {
      read = inv.read ++ e.0;
      body = q.0;
      so_far = (
        then inv.so_far.0 e.1,
        rw (
          e.2,
          c.drop_front.ensures,
          ← append_assoc c.args.buffer.now.items
              inv.read e.0,
        ) (at_more _ _ _ _ e.0 q.1),
        q.2,
      );
      kept = c.in_ok-more.ensures.kept ∙ inv.kept;
      ends = omega (arith, c.in_ok-more.ensures.ends, inv.ends);
      met = λ f.
          let met = c.in_ok-more.ensures.end (ended_by c.in_ok-more.more f) in omega (arith, met.1, inv.ends);
      searched = (
        before,
        sym (append_assoc c.args.buffer.now.items inv.read e.0) ∙ ap (λ v. before ++ v) (sym come),
        none,
      );
      watch = (
        omega (arith, seen, ap length behind, ap length e.2, length-append c.drop_front.new.buffer.items e.0),
        c.drop_front-in-reads.ensures.begun ∙ begun,
        λ f.
            let end = c.in_ok-more.ensures.end (ended_by c.in_ok-more.more f) in
            ap (drop c.drop_front-in-reads.new.self.seen) end.0
            ∙ drop_all c.drop_front-in-reads.new.self.seen c.drop_front.new.buffer.items (omega (arith, seen, ap length behind)),
      );
      going = λ f. c.in_ok-more.ensures.more (ap Ok (goes_by c.in_ok-more.more f)) ∙ inv.going c.if-ended.false;
      stops = omega (arith, c.in_ok-more.ensures.stops, inv.going c.if-ended.false);
    }

pub reads-init : goal.reads-init
reads-init g c = record {
  read = [];
  body = [];
  so_far = (no_call, search rules, search rules);
  kept = refl;
  ends = search rules;
  met = search rules;
  searched = ([], rw c.within_body-watch.ensures.seen (append-nil c.args.buffer.now.items), no_body_at_all);
  watch = (search rules, c.within_body-watch.ensures.begun, search rules);
  going = λ _. refl;
  stops = search rules;
}

pub returns-in-End-clause-on_success : goal.returns-in-End-clause-on_success
returns-in-End-clause-on_success g c =
    let inv = c.reads.invariant in
    let p = c.in_ok-taken.ensures.pieces (c.args.buffer.now.items ++ inv.read) inv.body (rw c.deref-in-reads.ensures.value
    inv.so_far.1) inv.so_far.2 in
    let q = rw c.in-End.is at p in
    let same = still_going c.reads.ended (c.args.buffer.now.items ++ inv.read) inv.searched.0
    (drop c.reads.watch.seen c.reads.buffer.items) q.0 _ inv.searched.1 inv.searched.2 inv.watch.2 q.1 inv.going in (
      inv.read,
      inv.so_far.0,
      (q.0, _, q.1, λ e. absurd (cc), λ _ end. absurd (omega (arith, end, same)), q.2.bytes),
    )

pub returns-in_err-more-clause-unread : goal.returns-in_err-more-clause-unread
returns-in_err-more-clause-unread g c = λ is.
    let fault = err_from_is_err_and c.from_residual-in_err-more.result c.from_residual-in_err-more.ensures.1 in
    let told = fault.1 in
    let same = fault.2 in
    let inv = c.reads.invariant in
    let quiet = c.in_err-more.ensures.unread (cc) in
    let p = c.in_ok-taken.ensures.pieces (c.args.buffer.now.items ++ inv.read) inv.body (rw c.deref-in-reads.ensures.value
    inv.so_far.1) inv.so_far.2 in
    let q = rw (c.in-More.is, c.deref-in-reads.ensures.value) at p in
    let begun = c.is_due-due.ensures.begun inv.watch.1 in
    let line = rw c.deref.ensures.value at c.is_due-due.ensures.line in (
      inv.read,
      then_to inv.so_far.0 quiet.0 (append-nil inv.read) refl,
      λ _. no_body_since (c.args.buffer.now.items ++ inv.read) inv.searched.0 (drop c.reads.watch.seen c.reads.buffer.items)
          c.is_due-due.result inv.searched.1 inv.searched.2 q.3 (λ met. line begun inv.watch.0 met),
    )
