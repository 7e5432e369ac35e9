use Rattle.std.proofs.Common.{◌≡◌, ◌+◌, ◌<◌, ◌≤◌, ◌++◌, [], Ok, length, drop, refl, sym, ap, ◌∙◌, append-nil, length-append, length-drop, arith, rules}
use Rattle.std.specs.List.{slice_range}
use Rattle.std.proofs.lemmas.List.{drop_all}
use Rattle.http_line.proofs.Moved.{then, then_to}
use Rattle.std.proofs.lemmas.Result.{err_from_is_err_and}
use Rattle.http_line.specs.Line.{no_call}
use Rattle.httparse.proofs.RunLemmas.{length-slice_range}
use Rattle.http_edge.proofs.Fronts.{front_come, front_more, front_len}
use Rattle.http_edge.proofs.Searched.{no_body_short}
use Rattle.http_edge.proofs.body.skip_sized.Goals as goal

pub returns-in_err-fill-clause-on_error : goal.returns-in_err-fill-clause-on_error
returns-in_err-fill-clause-on_error g c =
    let e = c.in_err-fill.ensures.on_error in
    let p = err_from_is_err_and c.from_residual.result c.from_residual.ensures.1 in
    rw p.1 (c.reads.invariant.read ++ e.0, then c.reads.invariant.so_far.0 e.1)

pub reads-init : goal.reads-init
reads-init g c =
    let end = c.args.from + c.min-come.result in
    let come = slice_range c.args.buffer.now.items c.args.from end in
    let fits : end ≤ length c.args.buffer.now.items = omega (arith, c.requires.within) in
    let n = length-slice_range c.args.buffer.now.items c.args.from end (omega arith) fits in
    record {
      read = [];
      gone = come;
      so_far = (
        no_call,
        rw c.drop_front.ensures (front_come c.args.buffer.now.items c.args.from end (omega arith)
            ∙ sym (append-nil (drop c.args.from c.args.buffer.now.items))),
        omega (arith, n),
      );
      empty = λ short. c.drop_front.ensures ∙ drop_all end c.args.buffer.now.items (omega (arith, short));
      work = omega (arith, ap length c.drop_front.ensures, length-drop end c.args.buffer.now.items, fits);
      kept = refl;
      ends = refl;
    }

pub returns-then-not-branch-clause-on_success : goal.returns-then-not-branch-clause-on_success
returns-then-not-branch-clause-on_success g c =
    let inv = c.reads.invariant in
    let quiet = c.in_ok-fill.ensures.quiet (ap Ok c.if-not-branch.true) in
    let less : 0 < c.reads.left = search rules in
    let same = front_len inv.gone c.reads.buffer.items (drop c.args.from c.args.buffer.now.items
    ++ inv.read) (inv.empty less) inv.so_far.1 in (
      inv.read,
      then_to inv.so_far.0 quiet (append-nil inv.read) refl,
      (c.requires.fits, omega (arith, same, less, inv.so_far.2)),
    )

pub returns-clause-on_success : goal.returns-clause-on_success
returns-clause-on_success g c =
    let inv = c.reads.invariant in (
      inv.read,
      inv.so_far.0,
      (inv.gone, (omega (arith, inv.so_far.2), sym inv.so_far.1), omega (arith, inv.so_far.2, c.requires.fits), search rules),
    )

pub reads-preserved : goal.reads-preserved
reads-preserved g c =
    let inv = c.reads.invariant in
    let e = c.in_ok-fill.ensures.on_success in
    let less : 0 < c.reads.left = search rules in
    let none = inv.empty less in
    let more = front_more inv.gone e.0 c.reads.buffer.items (drop c.args.from c.args.buffer.now.items) inv.read none
    inv.so_far.1 in
    let cleared : c.clear.new.self.items ≡ [] = search rules in
    let count : c.len-in-reads.result ≡ length e.0 = omega (
      arith,
      ap length e.2,
      ap length none,
      length-append c.reads.buffer.items e.0,
    ) in
    let fits : c.len-in-reads.result ≤ c.reads.left = search rules in
    record {
      read = inv.read ++ e.0;
      gone = inv.gone ++ e.0;
      so_far = (
        then inv.so_far.0 e.1,
        ap (λ v. (inv.gone ++ e.0) ++ v) (cleared ∙ sym none) ∙ more,
        omega (arith, length-append inv.gone e.0, inv.so_far.2, count, fits),
      );
      empty = λ _. cleared;
      work = omega (arith, c.in_ok-fill.ensures.reads, inv.work);
      kept = c.in_ok-fill.ensures.kept ∙ inv.kept;
      ends = c.in_ok-fill.ensures.more (ap Ok c.if-not-branch.false) ∙ inv.ends;
    }

pub returns-in_err-fill-clause-unread : goal.returns-in_err-fill-clause-unread
returns-in_err-fill-clause-unread g c = λ is.
    let p = err_from_is_err_and c.from_residual.result c.from_residual.ensures.1 in
    let told = p.1 in
    let same = p.2 in
    let inv = c.reads.invariant in
    let quiet = c.in_err-fill.ensures.unread (cc) in
    let less : 0 < c.reads.left = search rules in
    let len = front_len inv.gone c.reads.buffer.items (drop c.args.from c.args.buffer.now.items
    ++ inv.read) (inv.empty less) inv.so_far.1 in (
      inv.read,
      then_to inv.so_far.0 quiet.0 (append-nil inv.read) refl,
      no_body_short c.args.len _ (omega (arith, len, less, inv.so_far.2)),
    )
