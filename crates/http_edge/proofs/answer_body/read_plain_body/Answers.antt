use Rattle.std.proofs.Common.{◌≢◌, ◌++◌, [], Ok, refl, sym, ap, ◌∙◌, inl, inr, append_assoc, append-nil, arith, rules}
use Rattle.std.proofs.lemmas.Result.{err_from_is_err_and}
use Rattle.http1.specs.declared.framing.Framing.TheVariants as Framed
use Rattle.http_line.proofs.Moved.{then, then_to}
use Rattle.http_edge.proofs.Come.{come_read, come_to_end}
use Rattle.http_line.specs.Line.{no_call}
use Rattle.http_edge.proofs.answer_body.read_plain_body.Goals as goal

pub returns-in-End-clause-on_success : goal.returns-in-End-clause-on_success
returns-in-End-clause-on_success g c =
    let inv = c.reads.invariant in
    let p = c.in_ok-taken.ensures.pieces c.args.framing (c.args.buffer.now.items
    ++ inv.read) inv.body (rw c.deref.ensures.value inv.so_far.1) inv.so_far.2 in
    let q = rw (c.in-End.is, c.deref.ensures.value) at p in (
      inv.read,
      inv.so_far.0,
      (
        q.0,
        c.drop_front.new.buffer.items,
        rw c.drop_front.ensures q.1,
        λ e.
            absurd (q.3 e),
        λ _ end. absurd (omega (arith, end, inv.ends)),
        q.2.bytes,
      ),
    )

pub returns-in-Bad-clause-on_success : goal.returns-in-Bad-clause-on_success
returns-in-Bad-clause-on_success g c =
    let inv = c.reads.invariant in
    let p = c.in_ok-taken.ensures.pieces c.args.framing (c.args.buffer.now.items
    ++ inv.read) inv.body (rw c.deref.ensures.value inv.so_far.1) inv.so_far.2 in
    let q = rw c.in-Bad.is at p in
    (inv.read, inv.so_far.0, inl q)

pub returns-in_err-fill-clause-on_error : goal.returns-in_err-fill-clause-on_error
returns-in_err-fill-clause-on_error g c =
    let e = c.in_err-fill.ensures.on_error in
    let p = err_from_is_err_and c.from_residual-in_err-fill.result c.from_residual-in_err-fill.ensures.1 in
    rw p.1 (c.reads.invariant.read ++ e.0, then c.reads.invariant.so_far.0 e.1)

pub returns-in-UntilClose-clause-on_success : goal.returns-in-UntilClose-clause-on_success
returns-in-UntilClose-clause-on_success g c =
    let inv = c.reads.invariant in
    let p = c.in_ok-taken.ensures.pieces c.args.framing (c.args.buffer.now.items
    ++ inv.read) inv.body (rw c.deref.ensures.value inv.so_far.1) inv.so_far.2 in
    let q = rw (c.in-More.is, c.deref.ensures.value) at p in
    let end = c.in_ok-fill.ensures.end (c.if-not-branch.true) in
    let quiet = c.in_ok-fill.ensures.quiet (ap Ok (c.if-not-branch.true)) in
    let e = c.in-UntilClose.is in (
      inv.read,
      then_to inv.so_far.0 quiet (append-nil inv.read) refl,
      (
        q.0,
        [],
        come_to_end q.1 e (q.4 e),
        λ _.
            omega (arith, end.1, inv.ends),
        λ other. absurd (other e),
        q.2.bytes,
      ),
    )

pub returns-in-NoBody-clause-on_success : goal.returns-in-NoBody-clause-on_success
returns-in-NoBody-clause-on_success g c =
    let inv = c.reads.invariant in
    let p = c.in_ok-taken.ensures.pieces c.args.framing (c.args.buffer.now.items
    ++ inv.read) inv.body (rw c.deref.ensures.value inv.so_far.1) inv.so_far.2 in
    let q = rw (c.in-More.is, c.deref.ensures.value) at p in
    let end = c.in_ok-fill.ensures.end (c.if-not-branch.true) in
    let quiet = c.in_ok-fill.ensures.quiet (ap Ok (c.if-not-branch.true)) in
    let other : c.args.framing ≢ Framed.UntilClose = λ e. let f = sym c.in-NoBody.is ∙ e in cc in
    (inv.read, then_to inv.so_far.0 quiet (append-nil inv.read) refl, inr (q.3 other, omega (arith, end.1, inv.ends)))

pub returns-in-Length-clause-on_success : goal.returns-in-Length-clause-on_success
returns-in-Length-clause-on_success g c =
    let inv = c.reads.invariant in
    let p = c.in_ok-taken.ensures.pieces c.args.framing (c.args.buffer.now.items
    ++ inv.read) inv.body (rw c.deref.ensures.value inv.so_far.1) inv.so_far.2 in
    let q = rw (c.in-More.is, c.deref.ensures.value) at p in
    let end = c.in_ok-fill.ensures.end (c.if-not-branch.true) in
    let quiet = c.in_ok-fill.ensures.quiet (ap Ok (c.if-not-branch.true)) in
    let other : c.args.framing ≢ Framed.UntilClose = λ e. let f = sym c.in-Length.is ∙ e in cc in
    (inv.read, then_to inv.so_far.0 quiet (append-nil inv.read) refl, inr (q.3 other, omega (arith, end.1, inv.ends)))

pub returns-in-Chunked-clause-on_success : goal.returns-in-Chunked-clause-on_success
returns-in-Chunked-clause-on_success g c =
    let inv = c.reads.invariant in
    let p = c.in_ok-taken.ensures.pieces c.args.framing (c.args.buffer.now.items
    ++ inv.read) inv.body (rw c.deref.ensures.value inv.so_far.1) inv.so_far.2 in
    let q = rw (c.in-More.is, c.deref.ensures.value) at p in
    let end = c.in_ok-fill.ensures.end (c.if-not-branch.true) in
    let quiet = c.in_ok-fill.ensures.quiet (ap Ok (c.if-not-branch.true)) in
    let other : c.args.framing ≢ Framed.UntilClose = λ e. let f = sym c.in-Chunked.is ∙ e in cc in
    (inv.read, then_to inv.so_far.0 quiet (append-nil inv.read) refl, inr (q.3 other, omega (arith, end.1, inv.ends)))

pub reads-preserved : goal.reads-preserved
reads-preserved g c =
    let inv = c.reads.invariant in
    let p = c.in_ok-taken.ensures.pieces c.args.framing (c.args.buffer.now.items
    ++ inv.read) inv.body (rw c.deref.ensures.value inv.so_far.1) inv.so_far.2 in
    let q = rw (c.in-More.is, c.deref.ensures.value) at p in
    let e = c.in_ok-fill.ensures.on_success in
    record {
      read = inv.read ++ e.0;
      body = q.0;
      so_far = (
        then inv.so_far.0 e.1,
        rw (
          e.2,
          c.drop_front.ensures,
          ← append_assoc c.args.buffer.now.items
              inv.read e.0,
        ) (come_read e.0 q.1),
        q.2,
      );
      kept = c.in_ok-fill.ensures.kept ∙ inv.kept;
      ends = c.in_ok-fill.ensures.more (ap Ok c.if-not-branch.false) ∙ inv.ends;
    }

pub reads-init : goal.reads-init
reads-init g c = record {
  read = [];
  body = [];
  so_far = (no_call, search rules, search rules);
  kept = refl;
  ends = refl;
}

pub returns-in_err-fill-clause-unread : goal.returns-in_err-fill-clause-unread
returns-in_err-fill-clause-unread g c = λ failed.
    let inv = c.reads.invariant in
    let told = err_from_is_err_and c.from_residual-in_err-fill.result c.from_residual-in_err-fill.ensures.1 in
    let fault = told.1 in
    let same = told.2 in
    let quiet = c.in_err-fill.ensures.unread (cc) in
    let p = c.in_ok-taken.ensures.pieces c.args.framing (c.args.buffer.now.items
    ++ inv.read) inv.body (rw c.deref.ensures.value inv.so_far.1) inv.so_far.2 in
    let q = rw (c.in-More.is, c.deref.ensures.value) at p in
    (inv.read, then_to inv.so_far.0 quiet.0 (append-nil inv.read) refl, q.3)
