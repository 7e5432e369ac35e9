use Rattle.std.proofs.Common.{◌++◌, arith, length-drop}
use Rattle.std.proofs.lemmas.List.{drop-drop}
use Rattle.http_edge.proofs.Moved.{take_tail}
use Rattle.http_edge.proofs.Come.{come_more, come_end, come_bad, come_wait, come_lacks, come_drained, come_endless}
use Rattle.http_edge.proofs.answer_body.take_plain.Goals as goal

pub returns-in-Err-clause-pieces : goal.returns-in-Err-clause-pieces
returns-in-Err-clause-pieces c = λ framing stream body t k.
    let tail = take_tail c.pieces.at c.args.bytes.now c.pieces.invariant.within in
    let so_far = c.pieces.invariant.taken framing stream body t k in
    come_bad so_far.1 (rw tail at c.in-Err.ensures.err) (omega arith)

pub returns-in-Ok-End-clause-pieces : goal.returns-in-Ok-End-clause-pieces
returns-in-Ok-End-clause-pieces c = λ framing stream body t k.
    let tail = take_tail c.pieces.at c.args.bytes.now c.pieces.invariant.within in
    let found = rw (c.in-Ok-End.field-0-is, tail) at c.in-Ok-End.ensures.ok in
    let so_far = c.pieces.invariant.taken framing stream body t k in (
      so_far.0,
      rw (← drop-drop c.in-Ok-End.len c.pieces.at c.args.bytes.now) (come_end so_far.1 found (omega arith)),
      so_far.2,
      come_endless so_far.1 found,
    )

pub returns-in-Ok-NeedMore-clause-pieces : goal.returns-in-Ok-NeedMore-clause-pieces
returns-in-Ok-NeedMore-clause-pieces c = λ framing stream body t k.
    let tail = take_tail c.pieces.at c.args.bytes.now c.pieces.invariant.within in
    let found = rw (c.in-Ok-NeedMore.field-0-is, tail) at c.in-Ok-NeedMore.ensures.ok in
    let so_far = c.pieces.invariant.taken framing stream body t k in
    rw (← drop-drop c.in-Ok-NeedMore.len c.pieces.at c.args.bytes.now) (
      so_far.0,
      come_wait so_far.1 found,
      so_far.2,
      λ other. come_lacks so_far.1 found (λ e.
          other (so_far.1.to_end.1 e)),
      λ same. come_drained so_far.1 found same,
    )

pub pieces-preserved : goal.pieces-preserved
pieces-preserved c =
    let tail = take_tail c.pieces.at c.args.bytes.now c.pieces.invariant.within in
    let found = rw (c.in-Ok-Data.field-0-is, tail) at c.in-Ok-Data.ensures.ok in
    record {
      within = omega (arith, found.1.within, length-drop c.pieces.at c.args.bytes.now);
      taken = λ framing stream body t k.
          let so_far = c.pieces.invariant.taken framing stream body t k in (
            so_far.0 ++ c.of.result.now,
            rw (c.of.ensures, tail, ← drop-drop c.in-Ok-Data.span.end c.pieces.at c.args.bytes.now) (come_more so_far.1
                found.1),
            c.in_ok-add-in-Ok-Data.ensures so_far.0 so_far.2,
          );
    }
