use Rattle.std.proofs.Common.{◌+◌, length, arith}
use Rattle.http_edge.specs.Stages.{bytes_due}
use Rattle.http_edge.proofs.Moved.{take_tail}
use Rattle.http_edge.proofs.Once.{lacks_not}
use Rattle.http_edge.proofs.Pieces.{never_chunked}
use Rattle.http_edge.proofs.answer_body.take_chunks.Goals as goal

pub returns-in-More-clause-pieces : goal.returns-in-More-clause-pieces
returns-in-More-clause-pieces c = λ stream body t k.
    let so_far = c.pieces.invariant.taken stream body t k in
    let tail = take_tail c.pieces.at c.args.bytes.now c.pieces.invariant.within in
    let piece = rw tail at c.in-More.ensures.piece in
    let stop = piece stream so_far.0 so_far.1 (length so_far.0 + bytes_due c.pieces.part) (omega arith) in
    (so_far.0, so_far.1, so_far.2, λ _ b left. lacks_not stop)

pub returns-in-Bad-clause-pieces : goal.returns-in-Bad-clause-pieces
returns-in-Bad-clause-pieces c = λ stream body t k.
    let so_far = c.pieces.invariant.taken stream body t k in
    let tail = take_tail c.pieces.at c.args.bytes.now c.pieces.invariant.within in
    let piece = rw tail at c.in-Bad.ensures.piece in
    never_chunked (piece stream so_far.0 so_far.1 (length so_far.0 + bytes_due c.pieces.part) (omega arith))
