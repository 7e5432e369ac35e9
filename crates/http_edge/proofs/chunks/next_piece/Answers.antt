use Rattle.std.proofs.Common.{◌≡◌, sym, ap, subst, ◌∙◌, arith}
use Rattle.http_edge.specs.declared.chunks.ChunkedState.TheVariants.{Bytes}
use Rattle.http_edge.specs.Stages.{IsAt, IsPiece}
use Rattle.http_edge.proofs.chunks.next_piece.Goals as goal

pub returns-else-left-gt0-clause-piece : goal.returns-else-left-gt0-clause-piece
returns-else-left-gt0-clause-piece c = λ stream body p.
    let none : c.in-Bytes.left ≡ 0 = omega arith in
    let e : c.args.part ≡ Bytes 0 = c.in-Bytes.is ∙ ap Bytes none in
    let here = subst (λ v. IsAt stream v body c.args.input.now) e p in
    subst (λ v. IsPiece stream v body c.args.input.now c.next_end.result) (sym e) (c.next_end.ensures.piece stream body
    here)
