use Rattle.std.proofs.Common.{◌≡◌, ◌<◌, length, arith}
use Rattle.std.proofs.lemmas.Bool.Decides.{nat_tests}
use Rattle.http_edge.proofs.Pieces.{data_end, data_lacks, end_fails_first, end_fails_second, end_lacks, two_at}
use Rattle.http_edge.proofs.chunks.next_end.Goals as goal

pub returns-then-is_empty-clause-piece : goal.returns-then-is_empty-clause-piece
returns-then-is_empty-clause-piece c = λ stream body d.
    let none : length c.args.input.now ≡ 0 = grind (arith, nat_tests, c.if-is_empty.ensures) in data_lacks d none

pub returns-then-input-ne13-clause-piece : goal.returns-then-input-ne13-clause-piece
returns-then-input-ne13-clause-piece c = λ stream body d.
    let some : 0 < length c.args.input.now = grind (arith, nat_tests, c.if-is_empty.ensures) in
    end_fails_first d some c.if-input-ne13.true

pub returns-then-input-lt2-clause-piece : goal.returns-then-input-lt2-clause-piece
returns-then-input-lt2-clause-piece c = λ stream body d.
    let some : 0 < length c.args.input.now = grind (arith, nat_tests, c.if-is_empty.ensures) in
    end_lacks d (omega (arith, some)) c.if-input-ne13.false

pub returns-then-input-ne10-clause-piece : goal.returns-then-input-ne10-clause-piece
returns-then-input-ne10-clause-piece c = λ stream body d. end_fails_second d (omega arith) c.if-input-ne10.true

pub returns-clause-piece : goal.returns-clause-piece
returns-clause-piece c = λ stream body d.
    data_end d (two_at c.args.input.now (omega arith) c.if-input-ne13.false c.if-input-ne10.false)
