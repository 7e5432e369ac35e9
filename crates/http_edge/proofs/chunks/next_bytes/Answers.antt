use Rattle.std.proofs.Common.{arith}
use Rattle.http_edge.proofs.Pieces.{data_more}
use Rattle.http_edge.proofs.chunks.next_bytes.Goals as goal

pub returns-clause-piece : goal.returns-clause-piece
returns-clause-piece c = λ stream body d. data_more c.args.left c.min-len.result d (omega arith) (omega arith)
