use Rattle.std.proofs.Common.{string_bytes, arith}
use Rattle.collector_bench.proofs.Words.{no_words}
use Rattle.collector_bench.proofs.task.asked_task.Goals as goal

pub returns-in-empty-clause-asked : goal.returns-in-empty-clause-asked
returns-in-empty-clause-asked c = no_words string_bytes c.args.args.now (omega (arith, c.in-empty.len_below))
