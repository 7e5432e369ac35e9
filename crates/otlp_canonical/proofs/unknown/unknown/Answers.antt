use Rattle.std.proofs.Common.{rules}
use Rattle.otlp_canonical.proofs.Parts.{nothing}
use Rattle.otlp_canonical.proofs.Others.{none_kept}
use Rattle.otlp_canonical.proofs.unknown.unknown.Goals as goal

pub returns-then-is_empty : goal.returns-then-is_empty
returns-then-is_empty g c = none_kept g.M.Keeping.known c.args.room _ (nothing _ (search rules))
