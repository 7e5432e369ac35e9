use Rattle.log_positions.proofs.Law.{each_stands_once}
use Rattle.log_positions.proofs.each_stands_once.Goals as goal

pub returns : goal.returns
returns g c = each_stands_once {X = g.row.X.Denot}
