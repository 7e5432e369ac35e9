use Rattle.log_positions.proofs.Law.{rising_is_the_list}
use Rattle.log_positions.proofs.rising_is_the_list.Goals as goal

pub returns : goal.returns
returns g c = rising_is_the_list {X = g.row.X.Denot}
