use Rattle.tail_settings.proofs.Faults.{faults_equal}
use Rattle.tail_settings.proofs.fault.equal_faults.Goals as goal

pub returns : goal.returns
returns c = faults_equal
