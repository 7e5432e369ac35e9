use Rattle.replay_script.proofs.Equal.{commands_equal, script_faults_equal, answer_faults_equal}
use Rattle.replay_script.proofs.law.equal_commands.Goals as goal

pub returns : goal.returns
returns c = record { command = commands_equal; script_fault = script_faults_equal; answer_fault = answer_faults_equal }
