use Rattle.replay_script.proofs.Found.{first_place}
use Rattle.replay_script.proofs.command.first_space.Goals as goal

pub returns : goal.returns
returns c = first_place 32 c.args.text.now c.memchr.result c.memchr.ensures
