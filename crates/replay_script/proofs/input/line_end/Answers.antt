use Rattle.replay_script.proofs.Found.{first_place}
use Rattle.replay_script.proofs.input.line_end.Goals as goal

pub returns : goal.returns
returns c = first_place 10 c.args.shown.now c.memchr.result c.memchr.ensures
