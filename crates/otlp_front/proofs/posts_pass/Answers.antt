use Rattle.otlp_front.proofs.Cases.{posts_pass}
use Rattle.otlp_front.proofs.posts_pass.Goals as goal

pub returns : goal.returns
returns c = posts_pass
