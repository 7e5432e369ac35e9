use Rattle.http_edge.specs.declared.head.HeadProgress.TheVariants.{More}
use Rattle.http_edge.specs.Stages.{IsHeadProgress}
use Rattle.http_edge.proofs.server.head_there.Goals as goal

pub returns-in-More-clause-none : goal.returns-in-More-clause-none
returns-in-More-clause-none c = λ _.
    let begin : IsHeadProgress c.args.bytes.now More = rw c.in-More.is at c.head_at.ensures.begin in
    begin.0
