use Rattle.std.proofs.Common.{◌+◌, arith, rules}
use Rattle.std.proofs.lemmas.List.{drop_all}
use Rattle.http_edge.proofs.Fronts.{front_come}
use Rattle.httparse.proofs.RunLemmas.{length-slice_range}
use Rattle.http_edge.proofs.body.take_front.Goals as goal

pub returns-clause-parts : goal.returns-clause-parts
returns-clause-parts c =
    let f = front_come c.args.buffer.now.items c.args.from (c.args.from + c.min.result) (omega arith) in search rules

pub returns-clause-all : goal.returns-clause-all
returns-clause-all c = λ short.
    let n = length-slice_range c.args.buffer.now.items c.args.from (c.args.from + c.min.result) (omega arith) (search rules) in
    let all = drop_all (c.args.from + c.min.result) c.args.buffer.now.items (search rules) in
    search rules
