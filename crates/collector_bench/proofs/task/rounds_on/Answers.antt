use Rattle.std.proofs.Common.{rules, ◌≡◌, codes}
use Rattle.collector_bench.specs.Task.{IsCount, most_rounds}
use Rattle.collector_bench.proofs.Words.{asks_codec, asks_edge}
use Rattle.collector_bench.proofs.task.rounds_on.Goals as goal

pub returns-then-eq-clause-asked : goal.returns-then-eq-clause-asked
returns-then-eq-clause-asked c =
    let named : c.args.name.now ≡ codes "codec" = search rules in
    let is : IsCount most_rounds c.args.rounds.now = search rules in
    asks_codec c.args.name.now c.args.path.now c.args.rounds.now c.in_ok-rounds.rounds named is c.in_ok-rounds.ensures.value

pub returns-then-eq-2-clause-asked : goal.returns-then-eq-2-clause-asked
returns-then-eq-2-clause-asked c =
    let named : c.args.name.now ≡ codes "edge" = search rules in
    let is : IsCount most_rounds c.args.rounds.now = search rules in
    asks_edge c.args.name.now c.args.path.now c.args.rounds.now c.in_ok-rounds.rounds named is c.in_ok-rounds.ensures.value
