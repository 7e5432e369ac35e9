use Rattle.std.proofs.Common.{rules, ◌≡◌, codes}
use Rattle.collector_bench.specs.Task.{IsCount, most_rounds, most_policies}
use Rattle.collector_bench.proofs.Words.{asks_prepare}
use Rattle.collector_bench.proofs.task.preparing.Goals as goal

pub returns-clause-asked : goal.returns-clause-asked
returns-clause-asked c =
    let named : c.args.name.now ≡ codes "prepare" = search rules in
    let is : IsCount most_rounds c.args.rounds.now = search rules in
    let few : IsCount most_policies c.args.policies.now = search rules in
    asks_prepare c.args.name.now c.args.path.now c.args.rounds.now c.args.policies.now c.in_ok-rounds.rounds c.in_ok-policies.policies
    named is few c.in_ok-rounds.ensures.value c.in_ok-policies.ensures.value
