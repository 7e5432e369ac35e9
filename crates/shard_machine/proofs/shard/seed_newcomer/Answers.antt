use Rattle.std.proofs.Common.{ap}
use Rattle.tail_settings.specs.Section.{section_view}
use Rattle.tenant_shard.specs.Outcomes.{asked_in}
use Rattle.shard_machine.proofs.Comings.{not_tried, tries_of, and_refused}
use Rattle.shard_machine.proofs.shard.seed_newcomer.Goals as goal

pub returns-in-Add-clause-tried : goal.returns-in-Add-clause-tried
returns-in-Add-clause-tried c =
    let seeds = c.seed.ensures in
    rw c.in-Add.is (tries_of c.in-Add.tenant c.in-Add.section.seed c.args.words.now c.seed.new.self c.seed.result seeds.seeded seeds.newly seeds.undone seeds.had_one)

pub returns-in-Add-clause-on_refusal : goal.returns-in-Add-clause-on_refusal
returns-in-Add-clause-on_refusal c = and_refused _ _ c.seed.result (section_view c.in-Add.section, ap asked_in c.in-Add.is) c.seed.ensures.on_refusal

pub returns-in_default-clause-tried : goal.returns-in_default-clause-tried
returns-in_default-clause-tried c = not_tried c.args.step.now c.args.words.now c.in_default.not-Add
