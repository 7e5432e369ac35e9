use Rattle.std.proofs.Common.{◌≡◌, ◌≤◌, length, take, refl, arith}
use Rattle.std.proofs.lemmas.List.{take_more, take_all}
use Rattle.tenant_shard.specs.Chain.{ShardDoes, ShardRuns}
use Rattle.tenant_shard.proofs.Gones.{counted_all, within_all}
use Rattle.tenant_shard.proofs.Wholes.{Chain-push, by_own_steps, stands_after, each_alone, stopped_at_start, stopped_at}
use Rattle.tenant_shard.proofs.shard.Shard.run.Goals as goal

pub returns-in_default-clause-stopped : goal.returns-in_default-clause-stopped
returns-in_default-clause-stopped c = rw c.new.ensures.items (stopped_at_start c.args.steps.now c.args.self.now)

pub returns-in_default-clause-counted : goal.returns-in_default-clause-counted
returns-in_default-clause-counted c = rw (← c.self.view_is) (counted_all c.self.inside.stores c.self.inside.agenda c.self.inside.members.items c.self.inside.gone.items c.self.invariant.whole)

pub returns-in_default-clause-within : goal.returns-in_default-clause-within
returns-in_default-clause-within c = rw (← c.self.view_is) (within_all c.self.inside.stores c.self.inside.agenda c.self.inside.members.items c.self.inside.gone.items c.self.invariant.whole)

pub loop-step-init : goal.loop-step-init
loop-step-init c = record {
  runs = rw c.in-Ok.ensures.items refl;
  count = c.in-Ok.ensures.len;
  room = omega (arith, c.in-Ok.ensures.capacity);
  counted = rw (← c.self.view_is) (counted_all c.self.inside.stores c.self.inside.agenda c.self.inside.members.items c.self.inside.gone.items c.self.invariant.whole);
  within = rw (← c.self.view_is) (within_all c.self.inside.stores c.self.inside.agenda c.self.inside.members.items c.self.inside.gone.items c.self.invariant.whole);
}

pub returns-clause-counted : goal.returns-clause-counted
returns-clause-counted c = c.loop-step.invariant.counted

pub returns-clause-within : goal.returns-clause-within
returns-clause-within c = c.loop-step.invariant.within

pub returns-in_default-step-clause-stopped : goal.returns-in_default-step-clause-stopped
returns-in_default-step-clause-stopped c =
    let count : length c.loop-step.outcomes.items ≡ c.loop-step.step-index = omega (arith, c.loop-step.outcomes.ok.0, c.loop-step.invariant.count) in
    stopped_at c.args.steps.now c.args.self.now c.loop-step.self c.step.new.self c.loop-step.outcomes.items c.loop-step.step-index c.step-item.result count c.loop-step-test.true c.step-item.is c.loop-step.invariant.runs c.in_default-step.ensures.on_refusal

pub loop-step-preserved : goal.loop-step-preserved
loop-step-preserved c =
    let i = c.loop-step.step-index in
    let does : ShardDoes c.step-item.result c.loop-step.self c.in-Ok-step.outcome c.step.new.self = record { by_own_steps = c.in-Ok-step.ensures.on_success; from_state = c.in-Ok-step.ensures.from_state } in
    let runs = Chain-push ShardDoes (take i c.args.steps.now) c.loop-step.outcomes.items c.step-item.result c.in-Ok-step.outcome c.args.self.now c.loop-step.self c.step.new.self c.loop-step.invariant.runs does in
    record {
      runs = rw (take_more c.args.steps.now i c.step-item.result c.loop-step-test.true, ← c.step-item.is, c.in-Ok-push.ensures.items) runs;
      count = omega (arith, c.in-Ok-push.ensures.len, c.loop-step.invariant.count);
      room = omega (arith, c.in-Ok-push.ensures.capacity, c.loop-step.invariant.room);
      counted = c.step.ensures.counted;
      within = c.step.ensures.within;
    }

pub returns-clause-on_success : goal.returns-clause-on_success
returns-clause-on_success c =
    let all : length c.args.steps.now ≤ c.loop-step.step-index = c.loop-step-test.false in
    rw take_all at c.loop-step.invariant.runs

pub returns-clause-each_alone : goal.returns-clause-each_alone
returns-clause-each_alone c =
    let all : length c.args.steps.now ≤ c.loop-step.step-index = c.loop-step-test.false in
    let runs : ShardRuns c.args.steps.now c.args.self.now c.loop-step.outcomes.items c.loop-step.self = rw take_all at c.loop-step.invariant.runs in
    each_alone c.args.steps.now c.args.self.now c.loop-step.outcomes.items c.loop-step.self runs

pub returns-clause-by_own_steps : goal.returns-clause-by_own_steps
returns-clause-by_own_steps c =
    let all : length c.args.steps.now ≤ c.loop-step.step-index = c.loop-step-test.false in
    let runs : ShardRuns c.args.steps.now c.args.self.now c.loop-step.outcomes.items c.loop-step.self = rw take_all at c.loop-step.invariant.runs in
    by_own_steps c.args.steps.now c.args.self.now c.loop-step.outcomes.items c.loop-step.self runs

pub returns-clause-stands : goal.returns-clause-stands
returns-clause-stands c =
    let all : length c.args.steps.now ≤ c.loop-step.step-index = c.loop-step-test.false in
    let runs : ShardRuns c.args.steps.now c.args.self.now c.loop-step.outcomes.items c.loop-step.self = rw take_all at c.loop-step.invariant.runs in
    stands_after c.args.steps.now c.args.self.now c.loop-step.outcomes.items c.loop-step.self runs
