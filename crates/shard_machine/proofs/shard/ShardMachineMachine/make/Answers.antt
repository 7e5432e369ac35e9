use Rattle.std.proofs.Common.{subst, inl, inr, refl}
use Rattle.tenant_shard.specs.Chain.{ShardDoes}
use Rattle.shard_machine.specs.Drawing.{IsLost}
use Rattle.shard_machine.specs.MachineState.{MachineState, MachineDoes, AreMembers}
use Rattle.shard_machine.proofs.Going.{still_ready, members_ready, machine_does}
use Rattle.shard_machine.proofs.Comings.{if_refused, settled}
use Rattle.shard_machine.proofs.shard.ShardMachineMachine.make.Goals as goal

-- no memory for a generator
pub returns-in_err-newly-clause-lost : goal.returns-in_err-newly-clause-lost
returns-in_err-newly-clause-lost c =
    let made = c.ready-made.result in
    let before : MachineState = record { views = c.self.inside.shard.value; words = c.self.inside.words } in
    let after : MachineState = record { views = c.self.inside.shard.value; words = c.seed_newcomer.new.words } in
    let out = c.in_err-newly.ensures.on_refusal in
    let lost : IsLost c.args.call before after = record {
      made = made;
      asked = c.ready-made.ensures.asked;
      shard = inr (out.0, refl);
      words = still_ready made.word made.step before.words c.ready-made.new.words after.words c.ready-made.ensures.words out.1;
    } in
    if_refused _ c.from_residual.result (subst (λ s. IsLost c.args.call s after) c.self.view_is lost)

-- no memory for the step
pub returns-in_err-outcome-clause-lost : goal.returns-in_err-outcome-clause-lost
returns-in_err-outcome-clause-lost c =
    let made = c.ready-made.result in
    let state = rw c.deref_mut.ensures.value at c.step-told.ensures.from_state in
    let refused = rw c.deref_mut.ensures.value at c.step-told.ensures.on_refusal in
    let before : MachineState = record { views = c.self.inside.shard.value; words = c.self.inside.words } in
    let after : MachineState = record { views = c.step-told.new.self; words = c.remove_leaver.new.words } in
    let ready = c.ready-made.new.words in
    let are : AreMembers ready before.views = members_ready made.word made.step before.words ready before.views c.self.invariant c.ready-made.ensures.words in
    let came = settled made.step ready c.seed_newcomer.new.words after.words c.in_ok-newly.newly before.views after.views c.step-told.result are c.in_ok-newly.ensures.tried state refused c.remove_leaver.ensures in
    let lost : IsLost c.args.call before after = record {
      made = made;
      asked = c.ready-made.ensures.asked;
      shard = inl (rw c.in_err-outcome.was at refused);
      words = still_ready made.word made.step before.words ready after.words c.ready-made.ensures.words (rw c.in_err-outcome.was at came.kept);
    } in
    if_refused _ c.from_residual-in_err-outcome.result (subst (λ s. IsLost c.args.call s after) c.self.view_is lost)

pub returns-clause-made : goal.returns-clause-made
returns-clause-made c =
    let made = c.ready-made.result in
    let state = rw c.deref_mut.ensures.value at c.step-told.ensures.from_state in
    let refused = rw c.deref_mut.ensures.value at c.step-told.ensures.on_refusal in
    let success = rw c.deref_mut.ensures.value at c.step-told.ensures.on_success in
    let outcome = c.in_ok-outcome.outcome in
    let before : MachineState = record { views = c.self.inside.shard.value; words = c.self.inside.words } in
    let after : MachineState = record { views = c.step-told.new.self; words = c.remove_leaver.new.words } in
    let ready = c.ready-made.new.words in
    let are : AreMembers ready before.views = members_ready made.word made.step before.words ready before.views c.self.invariant c.ready-made.ensures.words in
    let came = settled made.step ready c.seed_newcomer.new.words after.words c.in_ok-newly.newly before.views after.views c.step-told.result are c.in_ok-newly.ensures.tried state refused c.remove_leaver.ensures in
    let does : ShardDoes made.step before.views outcome after.views = record { by_own_steps = rw c.in_ok-outcome.was at success; from_state = rw c.in_ok-outcome.was at state } in
    subst (λ s. MachineDoes s made outcome after) c.self.view_is (machine_does before made outcome after ready c.self.invariant c.ready-made.ensures.words does (rw c.in_ok-outcome.was at came.go_on))

pub invariant_of-self-2 : goal.invariant_of-self-2
invariant_of-self-2 c =
    let made = c.ready-made.result in
    let state = rw c.deref_mut.ensures.value at c.step-told.ensures.from_state in
    let refused = rw c.deref_mut.ensures.value at c.step-told.ensures.on_refusal in
    let ready = c.ready-made.new.words in
    let are : AreMembers ready c.self.inside.shard.value = members_ready made.word made.step c.self.inside.words ready c.self.inside.shard.value c.self.invariant c.ready-made.ensures.words in
    (settled made.step ready c.seed_newcomer.new.words c.remove_leaver.new.words c.in_ok-newly.newly c.self.inside.shard.value c.step-told.new.self c.step-told.result are c.in_ok-newly.ensures.tried state refused c.remove_leaver.ensures).members
