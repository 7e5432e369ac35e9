use Rattle.std.proofs.Common.{◌∙◌, ap}
use Rattle.std.specs.Prelude.{if◌then◌else◌}
use Rattle.shard_machine.specs.Jitter.{without}
use Rattle.shard_machine.specs.Drawing.{has_gone}
use Rattle.shard_machine.proofs.Comings.{not_settled, retires_by}
use Rattle.shard_machine.proofs.shard.remove_leaver.Goals as goal

pub returns-in-Add : goal.returns-in-Add
returns-in-Add c =
    let words = c.args.words.now in
    rw c.in-Add.is (c.remove_if.ensures.without ∙ ap (λ b. if b then without c.in-Add.tenant words else words) c.is_kept_out.ensures)

pub returns-in-Retire : goal.returns-in-Retire
returns-in-Retire c =
    rw c.in-Retire.is (retires_by c.in-Retire.tenant c.has_gone.result (has_gone c.args.told.now) c.args.words.now c.remove_if-in-Retire.new.words c.has_gone.ensures c.remove_if-in-Retire.ensures.removed c.remove_if-in-Retire.ensures.without)

pub returns-in_default : goal.returns-in_default
returns-in_default c = not_settled c.args.step.now c.args.newly c.args.told.now c.args.words.now c.in_default.not-Add c.in_default.not-Retire
