use Rattle.std.proofs.Common.{rules, ◌≡◌, ◌∙◌, map}
use Rattle.std.specs.Prelude.{sum}
use Rattle.std.specs.Map.{values_of}
use Rattle.tail_settings.specs.declared.tenant.Tenant.{Tenant}
use Rattle.settings_check.proofs.Consumers.{sum-consumers}
use Rattle.settings_check.proofs.doubts.consumers.Goals as goal

pub returns : goal.returns
returns c =
    let entries = c.args.settings.now.tenants.entries in
    let summed : c.sum.result ≡ sum (map (λ (t : Tenant). t.section.sending_queue.num_consumers) (values_of entries)) = search rules in
    summed ∙ sum-consumers entries
