use Rattle.std.proofs.Common.{rules, ◌≡◌, ◌∙◌, map}
use Rattle.std.specs.Prelude.{sum}
use Rattle.std.specs.Map.{values_of}
use Rattle.tail_settings.specs.declared.tenant.Tenant.{Tenant}
use Rattle.tail_settings.proofs.Tenants.{spans_of-entries, sum-sections}
use Rattle.tail_settings.proofs.document.spans.Goals as goal

pub returns : goal.returns
returns c =
    let entries = c.args.tenants.now.entries in
    let summed : c.sum.result ≡ sum (map (λ (t : Tenant). t.section.max_spans) (values_of entries)) = search rules in
    record {
      meaning = summed ∙ sum-sections entries ∙ spans_of-entries entries;
      entries = summed ∙ sum-sections entries;
    }
