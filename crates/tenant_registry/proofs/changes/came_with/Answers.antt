use Rattle.std.proofs.Common.{string_bytes}
use Rattle.tenant_registry.specs.Changed.{TellsCome}
use Rattle.tenant_registry.proofs.Answered.{if_told}
use Rattle.tenant_registry.proofs.changes.came_with.Goals as goal

pub returns : goal.returns
returns c =
    let report = c.in_ok-report.report in
    if_told c.came.result _ (TellsCome c.args.document.now c.args.name.now) c.came.ensures
    (λ told is. record {
      is_good = report.is_good;
      report = string_bytes report.text;
      doubts = string_bytes report.doubts;
      checked = c.in_ok-report.ensures;
      warnings = c.warnings.result.now;
      warned = c.warnings.ensures;
      reply = is;
    })
