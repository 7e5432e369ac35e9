use Rattle.std.proofs.Common.{[], length}
use Rattle.otlp_trace.specs.Defaults.{no_span}
use Rattle.otlp_read.specs.Value.{span_step}
use Rattle.otlp_canonical.specs.Defaults.{DefaultsAbove}
use Rattle.otlp_canonical.proofs.Dropped.{Going}
use Rattle.otlp_canonical.proofs.rewritten.put_fields.Given as goal

abbrev pub invariant-fields : goal.invariant-fields
invariant-fields l = Going span_step no_span DefaultsAbove l.room l.text [] l.copy.items l.from l.left l.most

abbrev pub decreases-fields : goal.decreases-fields
decreases-fields l = length l.left
