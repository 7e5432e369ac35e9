use Rattle.std.proofs.Common.{rules, arith, ◌≡◌, ◌<◌, true, refl}
use Rattle.std.proofs.lemmas.Bool.Decides.{nat_tests}
use Rattle.pb_wire.specs.Grammar.{entry}
use Rattle.otlp_trace.specs.Defaults.{no_span}
use Rattle.otlp_read.specs.Value.{span_step}
use Rattle.otlp_canonical.specs.Defaults.{DefaultsAbove, holds_default}
use Rattle.otlp_canonical.proofs.Inside.{nothing_put}
use Rattle.otlp_canonical.proofs.InnerDefaults.{span_laws}
use Rattle.otlp_canonical.proofs.defaults.put_bare.Goals as goal

pub returns-then-is_default : goal.returns-then-is_default
returns-then-is_default c d whole =
    let is : holds_default (entry c.args.field) ≡ true = search rules in
    let above : c.args.most < c.args.field.number = grind (arith, nat_tests, whole) in
    nothing_put span_step no_span holds_default DefaultsAbove span_laws c.args.room d c.args.most (entry c.args.field) c.args.copy.now.items c.args.copy.now.items is above refl
