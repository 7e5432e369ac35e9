use Rattle.std.proofs.Common.{arith}
use Rattle.pb_wire.specs.declared.field.WireType.TheVariants as types
use Rattle.otlp_canonical.proofs.Fields.{tagged}
use Rattle.otlp_canonical.proofs.field.short_field.Goals as goal

pub returns-clause-parts : goal.returns-clause-parts
returns-clause-parts c = tagged c.args.number types.Bytes _ _ _ _ _ (omega arith) (omega arith) c.in_ok-behind.ensures.parts c.in_ok-bytes.ensures.parts
