use Rattle.std.proofs.Common.{option_map, ap}
use Rattle.pb_wire.specs.Grammar.{entry}
use Rattle.otlp_canonical.proofs.apart.plain_member.Goals as goal

pub returns-clause-is : goal.returns-clause-is
returns-clause-is c = ap (option_map entry) c.in_ok-field.was
