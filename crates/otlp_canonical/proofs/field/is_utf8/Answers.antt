use Rattle.std.proofs.Common.{rules}
use Rattle.std.specs.Str.{IsAscii}
use Rattle.std.proofs.lemmas.Str.{IsUtf8-from_ascii}
use Rattle.otlp_canonical.proofs.field.is_utf8.Goals as goal

pub returns-then-is_ascii : goal.returns-then-is_ascii
returns-then-is_ascii c found =
    let ascii : IsAscii c.args.bytes.now = search rules in
    IsUtf8-from_ascii _ ascii
