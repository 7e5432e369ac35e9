use Rattle.std.proofs.Common.{rules}
use Rattle.std.specs.Str.{IsUtf8}
use Rattle.otlp_canonical.proofs.Values.{string_front}
use Rattle.otlp_canonical.proofs.value.string.Goals as goal

pub returns-then-is_utf8 : goal.returns-then-is_utf8
returns-then-is_utf8 c room =
    let valid : IsUtf8 c.in_ok-bytes.bytes.now = search rules in
    string_front room _ _ _ c.in_ok-bytes.ensures.parts valid
