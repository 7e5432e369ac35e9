use Rattle.std.proofs.Common.{◌≡◌, drop}
use Rattle.std.specs.Prelude.{◌==◌}
use Rattle.std.specs.List.{list_all}
use Rattle.otlp_parts.proofs.span.is_zero.Given as goal

-- what is left decides
abbrev pub invariant-loop-byte : goal.invariant-loop-byte
invariant-loop-byte l = list_all (λ byte. byte == 0) (drop l.byte-index l.bytes) ≡ list_all (λ byte. byte == 0) l.bytes
