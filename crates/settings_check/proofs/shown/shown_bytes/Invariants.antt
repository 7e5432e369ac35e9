use Rattle.std.proofs.Common.{◌≡◌, ◌++◌, drop, string_bytes}
use Rattle.settings_check.specs.Shown.{shown}
use Rattle.settings_check.proofs.shown.shown_bytes.Given as goal

abbrev pub invariant-loop-byte : goal.invariant-loop-byte
invariant-loop-byte l = string_bytes l.line ++ shown (drop l.byte-index l.text) ≡ shown l.text
