use Rattle.std.proofs.Common.{◌≡◌, drop}
use Rattle.http_edge.specs.Talk.{after_blank}
use Rattle.http_edge.proofs.head.blank_len.Given as goal

abbrev pub invariant-loop-i : goal.invariant-loop-i
invariant-loop-i l = after_blank (drop l.i l.bytes) ≡ after_blank l.bytes
