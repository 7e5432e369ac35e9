use Rattle.std.proofs.Common.{◌≡◌, ◌≤◌, take}
use Rattle.http_edge.specs.Chunks.{line_ends}
use Rattle.http_edge.proofs.chunks.line_ends.Given as goal

abbrev pub invariant-loop-b : goal.invariant-loop-b
invariant-loop-b l = record {
  counted : l.count ≡ line_ends (take l.b-index l.bytes);
  few : l.count ≤ l.b-index;
}
