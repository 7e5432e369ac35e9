use Rattle.std.proofs.Common.{◌≡◌, ◌≤◌, ◌-◌, ◌^◌}
use Rattle.std.specs.Io.KnownBytes.{Keeps}
use Rattle.http_line.proofs.stream.StreamLineLine.read_some.Given as goal

abbrev pub invariant-tries : goal.invariant-tries
invariant-tries g l = record {
  failures : l.self.failures ≡ l.fn.self.failures;
  ends : l.self.ends ≡ l.fn.self.ends;
  reads : l.fn.self.reads ≤ l.self.reads;
  stream : Keeps (g.S.Read.remaining l.fn.self.stream) (g.S.Read.remaining l.self.stream);
}

abbrev pub decreases-tries : goal.decreases-tries
decreases-tries g l = 2 ^ 62 - l.self.reads
