use Rattle.std.proofs.Common.{◌≡◌}
use Rattle.std.specs.Io.KnownBytes.{Keeps}
use Rattle.http_line.proofs.stream.StreamLineLine.write_some.Given as goal

abbrev pub invariant-tries : goal.invariant-tries
invariant-tries g l = record {
  failures : l.self.failures ≡ l.fn.self.failures;
  ends : l.self.ends ≡ l.fn.self.ends;
  reads : l.self.reads ≡ l.fn.self.reads;
  stream : Keeps (g.S.Write.contents l.fn.self.stream) (g.S.Write.contents l.self.stream);
}
