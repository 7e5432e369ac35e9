use Rattle.std.proofs.Common.{◌≡◌, ◌+◌, ◌^◌, ◌<◌, ◌≤◌, ◌-◌, length, drop}
use Rattle.span_batcher.specs.Blocks.{fields_in, capped}
use Rattle.span_batcher.proofs.encode.runs_size.Given as goal

-- what is counted and what is left give the whole
abbrev pub invariant-loop-start : goal.invariant-loop-start
invariant-loop-start g l = record {
  within : l.start ≤ length l.blocks;
  fits : l.size < 2 ^ 64;
  whole : capped (l.size + length (fields_in l.texts g.L.Level.same g.L.Level.field (drop l.start l.blocks))) ≡ capped (length (fields_in l.texts g.L.Level.same g.L.Level.field l.blocks));
}

abbrev pub decreases-loop-start : goal.decreases-loop-start
decreases-loop-start g l = length l.blocks - l.start
