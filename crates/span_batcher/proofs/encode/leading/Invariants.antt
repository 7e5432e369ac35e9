use Rattle.std.proofs.Common.{◌≡◌, ◌<◌, ◌-◌, length, take, drop}
use Rattle.span_batcher.specs.ExportText.{runs}
use Rattle.span_batcher.specs.Blocks.{alike}
use Rattle.span_batcher.proofs.Runs.{after}
use Rattle.span_batcher.proofs.encode.leading.Given as goal

-- those before the last one are in the first run
abbrev pub invariant-loop-last : goal.invariant-loop-last
invariant-loop-last g l = record {
  within : l.last < length l.blocks;
  first : after (take l.last l.blocks) (runs (alike l.texts g.L.Level.same) (drop l.last l.blocks)) ≡ runs (alike l.texts g.L.Level.same) l.blocks;
}

abbrev pub decreases-loop-last : goal.decreases-loop-last
decreases-loop-last g l = length l.blocks - l.last
