use Rattle.std.proofs.Common.{◌+◌, ◌<◌, ◌≤◌, length}
use Rattle.replay_script.proofs.Going.{Going}
use Rattle.replay_script.proofs.run.answer_lines.Given as goal

abbrev pub invariant-lines : goal.invariant-lines
invariant-lines g l = record {
  going : Going g.S.Session.answers (g.R.Read.remaining l.fn.reader) (g.R.Read.remaining l.reader) (g.W.Write.contents l.fn.writer) (g.W.Write.contents l.writer)
      l.fn.output.text.items l.output.text.items l.fn.session l.session l.number;
  count : l.number + l.input.reads ≤ 4611686018427387904;
  little : length l.fn.output.text.items < 65536 → length l.output.text.items < 65536;
}

abbrev pub decreases-lines : goal.decreases-lines
decreases-lines g l = l.input.reads
