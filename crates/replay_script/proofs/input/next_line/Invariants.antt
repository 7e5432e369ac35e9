use Rattle.std.proofs.Common.{◌≡◌, ◌≤◌, []}
use Rattle.replay_script.specs.Input.{kept_of}
use Rattle.replay_script.specs.Output.{Sends}
use Rattle.replay_script.proofs.Lines.{Reading}
use Rattle.replay_script.proofs.input.next_line.Given as goal

abbrev pub invariant-parts : goal.invariant-parts
invariant-parts g l = record {
  reading : Reading (g.R.Read.remaining l.fn.reader) (g.R.Read.remaining l.reader) l.line.items;
  fits : kept_of l.line.items ≡ l.line.items;
  fewer : l.input.reads ≤ l.fn.input.reads;
  sent : Sends (g.W.Write.contents l.fn.writer) (g.W.Write.contents l.writer) l.fn.output.text.items [] l.output.text.items;
}

abbrev pub decreases-parts : goal.decreases-parts
decreases-parts g l = l.input.reads
