use Rattle.std.proofs.Common.{◌≡◌, length}
use Rattle.service_runtime.specs.ProcText.{skip_blanks}
use Rattle.service_runtime.proofs.proc_text.skip_blanks.Given as goal

abbrev pub invariant-loop-text : goal.invariant-loop-text
invariant-loop-text l = skip_blanks l.text ≡ skip_blanks l.fn.text

abbrev pub decreases-loop-text : goal.decreases-loop-text
decreases-loop-text l = length l.text
