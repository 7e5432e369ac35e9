use Rattle.std.proofs.Common.{◌≡◌, length}
use Rattle.service_runtime.specs.ProcText.{behind_first}
use Rattle.service_runtime.proofs.proc_text.behind_first.Given as goal

abbrev pub invariant-loop-text : goal.invariant-loop-text
invariant-loop-text l = behind_first l.title l.text ≡ behind_first l.title l.fn.text

abbrev pub decreases-loop-text : goal.decreases-loop-text
decreases-loop-text l = length l.text
