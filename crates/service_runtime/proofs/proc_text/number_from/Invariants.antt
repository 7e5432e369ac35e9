use Rattle.std.proofs.Common.{◌≡◌, ◌≤◌, length}
use Rattle.service_runtime.specs.ProcText.{number_from}
use Rattle.service_runtime.proofs.proc_text.number_from.Given as goal

abbrev pub invariant-loop-text : goal.invariant-loop-text
invariant-loop-text l = record {
  few : l.number ≤ 1000000000000000;
  told : number_from l.unit l.number l.text ≡ number_from l.unit 0 l.fn.text;
}

abbrev pub decreases-loop-text : goal.decreases-loop-text
decreases-loop-text l = length l.text
