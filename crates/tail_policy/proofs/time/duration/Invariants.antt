use Rattle.std.proofs.Common.{◌≡◌, drop}
use Rattle.tail_policy.specs.Ends.{least, greatest}
use Rattle.tail_policy.proofs.time.duration.Given as goal

abbrev pub invariant-loop-span : goal.invariant-loop-span
invariant-loop-span l = record {
  start : least l.start (drop l.span-index l.others) ≡ least l.initial.start l.others;
  end : greatest l.end (drop l.span-index l.others) ≡ greatest l.initial.end l.others;
}
