use Rattle.std.proofs.Common.{◌≡◌, map, drop}
use Rattle.tail_settings.specs.Policy.{leaf_view}
use Rattle.tail_policy.specs.Note.{all_verdict}
use Rattle.tail_policy.proofs.note.TraceNote.all_verdict.Given as goal

abbrev pub invariant-loop-leaf : goal.invariant-loop-leaf
invariant-loop-leaf l =
    all_verdict l.self (map leaf_view (drop l.leaf-index l.leaves)) l.left ≡ all_verdict l.initial.self (map leaf_view l.initial.leaves) l.initial.left
