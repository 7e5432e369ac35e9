use Rattle.std.proofs.Common.{◌≡◌, map, drop}
use Rattle.tail_settings.specs.Policy.{policy_view}
use Rattle.tail_policy.specs.Note.{any_verdict}
use Rattle.tail_policy.proofs.note.TraceNote.samples.Given as goal

abbrev pub invariant-loop-policy : goal.invariant-loop-policy
invariant-loop-policy l =
    any_verdict l.self (map policy_view (drop l.policy-index l.policies)) l.bits ≡ any_verdict l.initial.self (map policy_view l.initial.policies) l.initial.bits
