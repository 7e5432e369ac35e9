use Rattle.std.proofs.Common.{refl}
use Rattle.tail_policy.specs.Meaning.{keeps}
use Rattle.tail_policy.specs.Note.{verdict_of}
use Rattle.processor_tests.proofs.policies.definitions_of_no_policies.Goals as goal

pub returns : goal.returns
unfolding keeps verdict_of
returns c = record { none = record { no_trace = refl; no_note = refl } }
