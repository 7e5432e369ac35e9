use Rattle.std.proofs.Common.{refl}
use Rattle.processor_tests.proofs.senders.definitions_of_senders.Goals as goal

pub returns : goal.returns
returns c = record { tickets = record { last = refl; no_more = refl; never_ready = refl } }
