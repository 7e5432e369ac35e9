use Rattle.replay_script.specs.Line.{lines_of}
use Rattle.trace_collector.specs.Answered.{IsAnswered}
use Rattle.trace_collector.specs.Session.{begun}
use Rattle.trace_collector.proofs.One.{told_one, begun_begins, script_answered_one, same_value}
use Rattle.trace_collector.proofs.law.text_is_one.Goals as goal

pub returns-clause-one : goal.returns-clause-one
returns-clause-one c settings script text text' fault fault' told told' =
    told_one IsAnswered (λ h k k' command line line'. script_answered_one (same_value c.values_or_faults.ensures.exact) h k k' command line line')
    (lines_of script) 1 (begun settings) text text' fault fault' told told'

pub returns-clause-begins : goal.returns-clause-begins
returns-clause-begins c settings script written text fault begins told =
    begun_begins IsAnswered (λ h k k' command line line'. script_answered_one (same_value c.values_or_faults.ensures.exact) h k k' command line line')
    (lines_of script) (begun settings) written text fault begins told
