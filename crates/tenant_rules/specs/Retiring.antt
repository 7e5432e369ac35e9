-- When a tenant may retire: after a drain, once it holds no span. This project's own rule.
use Rattle.std.specs.Prelude.{Bool, ◌==◌, ◌&&◌, if◌then◌else◌}
use Rattle.drop_ledger.specs.declared.places.Places.{Places}
use Rattle.drop_ledger.specs.Ledger.{LedgerData}
use Rattle.drop_ledger.specs.Report.{report_text}
use Rattle.tenant_rules.specs.declared.reply.StepReply.{StepReply}
use Rattle.tenant_rules.specs.declared.reply.StepReply.TheVariants as replies

-- no span waits for its trace's decision, for a batch, in the queue, or in a batch that is on its way
abbrev pub holds_none : Places → Bool
holds_none places = places.undecided == 0 && places.pending == 0 && places.queued == 0 && places.active == 0

-- what a tenant with these counters is told of its retirement, after a drain or not: the last report, or that it has to
-- wait
abbrev pub retire_told : Bool → LedgerData → StepReply
retire_told drained l =
    if drained && holds_none l.places then replies.Report (report_text l) else replies.NotEmpty
