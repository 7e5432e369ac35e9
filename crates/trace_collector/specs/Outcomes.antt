-- The lines that tell a script the outcomes of its steps. This project's own rule (docs/SCRIPT.md).
use Rattle.std.specs.Prelude.{ℕ, List, [], codes, option_map}
use Rattle.std.specs.Option.{unwrap_or}
use Rattle.otlp_trace.specs.Text.{refusal_text}
use Rattle.tail_settings.specs.Settings.{SettingsData, tenant_at}
use Rattle.tenant_rules.specs.declared.reply.StepReply.{StepReply}
use Rattle.tenant_rules.specs.declared.reply.StepReply.TheVariants as replies
use Rattle.tenant_shard.specs.declared.step.Outcome.{Outcome}
use Rattle.tenant_shard.specs.declared.step.Outcome.TheVariants.{Reply, Job, Worked, Idle, Done, Report, Refused}
use Rattle.tenant_shard.specs.Outcomes.{unknown_ticket, not_empty}
use Rattle.replay_script.specs.Answer.{reply_text, job_text, worked_text, idle_text, done_text, report_text, refused_text}

-- the name of a tenant number
abbrev pub name_at : SettingsData → ℕ → List ℕ
name_at settings tenant = unwrap_or (option_map (λ t. t.name) (tenant_at settings tenant)) []

-- the line of an outcome of this shard
abbrev pub outcome_text : SettingsData → ℕ → Outcome → List ℕ
outcome_text settings shard (Reply tenant reply) = reply_text (name_at settings tenant) reply.status reply.body
outcome_text settings shard (Job tenant ticket payload) = job_text (name_at settings tenant) ticket payload
outcome_text settings shard (Worked tenant) = worked_text (name_at settings tenant)
outcome_text settings shard Idle = idle_text shard
outcome_text settings shard (Done tenant) = done_text (name_at settings tenant)
outcome_text settings shard (Report tenant report) = report_text (name_at settings tenant) report
outcome_text settings shard (Refused tenant number) = refused_text (name_at settings tenant) number

-- the line of what a tenant of this name is told
abbrev pub told_text : List ℕ → StepReply → List ℕ
told_text name (replies.Reply reply) = reply_text name reply.status reply.body
told_text name (replies.Job ticket payload) = job_text name ticket payload
told_text name replies.Worked = worked_text name
told_text name replies.Done = done_text name
told_text name (replies.Report report) = report_text name report
told_text name replies.UnknownTicket = refused_text name unknown_ticket
told_text name replies.NotEmpty = refused_text name not_empty

-- what a body without a value is answered: the text of a refusal with this message
abbrev pub bad_protobuf : List ℕ
bad_protobuf = refusal_text (codes "bad protobuf")
