-- What a tenant is told of its next own step: the answers of a pipeline that serves this tenant alone. What a post is
-- told is of OTLP (OTLP/HTTP Response, "Full Success" and "Partial Success"); the rest is this project's own rule.
use Rattle.std.specs.Prelude.{ℕ, ◌+◌, pos, List, [], ◌∷◌, ◌++◌, codes, Option, Some, None, is_some, if◌then◌else◌, ◌==◌, ◌&&◌}
use Rattle.std.specs.Fmt.{decimal}
use Rattle.otlp_trace.specs.Text.{response_text, refusal_text}
use Rattle.tail_settings.specs.Section.{SectionData}
use Rattle.drop_ledger.specs.Report.{report_text}
use Rattle.tenant_rules.specs.declared.reply.Reply.{Reply}
use Rattle.tenant_rules.specs.declared.reply.StepReply.{StepReply}
use Rattle.tenant_rules.specs.declared.reply.StepReply.TheVariants as replies
use Rattle.tenant_rules.specs.Own.{Own, Post, Turn, Answer, Report, Drain, Retire, clock, drained}
use Rattle.tenant_rules.specs.Intake.{Verdict, shutting_down, counter_limit, exhausted, accepted, verdict, intake}
use Rattle.tenant_rules.specs.Sender.{ActiveData, SenderData, Choice, Retried, Oldest, NoBatch, choice, in_flight}
use Rattle.tenant_rules.specs.Sending.{before_acting, sender}
use Rattle.tenant_rules.specs.Retiring.{retire_told}
use Rattle.tenant_rules.specs.State.{ledger}

-- a refusal's status code, and as its content the canonical text of a Status (google.rpc.Status) with the message
-- alone, as OTLP/HTTP has it for every refusal
abbrev pub refused : ℕ → List ℕ → Reply
refused status message = record { status = status; body = refusal_text message }

-- what a partial success says: how many spans were refused for which reason
abbrev pub partial_message : ℕ → ℕ → List ℕ
partial_message invalid over_budget =
    codes "rejected: " ++ decimal invalid ++ codes " invalid, " ++ decimal over_budget ++ codes " over budget"

-- the content of a success: nothing where no span was refused, and else a partial success
-- (opentelemetry-proto, ExportTraceServiceResponse)
abbrev pub success_text : ℕ → ℕ → List ℕ
success_text invalid over_budget = if (invalid == 0) && (over_budget == 0) then [] else
    response_text (record {
      partial_success =
          Some (record {
            rejected_spans = pos (invalid + over_budget);
            error_message = partial_message invalid over_budget;
          });
    })

-- the reply to a post
abbrev pub reply_of : Verdict → Reply
reply_of shutting_down = refused 503 (codes "shutting down")
reply_of counter_limit = refused 503 (codes "counter limit")
reply_of exhausted = refused 429 (codes "span budget exhausted")
reply_of (accepted invalid over_budget) = record { status = 200; body = success_text invalid over_budget }

-- what a worker is told of the batch whose turn it is, so many tickets having been handed out before
abbrev pub job_of : ℕ → Choice → StepReply
job_of handed_out (Retried a) = replies.Job (handed_out + 1) a.batch.payload
job_of handed_out (Oldest b) = replies.Job (handed_out + 1) b.payload
job_of handed_out NoBatch = replies.Worked

-- what a worker is told that asks a sender at a moment
abbrev pub turn_told : ℕ → SenderData → StepReply
turn_told moment s = job_of s.handed_out (choice moment s)

-- what a back end's answer is told: whether its ticket names a batch in flight
abbrev pub heard : Option ActiveData → StepReply
heard None = replies.UnknownTicket
heard (Some a) = replies.Done

-- what a tenant is told of the next step
unfoldable pub answer : SectionData → List Own → Own → StepReply
answer section past (Post now arrivals) =
    replies.Reply (reply_of (verdict section (is_some (drained past)) (clock (Post now arrivals ∷ past)) arrivals
    (intake section past)))
answer section past (Turn now) =
    turn_told (clock (Turn now ∷ past)) (before_acting section (Turn now) past (sender section past))
answer section past (Answer now ticket word given) =
    heard (in_flight ticket (before_acting section (Answer now ticket word given) past (sender section past)))
answer section past (Report now) = replies.Report (report_text (ledger section (Report now ∷ past)))
answer section past (Drain now) = replies.Done
answer section past (Retire now) = retire_told (is_some (drained past)) (ledger section (Retire now ∷ past))
