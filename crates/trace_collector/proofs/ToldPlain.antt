-- Within what a tenant is told there is no line feed.
use Rattle.std.proofs.Common.{◌≢◌, ◌&&◌, ℕ, Bool, true, false, List, ◌∷◌, ◌++◌, codes, Option, Some, None, refl}
use Rattle.std.specs.Prelude.{if◌then◌else◌}
use Rattle.std.specs.Option.{is_some}
use Rattle.std.specs.Fmt.{decimal}
use Rattle.std.proofs.lemmas.List.Elements.{All-append}
use Rattle.drop_ledger.specs.declared.places.Places.{Places}
use Rattle.drop_ledger.specs.Ledger.{LedgerData}
use Rattle.drop_ledger.specs.Report.{counter, waiting_text, ended_text, refused_text, report_text}
use Rattle.replay_script.proofs.Plain.{IsPlain, plain_of, decimal_plain}
use Rattle.tail_settings.specs.Section.{SectionData}
use Rattle.tenant_rules.specs.declared.reply.StepReply.TheVariants as replies
use Rattle.tenant_rules.specs.Own.{Own, clock, drained}
use Rattle.tenant_rules.specs.Own as own
use Rattle.tenant_rules.specs.Answers.{answer, job_of, heard}
use Rattle.tenant_rules.specs.Retiring.{holds_none}
use Rattle.tenant_rules.specs.Sender.{ActiveData, SenderData, Choice, Retried, Oldest, NoBatch, choice, in_flight}
use Rattle.tenant_rules.specs.Sending.{before_acting, sender}
use Rattle.tenant_rules.specs.State.{ledger}
use Rattle.trace_collector.proofs.OneLine.{IsPlainTold}

-- such a text
record Plain (text : List ℕ) : Type 0 where
  is : IsPlain text

counter_plain : (name : List ℕ) (spans : ℕ) → IsPlain name → Plain (counter name spans)
counter_plain name spans plain = record {
  is = All-append (λ byte. byte ≢ 10) (name ++ codes "=") (decimal spans) (All-append (λ byte. byte ≢ 10) name (codes "=") plain (plain_of (codes "=") refl)) (decimal_plain spans);
}

-- a space parts two of them
then_plain : {a b : List ℕ} → Plain a → Plain b → Plain (a ++ codes " " ++ b)
then_plain {a} {b} first second = record {
  is = All-append (λ byte. byte ≢ 10) (a ++ codes " ") b (All-append (λ byte. byte ≢ 10) a (codes " ") first.is (plain_of (codes " ") refl)) second.is;
}

waiting_plain : (places : Places) → Plain (waiting_text places)
waiting_plain places =
    then_plain (then_plain (then_plain (counter_plain (codes "undecided") places.undecided (plain_of (codes "undecided") refl))
    (counter_plain (codes "pending") places.pending (plain_of (codes "pending") refl)))
    (counter_plain (codes "queued") places.queued (plain_of (codes "queued") refl)))
    (counter_plain (codes "active") places.active (plain_of (codes "active") refl))

ended_plain : (places : Places) → Plain (ended_text places)
ended_plain places =
    then_plain (then_plain (then_plain (counter_plain (codes "exported") places.exported (plain_of (codes "exported") refl))
    (counter_plain (codes "not_sampled") places.not_sampled (plain_of (codes "not_sampled") refl)))
    (counter_plain (codes "too_early") places.too_early (plain_of (codes "too_early") refl)))
    (counter_plain (codes "queue_full") places.queue_full (plain_of (codes "queue_full") refl))

refused_plain : (places : Places) → Plain (refused_text places)
refused_plain places =
    then_plain (then_plain (counter_plain (codes "retry_exhausted") places.retry_exhausted (plain_of (codes "retry_exhausted") refl))
    (counter_plain (codes "back_end_refused") places.back_end_refused (plain_of (codes "back_end_refused") refl)))
    (counter_plain (codes "back_end_rejected") places.back_end_rejected (plain_of (codes "back_end_rejected") refl))

report_plain : (counts : LedgerData) → Plain (report_text counts)
report_plain counts =
    then_plain (then_plain (then_plain (then_plain (then_plain (counter_plain (codes "accepted") counts.accepted (plain_of (codes "accepted") refl))
    (waiting_plain counts.places)) (ended_plain counts.places)) (refused_plain counts.places))
    (counter_plain (codes "invalid") counts.invalid (plain_of (codes "invalid") refl)))
    (counter_plain (codes "over_budget") counts.over_budget (plain_of (codes "over_budget") refl))

job_plain : (handed_out : ℕ) (c : Choice) → IsPlainTold (job_of handed_out c)
job_plain handed_out (Retried a) = tt
job_plain handed_out (Oldest b) = tt
job_plain handed_out NoBatch = tt

heard_plain : (found : Option ActiveData) → IsPlainTold (heard found)
heard_plain None = tt
heard_plain (Some a) = tt

retire_plain : (may : Bool) (l : LedgerData) → IsPlainTold (if may then replies.Report (report_text l) else replies.NotEmpty)
retire_plain true l = (report_plain l).is
retire_plain false l = tt

pub answer_plain : (section : SectionData) (past : List Own) (step : Own) → IsPlainTold (answer section past step)
unfolding answer
answer_plain section past (own.Post now arrivals) = tt
answer_plain section past (own.Turn now) =
    let s : SenderData = before_acting section (own.Turn now) past (sender section past) in
    job_plain s.handed_out (choice (clock (own.Turn now ∷ past)) s)
answer_plain section past (own.Answer now ticket word given) =
    heard_plain (in_flight ticket (before_acting section (own.Answer now ticket word given) past (sender section past)))
answer_plain section past (own.Report now) = (report_plain (ledger section (own.Report now ∷ past))).is
answer_plain section past (own.Drain now) = tt
answer_plain section past (own.Retire now) =
    let l = ledger section (own.Retire now ∷ past) in
    retire_plain (is_some (drained past) && holds_none l.places) l
