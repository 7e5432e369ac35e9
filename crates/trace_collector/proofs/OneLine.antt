-- The line that answers a command: it has one line feed, at its end, and names its tenant, or none.
use Rattle.std.proofs.Common.{◌≡◌, ◌≢◌, ◌==◌, ◌&&◌, ℕ, Bool, true, false, not, List, [], ◌∷◌, ◌++◌, codes, All, refl, ap, ◌∙◌}
use Rattle.std.specs.Str.{bytes_eq}
use Rattle.std.specs.Fmt.{decimal, digits}
use Rattle.std.proofs.lemmas.List.{append-nil, append_assoc}
use Rattle.std.proofs.lemmas.List.Elements.{All-nil, All-append}
use Rattle.std.proofs.lemmas.List.Splits.{slice_split_at, slice_split_none}
use Rattle.tail_settings.specs.Fault.{FaultData, not_toml, missing_key, wrong_kind, out_of_range, double_tenant, too_many, fault_number}
use Rattle.tenant_rules.specs.declared.reply.StepReply.{StepReply}
use Rattle.tenant_rules.specs.declared.reply.StepReply.TheVariants as replies
use Rattle.tenant_shard.specs.Outcomes.{unknown_ticket, not_empty}
use Rattle.replay_script.specs.Word.{words_of}
use Rattle.replay_script.specs.Answer.{hex_text, reply_text, job_text, worked_text, idle_text, done_text, report_text, refused_text, added_text}
use Rattle.replay_script.proofs.Plain.{IsPlain, plain_of, decimal_plain, hex_plain}
use Rattle.trace_collector.specs.Outcomes.{told_text}
use Rattle.trace_collector.specs.Own.{is_fault_of_document, is_of_none, is_named_in, names, is_report}

-- a name is a word of a line
pub record IsWord (name : List ℕ) : Type 0 where
  pub plain : IsPlain name
  pub whole : All (λ byte. (byte == 32) ≡ false) name

-- a line that names a tenant, and reports or doesn't
pub record IsLineOf (name line : List ℕ) (reports : Bool) : Type 0 where
  pub content : List ℕ
  pub line_is : line ≡ content ++ codes "\n"
  pub plain : IsPlain content
  pub named : (other : List ℕ) → names other content ≡ bytes_eq name other
  pub reported : is_report (words_of content) ≡ reports

pub record IsLineOfNone (line : List ℕ) : Type 0 where
  pub content : List ℕ
  pub line_is : line ≡ content ++ codes "\n"
  pub plain : IsPlain content
  pub named : (other : List ℕ) → names other content ≡ false

joined : (a b c d : List ℕ) → a ++ (b ++ (c ++ d)) ≡ (a ++ (b ++ c)) ++ d
joined a b c d = simp append_assoc

-- a line of a verb, the name, and what stands behind it, which isn't one of those that name none
line_of : (verb word name tail line : List ℕ) (words : List (List ℕ)) (reports : Bool) → ((text : List ℕ) → words_of (verb ++ text) ≡ word ∷ words_of text) → is_of_none word name words ≡ false
    → bytes_eq word (codes "report") ≡ reports
    → IsPlain verb → IsPlain name → IsPlain tail → words_of (name ++ tail) ≡ name ∷ words → line ≡ verb ++ (name ++ (tail ++ codes "\n")) → IsLineOf name line reports
line_of verb word name tail line words reports first busy report plain_verb plain_name plain_tail second is = record {
  content = verb ++ (name ++ tail);
  line_is = is ∙ joined verb name tail (codes "\n");
  plain = All-append (λ byte. byte ≢ 10) verb (name ++ tail) plain_verb (All-append (λ byte. byte ≢ 10) name tail plain_name plain_tail);
  named = λ other. ap (is_named_in other) (first (name ++ tail) ∙ ap (λ ws. word ∷ ws) second) ∙ ap (λ b. not b && bytes_eq name other) busy;
  reported = ap is_report (first (name ++ tail)) ∙ report;
}

then_more : (name rest : List ℕ) → IsWord name → words_of (name ++ 32 ∷ rest) ≡ name ∷ words_of rest
then_more name rest is = slice_split_at (λ byte. byte == 32) name 32 rest is.whole refl

at_end : (name : List ℕ) → IsWord name → words_of (name ++ []) ≡ name ∷ []
at_end name is = ap words_of (append-nil name) ∙ slice_split_none (λ byte. byte == 32) name is.whole

-- two more words
more_words : List ℕ → List ℕ → List ℕ
more_words a b = codes " " ++ (a ++ (codes " " ++ b))

more_plain : (a b : List ℕ) → IsPlain a → IsPlain b → IsPlain (more_words a b)
unfolding more_words
more_plain a b plain_a plain_b =
    All-append (λ byte. byte ≢ 10) (codes " ") (a ++ (codes " " ++ b)) (plain_of (codes " ") refl)
    (All-append (λ byte. byte ≢ 10) a (codes " " ++ b) plain_a
    (All-append (λ byte. byte ≢ 10) (codes " ") b (plain_of (codes " ") refl) plain_b))

more_joined : (verb name a b : List ℕ) → verb ++ name ++ codes " " ++ a ++ codes " " ++ b ++ codes "\n" ≡ verb ++ (name ++ (more_words a b ++ codes "\n"))
unfolding more_words
more_joined verb name a b = simp append_assoc

more_split : (name a b : List ℕ) → IsWord name → words_of (name ++ more_words a b) ≡ name ∷ words_of (a ++ (codes " " ++ b))
unfolding more_words
more_split name a b is = then_more name (a ++ (codes " " ++ b)) is

pub reply_line : (name : List ℕ) (status : ℕ) (body : List ℕ) → IsWord name → IsLineOf name (reply_text name status body) false
reply_line name status body is =
    line_of (codes "reply ") (codes "reply") name (more_words (decimal status) (hex_text body)) (reply_text name status body)
    (words_of (decimal status ++ (codes " " ++ hex_text body))) false (λ text. refl) refl refl (plain_of (codes "reply ") refl) is.plain
    (more_plain (decimal status) (hex_text body) (decimal_plain status) (hex_plain body)) (more_split name (decimal status) (hex_text body) is)
    (more_joined (codes "reply ") name (decimal status) (hex_text body))

pub job_line : (name : List ℕ) (ticket : ℕ) (payload : List ℕ) → IsWord name → IsLineOf name (job_text name ticket payload) false
job_line name ticket payload is =
    line_of (codes "job ") (codes "job") name (more_words (decimal ticket) (hex_text payload)) (job_text name ticket payload)
    (words_of (decimal ticket ++ (codes " " ++ hex_text payload))) false (λ text. refl) refl refl (plain_of (codes "job ") refl) is.plain
    (more_plain (decimal ticket) (hex_text payload) (decimal_plain ticket) (hex_plain payload)) (more_split name (decimal ticket) (hex_text payload) is)
    (more_joined (codes "job ") name (decimal ticket) (hex_text payload))

pub worked_line : (name : List ℕ) → IsWord name → IsLineOf name (worked_text name) false
worked_line name is =
    line_of (codes "worked ") (codes "worked") name [] (worked_text name) [] false (λ text. refl) refl refl (plain_of (codes "worked ") refl) is.plain (All-nil (λ byte. byte ≢ 10))
    (at_end name is) refl

pub done_line : (name : List ℕ) → IsWord name → IsLineOf name (done_text name) false
done_line name is =
    line_of (codes "done ") (codes "done") name [] (done_text name) [] false (λ text. refl) refl refl (plain_of (codes "done ") refl) is.plain (All-nil (λ byte. byte ≢ 10))
    (at_end name is) refl

one_joined : (verb name a : List ℕ) → verb ++ name ++ codes " " ++ a ++ codes "\n" ≡ verb ++ (name ++ ((codes " " ++ a) ++ codes "\n"))
one_joined verb name a = simp append_assoc

pub report_line : (name report : List ℕ) → IsWord name → IsPlain report → IsLineOf name (report_text name report) true
report_line name report is plain =
    line_of (codes "report ") (codes "report") name (codes " " ++ report) (report_text name report) (words_of report) true (λ text. refl) refl refl (plain_of (codes "report ") refl) is.plain
    (All-append (λ byte. byte ≢ 10) (codes " ") report (plain_of (codes " ") refl) plain) (then_more name report is)
    (one_joined (codes "report ") name report)

pub added_line : (name : List ℕ) (number : ℕ) → IsWord name → IsLineOf name (added_text name number) false
added_line name number is =
    line_of (codes "added ") (codes "added") name (codes " " ++ decimal number) (added_text name number) (words_of (decimal number)) false (λ text. refl) refl refl
    (plain_of (codes "added ") refl) is.plain (All-append (λ byte. byte ≢ 10) (codes " ") (decimal number) (plain_of (codes " ") refl) (decimal_plain number))
    (then_more name (decimal number) is) (one_joined (codes "added ") name (decimal number))

not_both : (a b : Bool) → b ≡ false → (a && b) ≡ false
not_both true b is = is
not_both false b is = refl

-- a refusal of a tenant's step, whose number is none of a document's faults
refused_line : (name : List ℕ) (number : ℕ) → is_fault_of_document (words_of (decimal number)) ≡ false → IsWord name → IsLineOf name (refused_text name number) false
refused_line name number apart is =
    line_of (codes "refused ") (codes "refused") name (codes " " ++ decimal number) (refused_text name number) (words_of (decimal number)) false (λ text. refl)
    (not_both (bytes_eq name (codes "add")) (is_fault_of_document (words_of (decimal number))) apart) refl
    (plain_of (codes "refused ") refl) is.plain (All-append (λ byte. byte ≢ 10) (codes " ") (decimal number) (plain_of (codes " ") refl) (decimal_plain number))
    (then_more name (decimal number) is) (one_joined (codes "refused ") name (decimal number))

ticket_apart : is_fault_of_document (words_of (decimal unknown_ticket)) ≡ false
unfolding digits
ticket_apart = refl

empty_apart : is_fault_of_document (words_of (decimal not_empty)) ≡ false
unfolding digits
empty_apart = refl

-- a document that was refused
pub refused_document_line : (fault : FaultData) → IsLineOfNone (refused_text (codes "add") (fault_number fault))
unfolding digits
refused_document_line not_toml = record { content = codes "refused add 10"; line_is = refl; plain = plain_of (codes "refused add 10") refl; named = λ other. refl }
refused_document_line (missing_key key) = record { content = codes "refused add 11"; line_is = refl; plain = plain_of (codes "refused add 11") refl; named = λ other. refl }
refused_document_line (wrong_kind key) = record { content = codes "refused add 12"; line_is = refl; plain = plain_of (codes "refused add 12") refl; named = λ other. refl }
refused_document_line (out_of_range key) = record { content = codes "refused add 13"; line_is = refl; plain = plain_of (codes "refused add 13") refl; named = λ other. refl }
refused_document_line (double_tenant name) = record { content = codes "refused add 14"; line_is = refl; plain = plain_of (codes "refused add 14") refl; named = λ other. refl }
refused_document_line too_many = record { content = codes "refused add 15"; line_is = refl; plain = plain_of (codes "refused add 15") refl; named = λ other. refl }

-- a reply that is a report
abbrev pub is_report_told : StepReply → Bool
is_report_told (replies.Report report) = true
is_report_told (replies.Reply reply) = false
is_report_told (replies.Job ticket payload) = false
is_report_told replies.Worked = false
is_report_told replies.Done = false
is_report_told replies.UnknownTicket = false
is_report_told replies.NotEmpty = false

-- within what a tenant is told there is no line feed
abbrev pub IsPlainTold : StepReply → Type 0
IsPlainTold (replies.Report report) = IsPlain report
IsPlainTold (replies.Reply reply) = Unit
IsPlainTold (replies.Job ticket payload) = Unit
IsPlainTold replies.Worked = Unit
IsPlainTold replies.Done = Unit
IsPlainTold replies.UnknownTicket = Unit
IsPlainTold replies.NotEmpty = Unit

pub told_line : (name : List ℕ) (what : StepReply) → IsWord name → IsPlainTold what → IsLineOf name (told_text name what) (is_report_told what)
told_line name (replies.Reply reply) is plain = reply_line name reply.status reply.body is
told_line name (replies.Job ticket payload) is plain = job_line name ticket payload is
told_line name replies.Worked is plain = worked_line name is
told_line name replies.Done is plain = done_line name is
told_line name (replies.Report report) is plain = report_line name report is plain
told_line name replies.UnknownTicket is plain = refused_line name unknown_ticket ticket_apart is
told_line name replies.NotEmpty is plain = refused_line name not_empty empty_apart is

none_named : (other : List ℕ) (words : List (List ℕ)) → is_named_in other (codes "idle" ∷ words) ≡ false
none_named other [] = refl
none_named other (word ∷ words) = refl

pub idle_line : (shard : ℕ) → IsLineOfNone (idle_text shard)
idle_line shard = record {
  content = codes "idle " ++ decimal shard;
  line_is = refl;
  plain = All-append (λ byte. byte ≢ 10) (codes "idle ") (decimal shard) (plain_of (codes "idle ") refl) (decimal_plain shard);
  named = λ other. none_named other (words_of (decimal shard));
}
