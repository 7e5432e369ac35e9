-- The text that a script is told is one, what was written before a failure is a beginning of it, and each body that
-- has a value is taken. This project's own rule.
use Rattle.std.specs.Prelude.{◌≡◌, ◌⊎◌, ℕ, List, ◌∷◌, ◌++◌, Option, Some}
use Rattle.otlp_trace.specs.Data.{RequestData}
use Rattle.otlp_read.specs.Value.{IsValue}
use Rattle.tail_settings.specs.Settings.{SettingsData, section_at}
use Rattle.tail_settings.specs.Section.{SectionData}
use Rattle.tenant_rules.specs.declared.reply.Reply.{Reply}
use Rattle.tenant_rules.specs.declared.reply.StepReply.TheVariants as replies
use Rattle.tenant_rules.specs.Own.{Own}
use Rattle.tenant_rules.specs.Answers.{answer}
use Rattle.replay_script.specs.Answer.{reply_text}
use Rattle.trace_collector.specs.Outcomes.{name_at, bad_protobuf}
use Rattle.trace_collector.specs.Alone.{post_alone}
use Rattle.trace_collector.specs.Answered.{HasNoValue, IsPosted}
use Rattle.trace_collector.specs.Script.{ScriptText, BeginsScriptText}

-- under the same settings a script is told one text and one fault
abbrev pub TextIsOne : Type 0
TextIsOne = (settings : SettingsData) (script text text' : List ℕ) (fault fault' : Option ℕ)
    → ScriptText settings script text fault → ScriptText settings script text' fault'
    → (text ≡ text') × (fault ≡ fault')

-- what begins some text of a script begins its one text
abbrev pub BeginningsBegin : Type 0
BeginningsBegin = (settings : SettingsData) (script begun text : List ℕ) (fault : Option ℕ)
    → BeginsScriptText settings script begun → ScriptText settings script text fault
    → (rest : List ℕ) × (text ≡ begun ++ rest)

-- a body that has a value is its tenant's next own step, and is answered what the tenant's pipeline alone replies to
-- it; one that has none is answered 400. No body is refused: each is prepared for its own tenant's policies, and posted
-- to its tenant's shard
abbrev pub ValuesAreTaken : Type 0
ValuesAreTaken = (settings : SettingsData) (pasts later : ℕ → List Own) (tenant : ℕ) (name : List ℕ)
    (moment : ℕ) (body : List ℕ) (line : Option (List ℕ))
    → IsPosted settings pasts tenant name moment body line later
    → ((section : SectionData) × (v : RequestData) × (section_at settings tenant ≡ Some section) × IsValue body v
    × (reply : Reply) × (answer section (pasts tenant) (post_alone moment v) ≡ replies.Reply reply)
    × (line ≡ Some (reply_text (name_at settings tenant) reply.status reply.body))
    × (later tenant ≡ post_alone moment v ∷ pasts tenant))
    ⊎ (HasNoValue body × (line ≡ Some (reply_text name 400 bad_protobuf)) × (later ≡ pasts))
