-- What each tenant is told in a replay, in which no other tenant occurs. A name that comes again is another tenant's.
-- This project's own rule.
use Rattle.std.specs.Prelude.{◌≡◌, ◌⊎◌, ◌≤◌, ℕ, List, [], ◌∷◌, ◌++◌, Option, Some, Result, Ok, Err, codes, replicate}
use Rattle.toml.specs.Parse.{parse_document}
use Rattle.otlp_trace.specs.Data.{RequestData}
use Rattle.otlp_read.specs.Value.{IsValue}
use Rattle.tail_settings.specs.Change.{only_tenant}
use Rattle.tail_settings.specs.Fault.{FaultData, ◌>>=◌}
use Rattle.tail_settings.specs.Section.{SectionData}
use Rattle.tail_settings.specs.Settings.{SettingsData, TenantData, tenant_at, numbered_tenant, document_in, settings_of}
use Rattle.otlp_parts.specs.Texts.{invalid_in}
use Rattle.tenant_rules.specs.Own.{Own}
use Rattle.tenant_rules.specs.Own as own
use Rattle.tenant_rules.specs.State.{state}
use Rattle.tenant_rules.specs.Ready.{ready}
use Rattle.tenant_rules.specs.Answers.{answer}
use Rattle.otlp_prepare.specs.Arrivals.{arrivals_of}
use Rattle.tenant_pipeline.specs.Prepared.{invalid_arrival}
use Rattle.replay_script.specs.Command.{CommandData, Post, Turn, Answer, Report, Drain, Add, Retire}
use Rattle.replay_script.specs.Line.{lines_of}
use Rattle.replay_script.specs.Answer.{reply_text, added_text}
use Rattle.trace_collector.specs.declared.engine.ReplayFault.{ReplayFault}
use Rattle.trace_collector.specs.declared.engine.ReplayFault.TheVariants.{Line}
use Rattle.trace_collector.specs.Outcomes.{told_text, bad_protobuf}
use Rattle.trace_collector.specs.Answered.{HasNoValue}
use Rattle.trace_collector.specs.Own.{commands_of, own_commands, lines_for}
use Rattle.trace_collector.specs.Script.{ScriptText}

-- the line of a step is what the tenant's pipeline alone answers to it, after its past, which the step then joins
abbrev pub IsStepAlone : List ℕ → SectionData → List Own → Own → List ℕ → List Own → Type 0
IsStepAlone name section past step line later =
    (line ≡ told_text name (answer section past step)) × (later ≡ step ∷ past)

-- a body's value as its tenant's rules see it: its valid spans, and of each other one only that it is one
abbrev pub post_alone : ℕ → RequestData → Own
post_alone moment v = own.Post moment (arrivals_of v ++ replicate (invalid_in v) invalid_arrival)

-- a body's value is a step; a body without a value is answered 400 and is none
abbrev pub IsPostAlone : List ℕ → SectionData → List Own → ℕ → List ℕ → List ℕ → List Own → Type 0
IsPostAlone name section past moment body line later =
    ((v : RequestData) × IsValue body v × IsStepAlone name section past (post_alone moment v) line later)
    ⊎ (HasNoValue body × (line ≡ reply_text name 400 bad_protobuf) × (later ≡ past))

-- the tenant has something to do by this moment: else no turn goes to it
abbrev pub IsReadyBy : SectionData → List Own → ℕ → Type 0
IsReadyBy section past moment =
    (least : ℕ) × (ready (state section past) ≡ Some least) × (least ≤ own.moment_of (own.Turn moment))

-- the line that a tenant alone is answered to its command, and its past afterwards
abbrev pub IsAnsweredAlone : List ℕ → SectionData → List Own → CommandData → List ℕ → List Own → Type 0
IsAnsweredAlone name section past (Post named moment body) line later =
    IsPostAlone name section past moment body line later
IsAnsweredAlone name section past (Turn shard moment) line later =
    IsReadyBy section past moment × IsStepAlone name section past (own.Turn moment) line later
IsAnsweredAlone name section past (Answer named moment ticket word answer) line later =
    IsStepAlone name section past (own.Answer moment ticket word answer) line later
IsAnsweredAlone name section past (Report named moment) line later =
    IsStepAlone name section past (own.Report moment) line later
IsAnsweredAlone name section past (Drain named moment) line later =
    IsStepAlone name section past (own.Drain moment) line later
IsAnsweredAlone name section past (Add document) line later = ⊥
IsAnsweredAlone name section past (Retire named moment) line later =
    IsStepAlone name section past (own.Retire moment) line later

-- the lines, without their line feeds, that a tenant alone is answered to its commands, one each
abbrev pub AnswersAlone : List ℕ → SectionData → List Own → List CommandData → List (List ℕ) → Type 0
AnswersAlone name section past [] [] = Unit
AnswersAlone name section past (command ∷ commands) (line ∷ lines) =
    (later : List Own) × IsAnsweredAlone name section past command (line ++ codes "\n") later
    × AnswersAlone name section later commands lines
AnswersAlone name section past [] (line ∷ lines) = ⊥
AnswersAlone name section past (command ∷ commands) [] = ⊥

-- the settings have a tenant of this name and section
abbrev pub Has : SettingsData → List ℕ → SectionData → Type 0
Has settings name section = (number : ℕ)
    × (tenant_at settings number ≡ Some (record { number = number; name = name; section = section }))

-- the tenant that a document describes, by the document alone, which gives it no number
abbrev pub tenant_in : List ℕ → Result TenantData FaultData
tenant_in document = document_in (parse_document document) >>= only_tenant >>= numbered_tenant 0 []

-- the command was to add a tenant of this name and section, and its line, without its line feed, says that it was added
abbrev pub IsWelcome : CommandData → List ℕ → List ℕ → SectionData → Type 0
IsWelcome (Add document) line name section = (number : ℕ) × (line ++ codes "\n" ≡ added_text name number)
    × (tenant_in document ≡ Ok (record { number = 0; name = name; section = section }))
IsWelcome command line name section = ⊥

-- one of the commands and the line that answers it are such a tenant's welcome, with these commands and lines behind
abbrev pub ComesAmong : List CommandData → List (List ℕ) → List ℕ → SectionData → List CommandData → List (List ℕ)
    → Type 0
ComesAmong [] lines name section behind lines_behind = ⊥
ComesAmong (command ∷ commands) [] name section behind lines_behind = ⊥
ComesAmong (command ∷ commands) (line ∷ lines) name section behind lines_behind =
    (IsWelcome command line name section × (behind ≡ commands) × (lines_behind ≡ lines))
    ⊎ ComesAmong commands lines name section behind lines_behind

-- a tenant of this name and section begins, with these commands and lines behind: before all of them where the settings
-- have it, and else after its welcome
abbrev pub Begins : SettingsData → List CommandData → List (List ℕ) → List ℕ → SectionData → List CommandData
    → List (List ℕ) → Type 0
Begins settings commands lines name section behind lines_behind =
    (Has settings name section × (behind ≡ commands) × (lines_behind ≡ lines))
    ⊎ ComesAmong commands lines name section behind lines_behind

-- each tenant's lines of the text, from where it begins to the end of its retirement, are those that it would be
-- answered alone to its own commands of the script, whatever the other tenants' sections and commands, and whoever had
-- its name before
abbrev pub EachAlone : SettingsData → List ℕ → List ℕ → Type 0
EachAlone settings script text =
    (name : List ℕ) (section : SectionData) (commands : List CommandData) (lines : List (List ℕ))
    → Begins settings (commands_of (lines_of script)) (lines_of text) name section commands lines
    → AnswersAlone name section [] (own_commands name commands lines) (lines_for name commands lines)

-- so it is of what a replay has written, by how it ended: after a failed call of a text that begins so
abbrev pub IsToldAlone : SettingsData → List ℕ → List ℕ → Result Unit ReplayFault → Type 0
IsToldAlone settings script written (Err Line) = (missing : List ℕ) × EachAlone settings script (written ++ missing)
IsToldAlone settings script written result = EachAlone settings script written

-- the same under the settings that a text means
abbrev pub TellsEachAlone : List ℕ → List ℕ → List ℕ → Result Unit ReplayFault → Type 0
TellsEachAlone text script written result =
    (settings : SettingsData) → settings_of text ≡ Ok settings → IsToldAlone settings script written result

-- in some replay a tenant of this name has this section, these own commands and these lines
pub record IsToldIn (name : List ℕ) (section : SectionData) (commands : List CommandData) (lines : List (List ℕ))
    : Type 0 where
  pub settings_text : List ℕ
  pub settings : SettingsData
  pub script : List ℕ
  pub text : List ℕ
  pub fault : Option ℕ
  pub behind : List CommandData
  pub lines_behind : List (List ℕ)
  pub means : settings_of settings_text ≡ Ok settings
  pub told : ScriptText settings script text fault
  pub begins : Begins settings (commands_of (lines_of script)) (lines_of text) name section behind lines_behind
  pub commands_are : own_commands name behind lines_behind ≡ commands
  pub lines_are : lines_for name behind lines_behind ≡ lines

-- a tenant's name, section and own commands decide its lines: the same in any two replays, whoever else is in their
-- settings, whatever else is in their scripts, however many shards there are, and whatever the tenant's number is
abbrev pub OwnCommandsDecide : Type 0
OwnCommandsDecide = (name : List ℕ) (section : SectionData) (commands : List CommandData) (lines lines' : List (List ℕ))
    → IsToldIn name section commands lines → IsToldIn name section commands lines' → lines' ≡ lines
