-- A tenant in a collector of its own. This project's own rule.
use Rattle.std.specs.Prelude.{◌≡◌, ℕ, List, [], ◌∷◌, ◌++◌, Option, Some, Ok, codes}
use Rattle.tail_settings.specs.Settings.{SettingsData, settings_of}
use Rattle.tail_settings.specs.Section.{SectionData}
use Rattle.replay_script.specs.Command.{CommandData}
use Rattle.replay_script.specs.Line.{lines_of}
use Rattle.replay_script.specs.Transcript.{AnswersOf}
use Rattle.trace_collector.specs.Alone.{Begins}
use Rattle.trace_collector.specs.Answered.{IsAnswered}
use Rattle.trace_collector.specs.Own.{commands_of, own_commands, lines_for}
use Rattle.trace_collector.specs.Script.{ScriptText}
use Rattle.trace_collector.specs.Session.{begun}

-- settings with a tenant of this name and section alone, and one shard
abbrev pub only : SettingsData → List ℕ → SectionData → SettingsData
only settings name section = record {
  global = record (settings.global) { shards = 1 };
  tenants = record { number = 0; name = name; section = section } ∷ [];
  next = 1;
  queue_bytes = settings.queue_bytes;
}

-- each of the commands may be answered by the line beside it, with its line feed
abbrev pub AnswersEach : {S : Type 0} → AnswersOf S → S → List CommandData → List (List ℕ) → Type 0
AnswersEach answers state [] [] = Unit
AnswersEach {S} answers state (command ∷ commands) (line ∷ lines) =
    (after : S) × answers state command (Some (line ++ codes "\n")) after × AnswersEach answers after commands lines
AnswersEach answers state [] (line ∷ lines) = ⊥
AnswersEach answers state (command ∷ commands) [] = ⊥

-- a tenant's lines in any replay answer its own commands in a collector that has this tenant alone
abbrev pub ReplaysApart : Type 0
ReplaysApart = (settings_text script text : List ℕ) (settings : SettingsData) (fault : Option ℕ)
    → settings_of settings_text ≡ Ok settings → ScriptText settings script text fault
    → (name : List ℕ) (section : SectionData) (commands : List CommandData) (lines : List (List ℕ))
    → Begins settings (commands_of (lines_of script)) (lines_of text) name section commands lines
    → AnswersEach IsAnswered (begun (only settings name section)) (own_commands name commands lines)
    (lines_for name commands lines)
