-- The text that a script is told. This project's own rule (docs/SCRIPT.md).
use Rattle.std.specs.Prelude.{ℕ, List, Option}
use Rattle.tail_settings.specs.Settings.{SettingsData}
use Rattle.replay_script.specs.Line.{lines_of}
use Rattle.replay_script.specs.Transcript.{Told, BeginsTold, ToldSoFar}
use Rattle.trace_collector.specs.Session.{begun}
use Rattle.trace_collector.specs.Answered.{IsAnswered}

-- the text of the answers, up to the first faulty line, whose number is the fault
abbrev pub ScriptText : SettingsData → List ℕ → List ℕ → Option ℕ → Type 0
ScriptText settings script text fault = Told IsAnswered (lines_of script) 1 (begun settings) text fault

-- a beginning of it
abbrev pub BeginsScriptText : SettingsData → List ℕ → List ℕ → Type 0
BeginsScriptText settings script text = BeginsTold IsAnswered (lines_of script) (begun settings) text

-- all that was told so far, by what is left to read of the script
abbrev pub ScriptToldSoFar : SettingsData → List ℕ → Option (List ℕ) → List ℕ → Type 0
ScriptToldSoFar settings script unread text = ToldSoFar IsAnswered (lines_of script) (begun settings) unread text
