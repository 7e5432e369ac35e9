-- What a replay writes. This project's own rule.
use Rattle.std.specs.Prelude.{◌≡◌, ℕ, List, [], Option, Some, None, Result, Ok, Err}
use Rattle.std.specs.Io.KnownBytes.{Appends}
use Rattle.tail_settings.specs.Fault.{FaultData, fault_view}
use Rattle.tail_settings.specs.Settings.{SettingsData, settings_of}
use Rattle.replay_script.specs.Line.{lines_of}
use Rattle.replay_script.specs.Transcript.{ReadTo}
use Rattle.trace_collector.specs.declared.engine.ReplayFault.{ReplayFault}
use Rattle.trace_collector.specs.declared.engine.ReplayFault.TheVariants.{Settings, Script, Line, OutOfMemory}
use Rattle.trace_collector.specs.Script.{ScriptText, BeginsScriptText, ScriptToldSoFar}

-- the settings that the text means, and the text that the script is told under them. A settings fault is the text's
-- own, and then nothing is written; where a call failed or memory was refused, a beginning, and nothing where the text
-- means no settings
abbrev pub IsReplay : List ℕ → List ℕ → List ℕ → Result Unit ReplayFault → Type 0
IsReplay text script written (Ok done) =
    (s : SettingsData) × (settings_of text ≡ Ok s) × ScriptText s script written None
IsReplay text script written (Err (Script line)) =
    (s : SettingsData) × (settings_of text ≡ Ok s) × ScriptText s script written (Some line)
IsReplay text script written (Err (Settings fault)) =
    (f : FaultData) × (fault_view fault ≡ Some f) × (settings_of text ≡ Err f) × (written ≡ [])
IsReplay text script written (Err Line) =
    (s : SettingsData) × (settings_of text ≡ Ok s) × BeginsScriptText s script written
IsReplay text script written (Err OutOfMemory) =
    ((s : SettingsData) → settings_of text ≡ Ok s → BeginsScriptText s script written)
    × ((f : FaultData) → settings_of text ≡ Err f → written ≡ [])

-- under the settings that the text means, the answers to all lines that were read were written, but to the last at most
abbrev pub WritesSoFar : List ℕ → List ℕ → Option (List ℕ) → Option (List ℕ) → Option (List ℕ) → Type 0
WritesSoFar text script unread before after = (s : SettingsData) → settings_of text ≡ Ok s
    → (written : List ℕ) × Appends before after written × ScriptToldSoFar s script unread written

-- nothing of the script is read behind a faulty line
abbrev pub StopsReading : List ℕ → Option (List ℕ) → Result Unit ReplayFault → Type 0
StopsReading script unread (Err (Script line)) = ReadTo line (lines_of script) unread
StopsReading script unread result = Unit
