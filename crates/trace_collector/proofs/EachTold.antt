-- What a replay has written tells each tenant what it would be told alone.
use Rattle.std.proofs.Common.{◌≡◌, ℕ, List, [], ◌∷◌, Option, Some, None, Result, Ok, Err, IfSome, sym, subst, inl, inr}
use Rattle.std.specs.Io.KnownBytes.{Appends}
use Rattle.tail_settings.specs.Section.{SectionData}
use Rattle.tail_settings.specs.Settings.{SettingsData, settings_of}
use Rattle.replay_script.specs.declared.fault.ScriptFault.{ScriptFault}
use Rattle.replay_script.specs.declared.fault.ScriptFault.TheVariants.{Script, Line, OutOfMemory}
use Rattle.replay_script.specs.Command.{CommandData}
use Rattle.replay_script.specs.Line.{lines_of}
use Rattle.replay_script.specs.Transcript.{Ends}
use Rattle.trace_collector.specs.declared.shards.Shards.{Shards}
use Rattle.trace_collector.specs.declared.engine.ReplayFault.{ReplayFault}
use Rattle.trace_collector.specs.declared.engine.ReplayFault.TheVariants as faults
use Rattle.trace_collector.specs.Alone.{AnswersAlone, ComesAmong, EachAlone, IsToldAlone, TellsEachAlone}
use Rattle.trace_collector.specs.Answered.{IsAnswered}
use Rattle.trace_collector.specs.Fault.{script_fault}
use Rattle.trace_collector.specs.Session.{begun}
use Rattle.trace_collector.specs.Own.{commands_of, own_commands, lines_for}
use Rattle.trace_collector.specs.Script.{ScriptText, BeginsScriptText}
use Rattle.trace_collector.specs.Standing.{StandFor, Answers}
use Rattle.trace_collector.proofs.Through.{so_far_through}
use Rattle.trace_collector.proofs.Replayed.{ok_same, goes_along, ran_replays, fault_replays, nothing_told}
use Rattle.trace_collector.proofs.Named.{listed_text}
use Rattle.trace_collector.proofs.Alone.{none_alone, whole_alone, begun_alone, so_far_alone}

-- nothing was written
none_comes : (commands : List CommandData) (name : List ℕ) (section : SectionData) (behind : List CommandData) (lines_behind : List (List ℕ))
    → ComesAmong commands [] name section behind lines_behind → ⊥
none_comes [] name section behind lines_behind comes = comes
none_comes (command ∷ commands) name section behind lines_behind comes = comes

nothing_alone : (settings : SettingsData) (script : List ℕ) → EachAlone settings script []
nothing_alone settings script name section commands lines (inl has) = subst (λ ls. AnswersAlone name section [] (own_commands name commands ls) (lines_for name commands ls)) (sym has.2) (none_alone name section [] commands).0
nothing_alone settings script name section commands lines (inr comes) = absurd (none_comes (commands_of (lines_of script)) name section commands lines comes)

nothing_ends : (settings : SettingsData) (script : List ℕ) (result : Result Unit ReplayFault) → IsToldAlone settings script [] result
nothing_ends settings script (Ok done) = nothing_alone settings script
nothing_ends settings script (Err (faults.Settings fault)) = nothing_alone settings script
nothing_ends settings script (Err (faults.Script line)) = nothing_alone settings script
nothing_ends settings script (Err faults.Line) = ([], nothing_alone settings script)
nothing_ends settings script (Err faults.OutOfMemory) = nothing_alone settings script

pub nothing_tells : (old w : Option (List ℕ)) (text : List ℕ) (result : Result Unit ReplayFault)
    → IfSome old (λ script. (written : List ℕ) × Appends w w written × TellsEachAlone text script written result)
nothing_tells old w text result =
    nothing_told old (λ (script written : List ℕ). TellsEachAlone text script written result) w (λ script settings means. nothing_ends settings script result)

told_under : (text script written : List ℕ) (fault : Option ℕ) (settings other : SettingsData) → settings_of text ≡ Ok settings → ScriptText settings script written fault
    → settings_of text ≡ Ok other → EachAlone other script written
told_under text script written fault settings other is told means =
    whole_alone other script written fault (listed_text text other means) (subst (λ s. ScriptText s script written fault) (ok_same _ settings other is means) told)

pub ran_tells : (text script written : List ℕ) (unread : Option (List ℕ)) (shards : Shards) (settings : SettingsData) (done : Unit) → settings_of text ≡ Ok settings → StandFor shards (begun settings)
    → Ends Answers (lines_of script) shards unread written (Ok done) → TellsEachAlone text script written (Ok done)
ran_tells text script written unread shards settings done is along ends =
    let told = ran_replays text script written unread shards settings done is along ends in
    λ other means. told_under text script written None told.0 other told.1 told.2 means

pub fault_tells : (text script written : List ℕ) (unread : Option (List ℕ)) (shards : Shards) (settings : SettingsData) (fault : ScriptFault) → settings_of text ≡ Ok settings → StandFor shards (begun settings)
    → Ends Answers (lines_of script) shards unread written (Err fault) → TellsEachAlone text script written (Err (script_fault fault))
fault_tells text script written unread shards settings (Script line) is along ends =
    let told = fault_replays text script written unread shards settings (Script line) is along ends in
    λ other means. told_under text script written (Some line) told.0 other told.1 told.2 means
fault_tells text script written unread shards settings Line is along ends =
    let told = fault_replays text script written unread shards settings Line is along ends in
    λ other means.
    begun_alone other script written (listed_text text other means) (subst (λ s. BeginsScriptText s script written) (ok_same _ told.0 other told.1 means) told.2)
fault_tells text script written unread shards settings OutOfMemory is along ends =
    λ other means.
    subst (λ s. EachAlone s script written) (ok_same _ settings other is means)
    (so_far_alone settings script written unread (listed_text text settings is)
    (so_far_through Answers IsAnswered StandFor goes_along (lines_of script) shards (begun settings) unread written along ends))
