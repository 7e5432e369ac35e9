-- A replay, from the run of its script.
use Rattle.std.proofs.Common.{◌≡◌, ℕ, List, [], Option, Some, None, Result, Ok, Err, IfSome, refl, sym, subst, ◌∙◌, arith}
use Rattle.std.proofs.lemmas.List.{append-nil}
use Rattle.std.specs.Io.KnownBytes.{Appends}
use Rattle.std.specs.Prelude.{string_bytes}
use Rattle.tail_settings.specs.declared.fault.SettingsFault.{SettingsFault}
use Rattle.tail_settings.specs.declared.fault.SettingsFault.TheVariants as settings
use Rattle.tail_settings.specs.Fault.{TellsFault, not_toml, missing_key, wrong_kind, out_of_range, double_tenant, too_many}
use Rattle.tail_settings.specs.Settings.{SettingsData, settings_of}
use Rattle.replay_script.specs.declared.fault.ScriptFault.{ScriptFault}
use Rattle.replay_script.specs.declared.fault.ScriptFault.TheVariants.{Script, Line, OutOfMemory}
use Rattle.replay_script.specs.Command.{CommandData}
use Rattle.replay_script.specs.Line.{lines_of}
use Rattle.replay_script.specs.Transcript.{Told, BeginsTold, ToldSoFar, Ends}
use Rattle.trace_collector.specs.declared.shards.Shards.{Shards}
use Rattle.trace_collector.specs.Fault.{script_fault, settings_fault}
use Rattle.trace_collector.specs.Answered.{IsAnswered}
use Rattle.trace_collector.specs.declared.engine.ReplayFault.{ReplayFault}
use Rattle.trace_collector.specs.declared.engine.ReplayFault.TheVariants as faults
use Rattle.trace_collector.specs.Session.{Session, begun}
use Rattle.trace_collector.specs.Script.{BeginsScriptText, ScriptToldSoFar}
use Rattle.trace_collector.specs.Standing.{StandFor, Answers}
use Rattle.trace_collector.specs.Replay.{IsReplay, StopsReading, WritesSoFar}
use Rattle.trace_collector.proofs.Through.{told_through, begins_through, so_far_through}

pub goes_along : (old new : Shards) (session : Session) (command : CommandData) (line : Option (List ℕ)) → StandFor old session → Answers old command line new
    → (later : Session) × IsAnswered session command line later × StandFor new later
goes_along old new session command line along answers = answers.answers session along

pub ok_same : {E : Type 0} (r : Result SettingsData E) (a b : SettingsData) → r ≡ Ok a → r ≡ Ok b → a ≡ b
ok_same {E} r a b e f = let same : ◌≡◌ {A = Result SettingsData E} (Ok a) (Ok b) = sym e ∙ f in cc

pub ran_replays : (text script written : List ℕ) (unread : Option (List ℕ)) (shards : Shards) (settings : SettingsData) (done : Unit) → settings_of text ≡ Ok settings → StandFor shards (begun settings)
    → Ends Answers (lines_of script) shards unread written (Ok done) → IsReplay text script written (Ok done)
ran_replays text script written unread shards settings done is along ends =
    (settings, is, told_through Answers IsAnswered StandFor goes_along (lines_of script) 1 shards (begun settings) written None along ends)

so_far_begins : (lines : List (List ℕ)) (shards : Shards) (unread : Option (List ℕ)) (written : List ℕ) → ToldSoFar Answers lines shards unread written → BeginsTold Answers lines shards written
so_far_begins lines shards unread written told =
    (told.done, told.left, [], None, told.parted, subst (λ t. Told Answers told.done 1 shards t None) (sym (append-nil written)) told.told)

pub fault_replays : (text script written : List ℕ) (unread : Option (List ℕ)) (shards : Shards) (settings : SettingsData) (fault : ScriptFault) → settings_of text ≡ Ok settings → StandFor shards (begun settings)
    → Ends Answers (lines_of script) shards unread written (Err fault) → IsReplay text script written (Err (script_fault fault))
fault_replays text script written unread shards settings (Script line) is along ends =
    (settings, is, told_through Answers IsAnswered StandFor goes_along (lines_of script) 1 shards (begun settings) written (Some line) along ends.0)
fault_replays text script written unread shards settings Line is along ends =
    (settings, is, begins_through Answers IsAnswered StandFor goes_along (lines_of script) shards (begun settings) written along ends)
fault_replays text script written unread shards settings OutOfMemory is along ends = (
  λ s means.
      let same : ◌≡◌ {A = SettingsData} settings s = ok_same _ settings s is means in
      subst (λ t. BeginsScriptText t script written) same
      (begins_through Answers IsAnswered StandFor goes_along (lines_of script) shards (begun settings) written along
      (so_far_begins (lines_of script) shards unread written ends)),
  λ f fails.
      absurd (let never : Ok settings ≡ Err f = sym is ∙ fails in cc),
)

memory_told : (fault : ScriptFault) → script_fault fault ≡ faults.OutOfMemory → fault ≡ OutOfMemory
memory_told (Script line) is = absurd (cc)
memory_told Line is = absurd (cc)
memory_told OutOfMemory is = refl

-- the fault was want of memory
pub was_memory : (r : Result Unit ReplayFault) (given : ReplayFault) (fault : ScriptFault) → r ≡ Err given → given ≡ script_fault fault → r ≡ Err faults.OutOfMemory → fault ≡ OutOfMemory
was_memory r given fault is from memory =
    let same : given ≡ faults.OutOfMemory = cc in
    memory_told fault (sym from ∙ same)

pub memory_so_far : (old unread w w' : Option (List ℕ)) (text : List ℕ) (shards : Shards) (settings : SettingsData) (fault : ScriptFault) → settings_of text ≡ Ok settings
    → StandFor shards (begun settings) → fault ≡ OutOfMemory
    → IfSome old (λ script. (written : List ℕ) × Appends w w' written × Ends Answers (lines_of script) shards unread written (Err fault))
    → IfSome old (λ script. WritesSoFar text script unread w w')
memory_so_far None unread w w' text shards settings fault is along memory told = tt
memory_so_far (Some script) unread w w' text shards settings fault is along memory told =
    λ s means.
    let ends = subst (λ f. Ends Answers (lines_of script) shards unread told.0 (Err f)) memory told.2 in
    let same : ◌≡◌ {A = SettingsData} settings s = ok_same _ settings s is means in (
      told.0,
      told.1,
      subst (λ t. ScriptToldSoFar t script unread told.0) same
          (so_far_through Answers IsAnswered StandFor goes_along (lines_of script) shards (begun settings) unread told.0 along ends),
    )

pub some_told : (old : Option (List ℕ)) (P Q : List ℕ → List ℕ → Type 0) (w w' : Option (List ℕ)) → ((script written : List ℕ) → P script written → Q script written)
    → IfSome old (λ script. (written : List ℕ) × Appends w w' written × P script written)
    → IfSome old (λ script. (written : List ℕ) × Appends w w' written × Q script written)
some_told None P Q w w' on told = tt
some_told (Some script) P Q w w' on told = (told.0, told.1, on script told.0 told.2)

-- nothing is a beginning of every script's text
pub nothing_begins : (settings : SettingsData) (script : List ℕ) → BeginsScriptText settings script []
nothing_begins settings script = ([], lines_of script, [], None, refl, (refl, refl))

-- settings that aren't read
pub unread_replays : (text script : List ℕ) (fault : SettingsFault) → TellsFault fault (settings_of text) → IsReplay text script [] (Err (settings_fault fault))
unread_replays text script settings.NotToml tells = (not_toml, refl, tells, refl)
unread_replays text script (settings.MissingKey key) tells = (missing_key key.now, refl, tells, refl)
unread_replays text script (settings.WrongKind key) tells = (wrong_kind key.now, refl, tells, refl)
unread_replays text script (settings.OutOfRange key) tells = (out_of_range key.now, refl, tells, refl)
unread_replays text script (settings.DoubleTenant name) tells = (double_tenant (string_bytes name), refl, tells, refl)
unread_replays text script settings.TooMany tells = (too_many, refl, tells, refl)
unread_replays text script settings.OutOfMemory tells = (λ s means. nothing_begins s script, λ f fails. refl)

appends_nothing : (w : Option (List ℕ)) → Appends w w []
appends_nothing None = tt
appends_nothing (Some xs) = sym (append-nil xs)

pub nothing_told : (old : Option (List ℕ)) (Q : List ℕ → List ℕ → Type 0) (w : Option (List ℕ)) → ((script : List ℕ) → Q script [])
    → IfSome old (λ script. (written : List ℕ) × Appends w w written × Q script written)
nothing_told None Q w on = tt
nothing_told (Some script) Q w on = ([], appends_nothing w, on script)

-- where nothing was read, nothing was told
pub nothing_so_far : (old w : Option (List ℕ)) (text : List ℕ) → IfSome old (λ script. WritesSoFar text script old w w)
nothing_so_far None w text = tt
nothing_so_far (Some script) w text =
    λ s means. (
      [],
      appends_nothing w,
      record { done = []; left = lines_of script; rest = script; parted = refl; told = (refl, refl); to_read = refl; one_read = omega arith },
    )

-- settings that aren't read are no fault of the script
pub unread_stops : (old unread : Option (List ℕ)) (fault : SettingsFault) → IfSome old (λ script. StopsReading script unread (Err (settings_fault fault)))
unread_stops None unread fault = tt
unread_stops (Some script) unread settings.NotToml = tt
unread_stops (Some script) unread (settings.MissingKey key) = tt
unread_stops (Some script) unread (settings.WrongKind key) = tt
unread_stops (Some script) unread (settings.OutOfRange key) = tt
unread_stops (Some script) unread (settings.DoubleTenant name) = tt
unread_stops (Some script) unread settings.TooMany = tt
unread_stops (Some script) unread settings.OutOfMemory = tt

pub no_fault_stops : (old : Option (List ℕ)) → IfSome old (λ script. Unit)
no_fault_stops None = tt
no_fault_stops (Some script) = tt

pub fault_stops : (old unread w w' : Option (List ℕ)) (shards : Shards) (fault : ScriptFault)
    → IfSome old (λ script. (written : List ℕ) × Appends w w' written × Ends Answers (lines_of script) shards unread written (Err fault))
    → IfSome old (λ script. StopsReading script unread (Err (script_fault fault)))
fault_stops None unread w w' shards fault told = tt
fault_stops (Some script) unread w w' shards (Script line) told = told.2.1
fault_stops (Some script) unread w w' shards Line told = tt
fault_stops (Some script) unread w w' shards OutOfMemory told = tt
