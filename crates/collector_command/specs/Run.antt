-- What the program writes, and with what it ends. This project's own rule (docs/OPERATING.md).
use Rattle.std.specs.Prelude.{◌≡◌, ℕ, List, [], Result, Ok, Err}
use Rattle.std.specs.Str.{IsUtf8}
use Rattle.tail_settings.specs.declared.fault.SettingsFault.TheVariants as settings
use Rattle.trace_collector.specs.declared.engine.ReplayFault.TheVariants as replay
use Rattle.trace_collector.specs.Replay.{IsReplay}
use Rattle.collector_command.specs.declared.fault.ProgramFault.{ProgramFault}
use Rattle.collector_command.specs.declared.fault.ProgramFault.TheVariants.{Usage, Replay}

-- what is written and the end are those of the replay of a script under the settings of a text
abbrev pub IsReplayed : List ℕ → List ℕ → List ℕ → Result Unit ProgramFault → Type 0
IsReplayed text script written (Ok done) = IsReplay text script written (Ok done)
IsReplayed text script written (Err (Replay fault)) = IsReplay text script written (Err fault)
IsReplayed text script written (Err Usage) = ⊥

-- the same under the settings of a file's bytes; bytes that spell no text are no TOML document
pub record IsRun (bytes script written : List ℕ) (end : Result Unit ProgramFault) : Type 0 where
  pub spelled : IsUtf8 bytes → IsReplayed bytes script written end
  pub nothing_written : (IsUtf8 bytes → ⊥) → written ≡ []
  pub not_toml : (IsUtf8 bytes → ⊥) → end ≡ Err (Replay (replay.Settings settings.NotToml))
