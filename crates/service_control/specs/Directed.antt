-- What the control thread does, from the first line of the input to the last report. This project's own rule.
use Rattle.std.specs.Prelude.{ℕ, List, map, Bool, Option}
use Rattle.service_runtime.specs.Documents.{Reads}
use Rattle.service_runtime.specs.Output.{Output}
use Rattle.shared_hub.specs.Logs.{CallerState}
use Rattle.tail_settings.specs.Settings.{SettingsData}
use Rattle.service_control.specs.Comings.{Standing}
use Rattle.service_control.specs.Commands.{AreDrained, AreEmptyOn, AreReported, AreCommandsRead}

-- What who reads the input did, by calls of one caller and in this order: all lines of the input were answered, each
-- tenant that was present then was drained, each was seen to hold no span, and each one's report was written.
pub record IsDirected (port : Bool) (reads : Reads) (first : SettingsData) (standing : Standing) (shards : ℕ)
    (input : Option (List ℕ)) (old : CallerState) (before : ℕ) (so_far : Output) (new : CallerState) (last : ℕ)
    (written : Output) : Type 0 where
  pub left : Standing
  pub after_input : CallerState
  pub input_end : ℕ
  pub text : Output
  pub heard : AreCommandsRead port reads first shards input standing old before so_far left after_input input_end text
  pub after_drains : CallerState
  pub drain_end : ℕ
  pub drained : AreDrained shards after_input input_end (map (λ tenant. tenant.0) left.present) after_drains drain_end
  pub empty : AreEmptyOn after_drains shards (map (λ tenant. tenant.0) left.present)
  pub told : AreReported shards after_drains drain_end text left.present new last written
