-- What came of a line that asks for a tenant to come. This project's own rule.
use Rattle.std.specs.Prelude.{◌≡◌, ℕ, ◌%◌, List, [], ◌∷◌, ◌++◌, Option, Some, None, Ok, string_bytes}
use Rattle.machine_hub.specs.declared.receipt.Receipt.{Receipt}
use Rattle.machine_hub.specs.Hub.{IsRefusedOn}
use Rattle.replay_script.specs.Answer.{added_text}
use Rattle.service_runtime.specs.Documents.{Reads}
use Rattle.shared_hub.specs.Logs.{CallerState, IsStepOn}
use Rattle.tail_settings.specs.Change.{Change, admit, strike, after}
use Rattle.tail_settings.specs.Fault.{FaultData}
use Rattle.tail_settings.specs.Settings.{SettingsData}
use Rattle.tenant_registry.specs.declared.documents.NotAdded.{NotAdded}
use Rattle.tenant_registry.specs.declared.documents.NotAdded.TheVariants.{Refused, OutOfMemory}
use Rattle.tenant_registry.specs.declared.in_force.Newcomer.{Newcomer}
use Rattle.tenant_registry.specs.Documents.{IsUnread}
use Rattle.tenant_registry.specs.InForce.{IsNewcomer, IsLetIn, IsTurnedAway}
use Rattle.tenant_registry.specs.NotAdded.{not_added_text, why_not}
use Rattle.tenant_registry.specs.Roster.{Present}
use Rattle.tenant_shard.specs.declared.step.Step.TheVariants as steps
use Rattle.tenant_shard.specs.declared.step.Outcome.{Outcome}
use Rattle.tenant_shard.specs.declared.step.Outcome.TheVariants as outcomes

-- who is present, and all changes that were made of the settings at the start, in their order
pub record Standing : Type 0 where
  pub present : Present
  pub changes : List Change

-- these tenants before any change
abbrev pub unchanged : Present → Standing
unchanged present = record { present = present; changes = [] }

-- the number by which a shard refused a step, if it did
abbrev pub refusal_in : Outcome → Option ℕ
refusal_in (outcomes.Refused tenant number) = Some number
refusal_in _ = None

-- a newcomer joined its shard: it is present then, and so it is printed
pub record IsJoined (shards : ℕ) (newcomer : Newcomer) (present : Present) (old : CallerState) (left : Present)
    (new : CallerState) (line : List ℕ) : Type 0 where
  pub outcome : Outcome
  pub receipt : Option Receipt
  pub made : IsStepOn old new (newcomer.number % shards) (steps.Add newcomer.number newcomer.section) outcome receipt
  pub goes : refusal_in outcome ≡ None
  pub left_are : left ≡ present ++ (newcomer.number, string_bytes newcomer.name) ∷ []
  pub line_is : line ≡ added_text (string_bytes newcomer.name) newcomer.number

-- it didn't: the shard refused it, by this number, or memory was refused
abbrev pub IsNotJoined : ℕ → Newcomer → CallerState → CallerState → NotAdded → Type 0
IsNotJoined shards newcomer old new (Refused number) =
    (outcome : Outcome) × (receipt : Option Receipt)
    × IsStepOn old new (newcomer.number % shards) (steps.Add newcomer.number newcomer.section) outcome receipt
    × (refusal_in outcome ≡ Some number)
IsNotJoined shards newcomer old new OutOfMemory = IsRefusedOn old new (newcomer.number % shards)

-- the newcomer was struck, and those who were present before are present then
abbrev pub IsStruck : Newcomer → Standing → Standing → Type 0
IsStruck newcomer standing left =
    (left.present ≡ standing.present) × (left.changes ≡ standing.changes ++ strike newcomer.number ∷ [])

-- What came of the line `add`, a space and this path, who is present then, which changes were made then, and what is
-- printed. A text was read at the path, and under the settings that the changes until then made of the first ones its
-- tenant was let in as their next one: that is one change more. With that number and section it joined its shard, by
-- one step; or it didn't, since the shard refused the step or was refused memory, and then it was struck. Or nobody was
-- let in, for the first fault of its document or since memory was refused, before any step; or no text was read.
pub data IsAdded (reads : Reads) (first : SettingsData) (shards : ℕ) (path : List ℕ) (standing : Standing)
    (old : CallerState) (left : Standing) : CallerState → List ℕ → Type 0 where
  added : (text : List ℕ) (newcomer : Newcomer) (new : CallerState) (line : List ℕ) → reads path (Ok text)
      → IsLetIn first standing.changes text newcomer left.changes
      → IsJoined shards newcomer standing.present old left.present new line
      → IsAdded reads first shards path standing old left new line
  not_joined : (text : List ℕ) (newcomer : Newcomer) (why : NotAdded) (new : CallerState) → reads path (Ok text)
      → IsNewcomer (after first standing.changes) text newcomer → IsNotJoined shards newcomer old new why
      → left.present ≡ standing.present
      → left.changes ≡ standing.changes ++ admit text ∷ strike newcomer.number ∷ []
      → IsAdded reads first shards path standing old left new (not_added_text why)
  turned_away : (text : List ℕ) (fault : Option FaultData) → reads path (Ok text)
      → IsTurnedAway first standing.changes text fault left.changes → left.present ≡ standing.present
      → IsAdded reads first shards path standing old left old (not_added_text (why_not fault))
  unread : (why : NotAdded) → IsUnread reads path why → left ≡ standing
      → IsAdded reads first shards path standing old left old (not_added_text why)
