-- The steps that ask for counters alone. This project's own rule.
use Rattle.std.specs.Prelude.{◌≡◌, ℕ, ◌%◌, Option}
use Rattle.drop_ledger.specs.Ledger.{LedgerData}
use Rattle.machine_hub.specs.declared.receipt.Receipt.{Receipt}
use Rattle.machine_hub.specs.declared.told.Told.{Told}
use Rattle.machine_hub.specs.Hub.{IsRefusedOn}
use Rattle.shared_hub.specs.Logs.{CallerState, IsLookOn, IsStepOn}
use Rattle.tenant_shard.specs.declared.step.Step.TheVariants as steps
use Rattle.tenant_shard.specs.declared.step.Outcome.{Outcome}
use Rattle.tenant_shard.specs.declared.waiting.Waiting.{Waiting}
use Rattle.service_front.specs.Figures.{Tells}

-- one step asked for a tenant's counters, at its shard, and this was told
pub record IsLooked (old new : CallerState) (shards tenant : ℕ) (ledger : Option LedgerData) : Type 0 where
  pub now : ℕ
  pub outcome : Outcome
  pub receipt : Option Receipt
  pub made : IsStepOn old new (tenant % shards) (steps.Report tenant now) outcome receipt
  pub tells : Tells outcome ledger

-- the tenant's shard said, at a moment after all of this caller's steps, that the tenant waits so: how full it is and
-- may be, and when something of it is due next, in milliseconds since the start, or that nothing of it waits
abbrev pub IsSeen : CallerState → ℕ → ℕ → Waiting → Type 0
IsSeen caller shards tenant waiting =
    (told : Told Waiting) × IsLookOn caller (tenant % shards) tenant told × (told.answer ≡ waiting)

-- nothing was done but that counters were asked for, in as many steps as one likes, of which some were refused memory
pub data OnlyLooks (shards : ℕ) (old : CallerState) : CallerState → Type 0 where
  nothing : OnlyLooks shards old old
  looked : (mid : CallerState) (tenant : ℕ) (ledger : Option LedgerData) (new : CallerState)
      → OnlyLooks shards old mid → IsLooked mid new shards tenant ledger → OnlyLooks shards old new
  refused : (mid : CallerState) (tenant : ℕ) (new : CallerState)
      → OnlyLooks shards old mid → IsRefusedOn mid new (tenant % shards) → OnlyLooks shards old new
