-- What always holds of a shard's stores, agenda and members together. This project's own rule.
use Rattle.std.specs.Prelude.{◌≡◌, ◌≤◌, ◌+◌, ℕ, true, List, [], ◌∷◌, None, IfSome, is_some, length}
use Rattle.std.specs.List.Sorted.{IsNonDecreasing}
use Rattle.shard_agenda.specs.declared.AgendaEntry.{AgendaEntry}
use Rattle.shard_agenda.specs.Agenda.{ready_of, is_member}
use Rattle.tail_policy.specs.declared.note.TraceNote.{TraceNote}
use Rattle.tenant_rules.specs.Limits.{IsWithinLimits}
use Rattle.tenant_rules.specs.Sum.{IsCounted}
use Rattle.tenant_stores.specs.declared.stores.Stores.{Stores}
use Rattle.tenant_stores.specs.Counts.{no_rows}
use Rattle.tenant_stores.specs.Part.{part}
use Rattle.tenant_stores.specs.Invariant.{StoreInvariant}
use Rattle.tenant_pipeline.specs.declared.pipeline.Pipeline.{Pipeline}
use Rattle.tenant_pipeline.specs.Invariant.{PipelineInvariant, IsSwept}
use Rattle.tenant_shard.specs.View.{View, kept_of}
use Rattle.tenant_shard.specs.Members.{AreInOrder, views, is_gone}
use Rattle.tenant_shard.specs.Pick.{ready_in}

-- what always holds of a tenant holds of each of these
abbrev pub AllHeld : Stores TraceNote → List Pipeline → Type 0
AllHeld stores [] = Unit
AllHeld stores (member ∷ members) = PipelineInvariant member stores × AllHeld stores members

-- each of them has in the stores no row that isn't present, and in its caches no hit that waits
abbrev pub AllSwept : List Pipeline → Type 0
AllSwept [] = Unit
AllSwept (member ∷ members) = IsSwept member × AllSwept members

-- members stand by number, and what always holds of a tenant holds of each, so each span of its part is named once;
-- rows that left are gone with their spans, and hits are in their caches' order; no other tenant has rows or spans;
-- and the agenda has just the members, each at the moment at which it is ready
pub record IsWhole (stores : Stores TraceNote) (agenda : List AgendaEntry) (members : List Pipeline) : Type 0 where
  pub order : AreInOrder members
  pub held : AllHeld stores members
  pub swept : AllSwept members
  pub strangers : (tenant : ℕ) → kept_of tenant (views stores members) ≡ None →
      StoreInvariant no_rows [] [] (part tenant stores)
  pub listed : (tenant : ℕ) → is_member agenda tenant ≡ is_some (kept_of tenant (views stores members))
  pub ready : (tenant : ℕ) → ready_of agenda tenant ≡ ready_in (views stores members) tenant

-- the numbers of the tenants that have gone rise, none of them is a member's, and there is room for each member's
-- among them
pub record AreGone (stores : Stores TraceNote) (members : List Pipeline) (gone : List ℕ) (room : ℕ) : Type 0 where
  pub rise : IsNonDecreasing gone
  pub apart : (tenant : ℕ) → is_gone tenant gone ≡ true → kept_of tenant (views stores members) ≡ None
  pub has_room : length gone + length members ≤ room

-- both
pub record IsShard (stores : Stores TraceNote) (agenda : List AgendaEntry) (members : List Pipeline)
    (gone : List ℕ) (room : ℕ) : Type 0 where
  pub whole : IsWhole stores agenda members
  pub gone_are : AreGone stores members gone room

-- each span that a member has taken is counted in exactly one place
abbrev pub AllCounted : List View → Type 0
AllCounted views = (tenant : ℕ) → IfSome (kept_of tenant views) IsCounted

-- what is kept of each member is within its limits
abbrev pub AllWithin : List View → Type 0
AllWithin views = (tenant : ℕ) → IfSome (kept_of tenant views) IsWithinLimits
