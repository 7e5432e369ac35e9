-- Whose a step is, by the agenda and the members, whatever the stores and whoever has gone. This project's own rule.
use Rattle.std.specs.Prelude.{◌≡◌, ℕ, ◌<◌, List, Option, Some, None, length}
use Rattle.shard_agenda.specs.declared.AgendaEntry.{AgendaEntry}
use Rattle.shard_agenda.specs.Agenda.{ready_of}
use Rattle.shard_agenda.specs.Pick.{IsPick}
use Rattle.tail_policy.specs.declared.note.TraceNote.{TraceNote}
use Rattle.tenant_rules.specs.Own.{moment_of}
use Rattle.tenant_stores.specs.declared.stores.Stores.{Stores}
use Rattle.tenant_pipeline.specs.declared.pipeline.Pipeline.{Pipeline}
use Rattle.tenant_shard.specs.declared.step.Step.{Step}
use Rattle.tenant_shard.specs.declared.addressee.Addressee.{Addressee}
use Rattle.tenant_shard.specs.declared.addressee.Addressee.TheVariants.{Member, Nobody}
use Rattle.tenant_shard.specs.View.{View, kept_of}
use Rattle.tenant_shard.specs.Members.{IsPlaceOf, all_views}
use Rattle.tenant_shard.specs.Outcomes.{OwnStep, Asked, Piped, Comes, asked_in, named_in}
use Rattle.tenant_shard.specs.Refusal.{IsStepFor, Reaches}
use Rattle.tenant_shard.specs.Follows.{NoMemberFollows}
use Rattle.tenant_shard.specs.Whole.{IsWhole}

-- the tenant that a step names, or for a turn whom it goes to
abbrev pub IsWhoseBy : Option ℕ → Asked → List AgendaEntry → Option ℕ → Type 0
IsWhoseBy (Some tenant) asked agenda whom = whom ≡ Some tenant
IsWhoseBy None (Piped step) agenda whom = IsPick (ready_of agenda) (moment_of step.step) whom
IsWhoseBy None (Comes section) agenda whom = ⊥

-- the tenant whose a step is
abbrev pub IsWhose : Step → List AgendaEntry → Option ℕ → Type 0
IsWhose step agenda whom = IsWhoseBy (named_in step) (asked_in step) agenda whom

-- a step reaches the pipeline of a member
pub record IsReached (tenant : ℕ) (step : Step) (asked : OwnStep) (views : List View) : Type 0 where
  pub whose : IsStepFor tenant step views
  pub reaches : Reaches asked (kept_of tenant views)

-- it holds of what is kept, whatever the stores of these members and whoever has gone
abbrev pub InAnyShard : List AgendaEntry → List Pipeline → (List View → Type 0) → Type 0
InAnyShard agenda members Holds = (stores : Stores TraceNote) (gone : List ℕ) → IsWhole stores agenda members
    → Holds (all_views stores members gone)

-- whose pipeline a step reaches, and what is told of a step that reaches none
abbrev pub IsAddressee : Step → OwnStep → List AgendaEntry → List Pipeline → Addressee → Type 0
IsAddressee step asked agenda members (Member place tenant) = (place < length members)
    × IsPlaceOf tenant members place × InAnyShard agenda members (λ views. IsReached tenant step asked views)
IsAddressee step asked agenda members (Nobody told) =
    InAnyShard agenda members (λ views. NoMemberFollows step views told views)
