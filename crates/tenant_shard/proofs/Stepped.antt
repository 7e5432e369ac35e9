-- What a step of a member's pipeline leaves of its shard.
use Rattle.std.proofs.Common.{◌≡◌, ℕ, ap, sym, subst, ◌∙◌, List, Option, Some, is_some, true, arith, get_or, set}
use Rattle.std.proofs.lemmas.List.{length-set}
use Rattle.shard_agenda.specs.declared.AgendaEntry.{AgendaEntry}
use Rattle.shard_agenda.specs.Agenda.{ready_of, is_member, with_ready}
use Rattle.tail_policy.specs.declared.note.TraceNote.{TraceNote}
use Rattle.tenant_rules.specs.Ready.{ready}
use Rattle.tenant_stores.specs.declared.stores.Stores.{Stores}
use Rattle.tenant_pipeline.specs.declared.pipeline.Pipeline.{Pipeline}
use Rattle.tenant_pipeline.specs.StateIn.{state_in}
use Rattle.tenant_pipeline.specs.Invariant.{PipelineInvariant, IsSwept}
use Rattle.tenant_shard.specs.View.{kept_of}
use Rattle.tenant_shard.specs.Members.{IsPlaceOf, views, all_views}
use Rattle.tenant_shard.specs.Steps.{IsChangeOf}
use Rattle.tenant_shard.specs.Whole.{IsShard}
use Rattle.tenant_shard.proofs.Places.{tenant_at, IsPlaceOf-set}
use Rattle.tenant_shard.proofs.Frame.{Others, kept_place, kept_there, held_at, swept_at, change_at, whole_set}
use Rattle.tenant_shard.proofs.Gones.{kept_behind, change_behind, gone_stays}

module _ (t : ℕ) (old : Stores TraceNote) (es : List AgendaEntry) (ms : List Pipeline) (gs : List ℕ) (room i : ℕ) (own : Pipeline) (shard : IsShard old es ms gs room) (place : IsPlaceOf t ms i) (is : own ≡ get_or ms i own) where
  same : own.tenant ≡ t
  same = ap (λ (m : Pipeline). m.tenant) is ∙ tenant_at t ms i own place

  pub kept : kept_of t (all_views old ms gs) ≡ Some (state_in own old)
  kept = kept_behind t (views old ms) gs ∙ kept_place t old ms i own place is

  pub held : PipelineInvariant own old
  held = subst (λ (m : Pipeline). PipelineInvariant m old) (sym is) (held_at t old ms i own place shard.whole.held)

  pub listed : is_member es t ≡ true
  listed = shard.whole.listed t ∙ ap is_some (kept_place t old ms i own place is)

  module _ (new : Stores TraceNote) (own' : Pipeline) (named : own'.tenant ≡ own.tenant) (apart : Others own.tenant old new) where
    others : Others t old new
    others = λ v ne. apart v (λ e. ne (e ∙ same))

    pub stands : IsPlaceOf t (set ms i own') i
    stands = IsPlaceOf-set t ms i own' place (named ∙ same)

    of_members : own'.section ≡ own.section → IsChangeOf t (state_in own old) (state_in own' new) (Some (state_in own' new)) (views old ms) (views new (set ms i own'))
    of_members section = change_at t old new ms i own own' place is (named ∙ same) others section

    pub change : own'.section ≡ own.section → IsChangeOf t (state_in own old) (state_in own' new) (Some (state_in own' new)) (all_views old ms gs) (all_views new (set ms i own') gs)
    change section = change_behind t (state_in own old) (state_in own' new) (Some (state_in own' new)) (views old ms) (views new (set ms i own')) gs (of_members section)

    pub whole : (es' : List AgendaEntry) (at : Option ℕ) → own'.section ≡ own.section → PipelineInvariant own' new → (IsSwept own → IsSwept own') →
        at ≡ ready (state_in own' new) → ready_of es' ≡ with_ready t at (ready_of es) → is_member es' ≡ is_member es → IsShard new es' (set ms i own') gs room
    whole es' at section holds sweeps when set_at members = record {
      whole = whole_set t old new es es' ms i own' shard.whole place (named ∙ same) others holds
          (sweeps (subst IsSwept (sym is) (swept_at t ms i own place shard.whole.swept)))
          (set_at ∙ ap (λ (r : Option ℕ). with_ready t r (ready_of es)) when) members;
      gone_are = gone_stays old new ms (set ms i own') gs room room t shard.gone_are (kept_there t old ms i place) (λ u ne. ((of_members section).others u ne).0) (length-set ms i own') (omega arith);
    }
