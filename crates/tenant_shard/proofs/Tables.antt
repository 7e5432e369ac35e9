-- One more number in the list of members.
use Rattle.std.proofs.Common.{◌≡◌, ℕ, List, [], ◌∷◌, ◌++◌, refl, sym, subst, ◌∙◌, true, Option, Some, None, inl, inr, ◌⊎◌}
use Rattle.std.proofs.lemmas.Bool.{cases_eq}
use Rattle.tail_settings.specs.Section.{SectionData}
use Rattle.tail_settings.specs.Settings.{SettingsData, section_at}
use Rattle.tenant_rules.specs.State.{State}
use Rattle.tenant_shard.specs.View.{View, kept_of, was_of}
use Rattle.tenant_shard.specs.Lives.{new_life, MemberStands, LifeStands, ShardStands}
use Rattle.tenant_shard.specs.Steps.{IsAdditionOf}
use Rattle.tenant_shard.specs.Table.{section_of, opened}
use Rattle.tenant_shard.proofs.Sections.{section_of-push_other, section_of-push_same, section_of-is}

-- a new member
pub opened_more : (s : SettingsData) (E : List ℕ) (t : ℕ) (section : SectionData) (vs ws : List View) → section_at s t ≡ Some section → IsAdditionOf t section vs ws → ShardStands (opened s E) vs → ShardStands (opened s (E ++ t ∷ [])) ws
opened_more s E t section vs ws found added stands = λ u. elim (cases_eq t u) [
  | inl same ↦
      let at : section_of s (E ++ t ∷ []) t ≡ Some section = section_of-push_same s E t ∙ found in
      rw (← same) (rw (at, added.is_now, added.was_now) (refl, refl))
  | inr other ↦
      let stay = added.others u (λ e. other (sym e)) in
      rw (section_of-push_other s E t u other, stay.0, stay.1) (stands u)
]

-- no new one
opened_same : (s : SettingsData) (E : List ℕ) (t : ℕ) (vs : List View) → section_of s E t ≡ section_at s t → ShardStands (opened s E) vs → ShardStands (opened s (E ++ t ∷ [])) vs
opened_same s E t vs is stands = λ u. subst (λ (o : Option SectionData). LifeStands (new_life o) (kept_of u vs) (was_of u vs)) (sym (same u)) (stands u)
  where
    same : (u : ℕ) → section_of s (E ++ t ∷ []) u ≡ section_of s E u
    same u = elim (cases_eq t u) [
      | inl here ↦ subst (λ (v : ℕ). section_of s (E ++ t ∷ []) v ≡ section_of s E v) here (section_of-push_same s E t ∙ sym is)
      | inr other ↦ section_of-push_other s E t u other
    ]

pub opened_none : (s : SettingsData) (E : List ℕ) (t : ℕ) (vs : List View) → section_at s t ≡ None → ShardStands (opened s E) vs → ShardStands (opened s (E ++ t ∷ [])) vs
opened_none s E t vs missing stands = elim (section_of-is s E t) [
  | inl none ↦ opened_same s E t vs (none ∙ sym missing) stands
  | inr is ↦ opened_same s E t vs is stands
]

must_be : (section other : Option SectionData) (kept : Option State) → ¬ (kept ≡ None) → MemberStands section [] true kept → (section ≡ None) ⊎ (section ≡ other) → section ≡ other
must_be None other None there stands (inl e) = absurd (there refl)
must_be None other (Some kept) there stands (inl e) = absurd stands
must_be (Some w) other kept there stands (inl e) = absurd (cc)
must_be section other kept there stands (inr e) = e

pub opened_again : (s : SettingsData) (E : List ℕ) (t : ℕ) (vs : List View) → ¬ (kept_of t vs ≡ None) → ShardStands (opened s E) vs → ShardStands (opened s (E ++ t ∷ [])) vs
opened_again s E t vs there stands =
    opened_same s E t vs (must_be (section_of s E t) (section_at s t) (kept_of t vs) there (stands t).0 (section_of-is s E t)) stands
