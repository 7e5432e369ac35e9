-- The shards that are opened, one after another.
use Rattle.std.proofs.Common.{◌≡◌, ◌%◌, ◌<◌, ◌==◌, ◌&&◌, ℕ, zero, suc, Bool, true, false, cond, nat_lt, List, [], ◌∷◌, ◌++◌, length, Some, None, Ok, refl, ap, sym, subst, ◌∙◌, arith, inl, inr}
use Rattle.std.specs.List.{slice_get}
use Rattle.std.specs.Option.{is_some, option_map}
use Rattle.std.proofs.lemmas.Bool.Decides.{nat_tests}
use Rattle.std.proofs.lemmas.Bool.{cases_lt}
use Rattle.std.proofs.lemmas.Option.{slice_get_within, slice_get_past}
use Rattle.std.proofs.lemmas.List.{length-append}
use Rattle.trace_collector.proofs.Places.{get_push_old, get_push_last, some_same}
use Rattle.tail_settings.specs.Settings.{SettingsData, TenantData, section_at, settings_of}
use Rattle.tail_settings.proofs.Changes.{found_by_place}
use Rattle.tail_settings.proofs.Sound.{settings_of-sound}
use Rattle.tenant_shard.specs.View.{View, kept_of, was_of}
use Rattle.tenant_shard.specs.Lives.{new_life, LifeStands, ShardStands}
use Rattle.tenant_shard.specs.Table.{section_of, opened, members_of}
use Rattle.tenant_shard.proofs.Tenants.{in_its_shard}
use Rattle.trace_collector.specs.Answered.{section_in, used_in, lives_of}
use Rattle.trace_collector.specs.Session.{no_steps}
use Rattle.trace_collector.specs.Standing.{AllPresent}

both_true : (b : Bool) → (b && true) ≡ b
both_true true = refl
both_true false = refl

both_false : (b : Bool) → (b && false) ≡ false
both_false true = refl
both_false false = refl

-- each number of a shard that was given has its tenant
used_section : (settings : SettingsData) (tenant : ℕ) (b : Bool) → is_some (section_at settings tenant) ≡ nat_lt tenant settings.next
    → is_some (cond b (section_at settings tenant) None) ≡ (nat_lt tenant settings.next && b)
used_section settings tenant true present = present ∙ sym (both_true (nat_lt tenant settings.next))
used_section settings tenant false present = sym (both_false (nat_lt tenant settings.next))

-- a shard that was opened for its tenants stands for no steps of theirs
pub opened_stands : (settings : SettingsData) (shard : ℕ) (members : List ℕ) (kept : List View) → AllPresent settings → members ≡ members_of settings shard
    → ShardStands (opened settings members) kept → ShardStands (lives_of settings no_steps shard) kept
opened_stands settings shard members kept present are stands tenant =
    let section : section_of settings members tenant ≡ section_in settings shard tenant = ap (λ ms. section_of settings ms tenant) are ∙ in_its_shard settings shard tenant in
    let used : is_some (section_in settings shard tenant) ≡ used_in settings shard tenant = used_section settings tenant (tenant % settings.global.shards == shard) (present tenant) in
    let one = subst (λ s. LifeStands (new_life s) (kept_of tenant kept) (was_of tenant kept)) section (stands tenant) in
    (one.0, sym used ∙ one.1)

-- one shard more, at the end
pub push_stands : (settings : SettingsData) (old new : List (List View)) (kept : List View) (n : ℕ) → length old ≡ n → new ≡ old ++ kept ∷ []
    → ((place : ℕ) (found : List View) → slice_get old place ≡ Some found → ShardStands (lives_of settings no_steps place) found)
    → ShardStands (lives_of settings no_steps n) kept
    → (place : ℕ) (found : List View) → slice_get new place ≡ Some found → ShardStands (lives_of settings no_steps place) found
push_stands settings old new kept n long is each last place found at = elim (cases_lt place (length old)) [
  | inl within ↦ each place found (sym (get_push_old old place kept within) ∙ sym (ap (λ l. slice_get l place) is) ∙ at)
  | inr past ↦
      let below = slice_get_within new place found at in
      let here : place ≡ n = omega (arith, ap length is, length-append old (kept ∷ [])) in
      let same : kept ≡ found = some_same _ kept found (get_push_last old kept)
      (subst (λ k. slice_get (old ++ kept ∷ []) k ≡ Some found) (here ∙ sym long) (sym (ap (λ l. slice_get l place) is) ∙ at)) in
      subst (λ k. ShardStands (lives_of settings no_steps k) found) (sym here) (subst (λ f. ShardStands (lives_of settings no_steps n) f) same last)
]

within_some : (tenants : List TenantData) (number : ℕ) → number < length tenants → is_some (option_map (λ (t : TenantData). t.section) (slice_get tenants number)) ≡ true
within_some [] number within = absurd (omega arith)
within_some (t ∷ ts) zero within = refl
within_some (t ∷ ts) (suc number) within = within_some ts number (omega arith)

stands_at : (tenants : List TenantData) (number next : ℕ) → next ≡ length tenants → is_some (option_map (λ (t : TenantData). t.section) (slice_get tenants number)) ≡ nat_lt number next
stands_at tenants number next long = elim (cases_lt number (length tenants)) [
  | inl within ↦
      let yes : nat_lt number next ≡ true = grind (arith, nat_tests) in
      within_some tenants number within ∙ sym yes
  | inr past ↦
      let no : nat_lt number next ≡ false = grind (arith, nat_tests) in
      ap (λ found. is_some (option_map (λ (t : TenantData). t.section) found)) (slice_get_past tenants number past) ∙ sym no
]

-- of the settings that a text means no tenant has left
pub all_present : (text : List ℕ) (settings : SettingsData) → settings_of text ≡ Ok settings → AllPresent settings
all_present text settings means number =
    let sound = settings_of-sound text settings means in
    ap (λ found. is_some (option_map (λ (t : TenantData). t.section) found)) (found_by_place settings number sound.numbers) ∙ stands_at settings.tenants number settings.next sound.next
