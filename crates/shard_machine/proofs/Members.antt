-- Who is a member, before and after a step.
use Rattle.std.proofs.Common.{◌≡◌, ℕ, List, [], ◌∷◌, ◌||◌, ◌&&◌, ◌⊎◌, inl, inr, Bool, true, false, eqb, Option, Some, None, is_some, refl, sym, ap, ◌∙◌}
use Rattle.std.proofs.lemmas.Bool.{cases_eq}
use Rattle.std.specs.Prelude.{option_map, if◌then◌else◌, ◌≢◌}
use Rattle.tail_settings.specs.Section.{SectionData}
use Rattle.tenant_rules.specs.State.{State}
use Rattle.tenant_shard.specs.declared.step.Step.{Step}
use Rattle.tenant_shard.specs.declared.step.Outcome.{Outcome}
use Rattle.tenant_shard.specs.View.{View, kept_of, was_of, StaysOf}
use Rattle.tenant_shard.specs.Outcomes.{OwnStep, Asked, Piped, Comes, asked_in, is_retirement, reports}
use Rattle.tenant_shard.specs.Refusal.{ShardRefuses}
use Rattle.tenant_shard.specs.Follows.{ShardFollows}
use Rattle.shard_machine.specs.Jitter.{start, TenantGenerator, generator_of}
use Rattle.shard_machine.specs.Drawing.{StepIsRefused}
use Rattle.shard_machine.specs.MachineState.{AreMembers}

-- ---- who is or was a member

next_kept : (b was : Bool) (here later : Option State) → (was ≡ false → later ≡ None) → (b || was) ≡ false → (if b then here else later) ≡ None
next_kept true was here later rest never = absurd (cc)
next_kept false was here later rest never = rest never

pub never_kept : (t : ℕ) (vs : List View) → was_of t vs ≡ false → kept_of t vs ≡ None
never_kept t [] never = refl
never_kept t (v ∷ vs) never = next_kept (eqb v.tenant t) (was_of t vs) v.kept (kept_of t vs) (never_kept t vs) never

-- ---- members that stay

-- just the same tenants are members
abbrev pub StayMembers : List View → List View → Type 0
StayMembers old new = (tenant : ℕ) → is_some (kept_of tenant new) ≡ is_some (kept_of tenant old)

pub stay_same : (old new : List View) → new ≡ old → StayMembers old new
stay_same old new same = λ tenant. ap (λ vs. is_some (kept_of tenant vs)) same

stay_but : (own : ℕ) (before after : State) (old new : List View) → kept_of own old ≡ Some before → kept_of own new ≡ Some after → ((other : ℕ) → other ≢ own → StaysOf other old new) → StayMembers old new
stay_but own before after old new was is_now others tenant = by (cases_eq tenant own)
  where
    by : (tenant ≡ own) ⊎ (tenant ≢ own) → is_some (kept_of tenant new) ≡ is_some (kept_of tenant old)
    by (inl same) = ap (λ t. is_some (kept_of t new)) same ∙ ap is_some is_now ∙ sym (ap is_some was) ∙ ap (λ t. is_some (kept_of t old)) (sym same)
    by (inr apart) = ap is_some (others tenant apart).0

-- what is asked of a pipeline is one thing
pub piped_is : (one other : OwnStep) → Piped one ≡ Piped other → one ≡ other
piped_is one other same = cc

pub never_comes : (asked : Asked) (step : OwnStep) (section : SectionData) → asked ≡ Piped step → asked ≡ Comes section → ⊥
never_comes asked step section one other = let never : Piped step ≡ Comes section = sym one ∙ other in absurd (cc)

-- a step of a pipeline that is no retirement leaves the members
pub members_stay : (step : Step) (old : List View) (o : Outcome) (new : List View) (asked : OwnStep) → asked_in step ≡ Piped asked → is_retirement asked.step ≡ false → ShardFollows step old o new → StayMembers old new
members_stay step old o new asked asks stays (inl n) = stay_same old new n.new_is
members_stay step old o new asked asks stays (inr (inl (t, m))) =
    let same : m.asked ≡ asked = piped_is m.asked asked (sym m.asks ∙ asks) in
    let still : is_retirement m.asked.step ≡ false = ap (λ (s : OwnStep). is_retirement s.step) same ∙ stays in
    let is_now : kept_of t new ≡ Some m.after = m.is_now ∙ ap (λ (b : Bool). if b && reports o then None else Some m.after) still in
    stay_but t m.before m.after old new m.was is_now m.others
members_stay step old o new asked asks stays (inr (inr (t, a))) = absurd (never_comes (asked_in step) asked a.whose.section asks a.whose.comes)

refused_stay : (step : Step) (old new : List View) → ShardRefuses step old new → StayMembers old new
refused_stay step old new (inl (t, r)) = stay_but t r.before r.after old new r.was r.is_now r.others
refused_stay step old new (inr n) = stay_same old new n.1

pub members_at_refusal : (step : Step) (old new : List View) → StepIsRefused step old new → StayMembers old new
members_at_refusal step old new (inl r) = refused_stay step old new r
members_at_refusal step old new (inr k) = stay_same old new k.1

-- ---- members and generators

pub are_still : (words words' : List TenantGenerator) (old new : List View) → AreMembers words old → ((tenant : ℕ) → is_some (generator_of tenant words') ≡ is_some (generator_of tenant words)) → StayMembers old new → AreMembers words' new
are_still words words' old new are same stay = λ tenant. same tenant ∙ are tenant ∙ sym (stay tenant)

pub with_same_words : (words words' : List TenantGenerator) (old new : List View) → AreMembers words old → words' ≡ words → StayMembers old new → AreMembers words' new
with_same_words words words' old new are same stay = are_still words words' old new are (λ tenant. ap (λ w. is_some (generator_of tenant w)) same) stay

-- one tenant has a generator and is a member, or is neither
pub with_one : (t : ℕ) (words words' : List TenantGenerator) (old new : List View) → AreMembers words old → is_some (generator_of t words') ≡ is_some (kept_of t new) → ((other : ℕ) → other ≢ t → generator_of other words' ≡ generator_of other words) → ((other : ℕ) → other ≢ t → StaysOf other old new)
    → AreMembers words' new
with_one t words words' old new are own words_stay views_stay tenant = by (cases_eq tenant t)
  where
    by : (tenant ≡ t) ⊎ (tenant ≢ t) → is_some (generator_of tenant words') ≡ is_some (kept_of tenant new)
    by (inl same) = ap (λ x. is_some (generator_of x words')) same ∙ own ∙ ap (λ x. is_some (kept_of x new)) (sym same)
    by (inr apart) = ap is_some (words_stay tenant apart) ∙ are tenant ∙ sym (ap is_some (views_stay tenant apart).0)

pub some_none : {X : Type 0} (o : Option X) → is_some o ≡ false → o ≡ None
some_none None is = refl
some_none (Some x) is = absurd (cc)

-- who is no member has no generator, and who has none is no member
pub no_words : (words : List TenantGenerator) (views : List View) (tenant : ℕ) → AreMembers words views → kept_of tenant views ≡ None → generator_of tenant words ≡ None
no_words words views tenant are none = some_none (generator_of tenant words) (are tenant ∙ ap is_some none)

pub no_member : (words : List TenantGenerator) (views : List View) (tenant : ℕ) → AreMembers words views → generator_of tenant words ≡ None → kept_of tenant views ≡ None
no_member words views tenant are none = some_none (kept_of tenant views) (sym (are tenant) ∙ ap is_some none)

-- ---- at first

mapped : (section : Option SectionData) → is_some (option_map (λ (s : SectionData). start s.seed) section) ≡ is_some section
mapped None = refl
mapped (Some section) = refl
