-- The shards stand for the own steps after a step of one of them.
use Rattle.std.proofs.Common.{◌≡◌, ◌≢◌, ◌%◌, ◌+◌, ◌==◌, ◌&&◌, ◌||◌, ◌⊎◌, ℕ, Bool, true, false, cond, nat_lt, List, [], ◌∷◌, length, set, Option, Some, None, refl, ap, sym, subst, ◌∙◌, arith, inl, inr}
use Rattle.std.specs.List.{slice_get}
use Rattle.std.specs.Option.{option_map}
use Rattle.std.proofs.lemmas.Bool.{ne_eqb, eq-eqb}
use Rattle.std.proofs.lemmas.Bool.Decides.{eqb_tells, nat_tests}
use Rattle.std.proofs.lemmas.List.{length-set}
use Rattle.std.proofs.lemmas.Option.{slice_get_within}
use Rattle.tail_settings.specs.Change.{joined, struck}
use Rattle.tail_settings.specs.Section.{SectionData, section_view}
use Rattle.tail_settings.specs.Settings.{SettingsData, TenantData, section_at}
use Rattle.tenant_rules.specs.Own.{Own}
use Rattle.tenant_rules.specs.Own as own
use Rattle.tenant_rules.specs.State.{State}
use Rattle.tenant_shard.specs.declared.step.Step.{Step}
use Rattle.tenant_shard.specs.declared.step.Step.TheVariants as steps
use Rattle.tenant_shard.specs.declared.step.Outcome.{Outcome}
use Rattle.tenant_shard.specs.declared.step.Outcome.TheVariants.{Reply, Job, Worked, Idle, Done, Report, Refused}
use Rattle.tenant_shard.specs.View.{View, kept_of, was_of}
use Rattle.tenant_shard.specs.Lives.{Life, Lives, gone, new_life, MemberStands, LifeStands, ShardStands}
use Rattle.tenant_shard.specs.Outcomes.{OwnStep, plain, Asked, Piped, asked_in, named_in, is_taken, is_tenant, whose, reports, has_left, is_retirement}
use Rattle.tenant_shard.specs.Run.{ShardSteps, IsOutcomeOf, lived_by, lived, after}
use Rattle.trace_collector.specs.Outcomes.{outcome_text}
use Rattle.trace_collector.specs.Session.{new_among}
use Rattle.trace_collector.specs.Answered.{section_in, used_in, lives_of, recorded, IsStep, IsStepped, without}
use Rattle.trace_collector.specs.Answered.{joined as past_joined}
use Rattle.trace_collector.specs.Standing.{AllStand, IsDone, Joins}
use Rattle.trace_collector.proofs.Named.{others_joined, others_struck, struck_gone}
use Rattle.trace_collector.proofs.Places.{get_set_same, get_set_other}

-- ---- what a shard stands for, said of another life

-- of who is no member the past says nothing
nothing_stands : (past later : List Own) (known : Bool) (kept : Option State) → MemberStands None past known kept → MemberStands None later known kept
nothing_stands past later known None stands = stands
nothing_stands past later known (Some kept) stands = stands

-- a life is as another for what a shard keeps: the same, but for the past of who is no member
record IsAs (a b : Life) : Type 0 where
  section : a.section ≡ b.section
  used : a.used ≡ b.used
  known : a.known ≡ b.known
  past : (a.past ≡ b.past) ⊎ (b.section ≡ None)

as_stands : (a b : Life) (kept : Option State) (was : Bool) → IsAs a b → LifeStands a kept was → LifeStands b kept was
as_stands a b kept was is stands =
    let of_section = subst (λ s. MemberStands s a.past a.known kept) is.section stands.0 in
    let of_known = subst (λ k. MemberStands b.section a.past k kept) is.known of_section in (
      elim is.past [
        | inl same ↦ subst (λ p. MemberStands b.section p b.known kept) same of_known
        | inr none ↦ subst (λ s. MemberStands s b.past b.known kept) (sym none) (nothing_stands a.past b.past b.known kept (subst (λ s. MemberStands s a.past b.known kept) none of_known))
      ],
      sym is.used ∙ stands.1,
    )

shard_stands : (old new : Lives) (kept : List View) → ((tenant : ℕ) → IsAs (old tenant) (new tenant)) → ShardStands old kept → ShardStands new kept
shard_stands old new kept is stands tenant = as_stands (old tenant) (new tenant) (kept_of tenant kept) (was_of tenant kept) (is tenant) (stands tenant)

same_kept : (a : Option (List View)) (kept left : List View) → a ≡ Some left → a ≡ Some kept → left ≡ kept
same_kept a kept left e f = let same : ◌≡◌ {A = Option (List View)} (Some left) (Some kept) = sym e ∙ f in cc

-- one shard did a step, and the settings and the own steps came to be these
module _ (settings later_settings : SettingsData) (pasts later : ℕ → List Own) (old new : List (List View)) (shard : ℕ) (step : Step) (outcome : Outcome) (kept left : List View)
    (all : AllStand settings old pasts) (was : slice_get old shard ≡ Some kept) (done : ShardSteps step kept outcome left) (is_now : new ≡ set old shard left)
    (as_many : later_settings.global.shards ≡ settings.global.shards)
    (its_own : (tenant : ℕ) → IsAs (after step outcome (lives_of settings pasts shard) tenant) (lives_of later_settings later shard tenant))
    (of_others : (other tenant : ℕ) → other ≢ shard → IsAs (lives_of settings pasts other tenant) (lives_of later_settings later other tenant)) where
  each_stands : (other : ℕ) (found : List View) → slice_get (set old shard left) other ≡ Some found → ShardStands (lives_of later_settings later other) found
  each_stands other found at = elim (eqb_tells other shard) [
    | inl here ↦
        let within = slice_get_within old shard kept was in
        let same : left ≡ found = same_kept (slice_get (set old shard left) shard) found left (get_set_same old shard left within)
        (subst (λ k. slice_get (set old shard left) k ≡ Some found) here.1 at) in
        let stands = (done.stands (lives_of settings pasts shard) (all.each shard kept was)).1 in
        subst (λ k. ShardStands (lives_of later_settings later k) found) (sym here.1)
        (subst (λ f. ShardStands (lives_of later_settings later shard) f) same
        (shard_stands (after step outcome (lives_of settings pasts shard)) (lives_of later_settings later shard) left its_own stands))
    | inr there ↦
        shard_stands (lives_of settings pasts other) (lives_of later_settings later other) found (λ tenant. of_others other tenant there.1)
        (all.each other found (sym (get_set_other old shard other left there.1) ∙ at))
  ]

  all_stand : AllStand later_settings new later
  all_stand = record {
    count = ap length is_now ∙ length-set old shard left ∙ all.count ∙ sym as_many;
    each = λ other found at. each_stands other found (subst (λ l. slice_get l other ≡ Some found) is_now at);
  }

-- ---- a step after which nobody leaves

-- it joins the past of the member whose it is
life_after : (section : Option SectionData) (step : OwnStep) (reported : Bool) (life : Life) → life.section ≡ section → has_left step.step reported ≡ false
    → IsAs (lived_by section step reported life) (record life { past = recorded section step life.past })
life_after None step reported life is stays = record { section = refl; used = refl; known = refl; past = inl refl }
life_after (Some section) step reported life is stays = by (is_taken section step) (has_left step.step reported) stays
  where
    by : (b left : Bool) → left ≡ false → IsAs (cond b (cond left gone (record life { past = step.step ∷ life.past })) life) (record life { past = cond b (step.step ∷ life.past) life.past })
    by true true never = absurd (cc)
    by true false stays = record { section = refl; used = refl; known = refl; past = inl refl }
    by false left stays = record { section = refl; used = refl; known = refl; past = inl refl }

own_after : (settings : SettingsData) (pasts : ℕ → List Own) (shard tenant : ℕ) (step : OwnStep) (reported b : Bool) → has_left step.step reported ≡ false
    → IsAs (cond b (lived (Piped step) reported (lives_of settings pasts shard tenant)) (lives_of settings pasts shard tenant))
    (record (lives_of settings pasts shard tenant) { past = cond b (recorded (section_in settings shard tenant) step (pasts tenant)) (pasts tenant) })
own_after settings pasts shard tenant step reported true stays = life_after (section_in settings shard tenant) step reported (lives_of settings pasts shard tenant) refl stays
own_after settings pasts shard tenant step reported false stays = record { section = refl; used = refl; known = refl; past = inl refl }

-- a tenant of another shard has no new step
same_either_way : (own : Bool) (past : List Own) → cond own past past ≡ past
same_either_way true past = refl
same_either_way false past = refl

other_past : (tenant shards shard other : ℕ) (section later : Option SectionData) (own : Bool) (step : OwnStep) (past : List Own) → other ≢ shard
    → (past ≡ cond own (recorded (cond (tenant % shards == shard) section None) step past) past) ⊎ (cond (tenant % shards == other) later None ≡ None)
other_past tenant shards shard other section later own step past apart = elim (eqb_tells (tenant % shards) shard) [
  | inl here ↦
      let elsewhere : tenant % shards ≢ other = λ e. apart (sym e ∙ here.1) in
      inr (rw (ne_eqb (tenant % shards) other elsewhere) refl)
  | inr there ↦ inl (rw there.0 (sym (same_either_way own past)))
]

asked_after : (step : Step) (outcome : Outcome) (lives : Lives) (tenant : ℕ) (asked : Asked) → asked_in step ≡ asked
    → after step outcome lives tenant ≡ cond (is_tenant tenant (whose (named_in step) outcome)) (lived asked (reports outcome) (lives tenant)) (lives tenant)
asked_after step outcome lives tenant asked is = ap (λ a. cond (is_tenant tenant (whose (named_in step) outcome)) (lived a (reports outcome) (lives tenant)) (lives tenant)) is

no_retirement : (step : Own) (reported : Bool) → is_retirement step ≡ false → has_left step reported ≡ false
no_retirement step reported is = ap (λ b. b && reported) is

module _ (settings : SettingsData) (pasts : ℕ → List Own) (old new : List (List View)) (shard : ℕ) (step : Step) (own : OwnStep) (before behind : List ℕ)
    (asked : asked_in step ≡ Piped own) (all : AllStand settings old pasts) (done : IsDone settings shard step old new before behind) where
  abbrev pub pasts_after : ℕ → List Own
  pasts_after = past_joined (named_in step) own done.outcome (lives_of settings pasts shard)

  is_step : IsStep settings pasts shard (named_in step) own done.outcome (Some (outcome_text settings shard done.outcome)) pasts_after
  is_step =
      let next = done.steps.by_own_steps (lives_of settings pasts shard) (all.each shard done.kept done.was) (λ tenant. refl) in
      (subst (λ a. IsOutcomeOf (named_in step) (lives_of settings pasts shard) [] a done.outcome) asked next, refl, refl)

  stays_stands : has_left own.step (reports done.outcome) ≡ false → AllStand settings new pasts_after
  stays_stands stays =
      all_stand settings settings pasts pasts_after old new shard step done.outcome done.kept done.left all done.was done.steps done.is_now refl
      (λ tenant.
      subst (λ life. IsAs life (lives_of settings pasts_after shard tenant)) (sym (asked_after step done.outcome (lives_of settings pasts shard) tenant (Piped own) asked))
      (own_after settings pasts shard tenant own (reports done.outcome) (is_tenant tenant (whose (named_in step) done.outcome)) stays))
      (λ other tenant apart. record {
        section = refl;
        used = refl;
        known = refl;
        past = other_past tenant settings.global.shards shard other (section_at settings tenant) (section_at settings tenant) (is_tenant tenant (whose (named_in step) done.outcome)) own (pasts tenant) apart;
      })

-- the step is the shard's next, and all shards stand for the own steps with it
pub stands_after : (settings : SettingsData) (pasts : ℕ → List Own) (old new : List (List View)) (shard : ℕ) (step : Step) (own : OwnStep) (before behind : List ℕ)
    → asked_in step ≡ Piped own → is_retirement own.step ≡ false → AllStand settings old pasts → (done : IsDone settings shard step old new before behind)
    → (later : ℕ → List Own) × IsStepped settings pasts shard (named_in step) own (Some (outcome_text settings shard done.outcome)) later × AllStand settings new later
stands_after settings pasts old new shard step own before behind asked stays all done = (
  past_joined (named_in step) own done.outcome (lives_of settings pasts shard),
  (done.outcome, is_step settings pasts old new shard step own before behind asked all done),
  stays_stands settings pasts old new shard step own before behind asked all done (no_retirement own.step (reports done.outcome) stays),
)

-- ---- a retirement

was_some : (tenant : ℕ) (views : List View) (b : Bool) → was_of tenant views ≡ b → b ≡ false → kept_of tenant views ≡ None
was_some tenant [] b is none = refl
was_some tenant (view ∷ views) b is none = by (view.tenant == tenant) is (λ rest. was_some tenant views b rest none)
  where
    by : (c : Bool) → (c || was_of tenant views) ≡ b → (was_of tenant views ≡ b → kept_of tenant views ≡ None) → cond c view.kept (kept_of tenant views) ≡ None
    by true is rest = absurd (cc)
    by false is rest = rest is

-- who is a member was let in
member_used : (section : SectionData) (past : List Own) (tenant : ℕ) (views : List View) (b : Bool) → was_of tenant views ≡ b → MemberStands (Some section) past true (kept_of tenant views) → b ≡ true
member_used section past tenant views true is stands = refl
member_used section past tenant views false is stands =
    absurd (subst (λ k. MemberStands (Some section) past true k) (was_some tenant views false is refl) stands)

own_used : (settings : SettingsData) (pasts : ℕ → List Own) (shard tenant : ℕ) (views : List View) (section : SectionData) → section_in settings shard tenant ≡ Some section
    → LifeStands (lives_of settings pasts shard tenant) (kept_of tenant views) (was_of tenant views) → used_in settings shard tenant ≡ true
own_used settings pasts shard tenant views section is stands =
    stands.1 ∙ member_used section (pasts tenant) tenant views (was_of tenant views) refl (subst (λ s. MemberStands s (pasts tenant) true (kept_of tenant views)) is stands.0)

none_in : (b : Bool) (found : Option SectionData) → found ≡ None → cond b found None ≡ None
none_in true found is = is
none_in false found is = refl

-- the settings without it
module _ (settings : SettingsData) (pasts : ℕ → List Own) (shard gone_tenant moment : ℕ) (views : List View) where
  abbrev own_step : OwnStep
  own_step = plain (own.Retire moment)

  section_gone : section_in (struck settings gone_tenant) shard gone_tenant ≡ None
  section_gone = none_in (gone_tenant % settings.global.shards == shard) (section_at (struck settings gone_tenant) gone_tenant) (ap (option_map (λ t. t.section)) (struck_gone settings gone_tenant))

  section_stays : (other tenant : ℕ) → tenant ≢ gone_tenant → section_in settings other tenant ≡ section_in (struck settings gone_tenant) other tenant
  section_stays other tenant apart =
      ap (λ found. cond (tenant % settings.global.shards == other) (option_map (λ t. t.section) found) None) (sym (others_struck settings gone_tenant tenant apart))

  gone_as : (section : Option SectionData) (past : List Own) → section_in settings shard gone_tenant ≡ section → LifeStands (lives_of settings pasts shard gone_tenant) (kept_of gone_tenant views) (was_of gone_tenant views)
      → IsAs (lived_by section (plain (own.Retire moment)) true (lives_of settings pasts shard gone_tenant))
      (record { section = section_in (struck settings gone_tenant) shard gone_tenant; past = past; known = true; used = used_in settings shard gone_tenant })
  gone_as None past is stands = record { section = is ∙ sym section_gone; used = refl; known = refl; past = inr section_gone }
  gone_as (Some section) past is stands =
      record { section = sym section_gone; used = sym (own_used settings pasts shard gone_tenant views section is stands); known = refl; past = inr section_gone }

  retired_as : (later : ℕ → List Own) (tenant : ℕ) → ((other : ℕ) → other ≢ gone_tenant → later other ≡ pasts other)
      → LifeStands (lives_of settings pasts shard gone_tenant) (kept_of gone_tenant views) (was_of gone_tenant views)
      → IsAs (cond (gone_tenant == tenant) (lived (Piped (plain (own.Retire moment))) true (lives_of settings pasts shard tenant)) (lives_of settings pasts shard tenant))
      (lives_of (struck settings gone_tenant) later shard tenant)
  retired_as later tenant others stands = elim (eqb_tells gone_tenant tenant) [
    | inl here ↦
        subst (λ k. IsAs (cond (gone_tenant == k) (lived (Piped (plain (own.Retire moment))) true (lives_of settings pasts shard k)) (lives_of settings pasts shard k))
        (lives_of (struck settings gone_tenant) later shard k)) here.1
        (let yes : (gone_tenant == gone_tenant) ≡ true = eq-eqb gone_tenant gone_tenant refl in
        rw yes (gone_as (section_in settings shard gone_tenant) (later gone_tenant) refl stands))
    | inr there ↦
        let apart : tenant ≢ gone_tenant = λ e. there.1 (sym e) in
        rw there.0 (record { section = section_stays shard tenant apart; used = refl; known = refl; past = inl (sym (others tenant apart)) })
  ]

  elsewhere_as : (later : ℕ → List Own) (other tenant : ℕ) → gone_tenant % settings.global.shards ≡ shard → other ≢ shard → ((k : ℕ) → k ≢ gone_tenant → later k ≡ pasts k)
      → IsAs (lives_of settings pasts other tenant) (lives_of (struck settings gone_tenant) later other tenant)
  elsewhere_as later other tenant its apart others = elim (eqb_tells tenant gone_tenant) [
    | inl here ↦
        let elsewhere : (gone_tenant % settings.global.shards == other) ≡ false = ne_eqb (gone_tenant % settings.global.shards) other (λ e. apart (sym e ∙ its)) in
        let none : (found : Option SectionData) → cond (gone_tenant % settings.global.shards == other) found None ≡ None = λ found. rw elsewhere refl in
        subst (λ k. IsAs (lives_of settings pasts other k) (lives_of (struck settings gone_tenant) later other k)) (sym here.1) (record {
          section = none (section_at settings gone_tenant) ∙ sym (none (section_at (struck settings gone_tenant) gone_tenant));
          used = refl;
          known = refl;
          past = inr (none (section_at (struck settings gone_tenant) gone_tenant));
        })
    | inr there ↦ record { section = section_stays other tenant there.1; used = refl; known = refl; past = inl (sym (others tenant there.1)) }
  ]

others_joined_past : (lives : Lives) (tenant : ℕ) (step : OwnStep) (outcome : Outcome) (other : ℕ) → other ≢ tenant → past_joined (Some tenant) step outcome lives other ≡ (lives other).past
others_joined_past lives tenant step outcome other apart =
    let is_not : (tenant == other) ≡ false = ne_eqb tenant other (λ e. apart (sym e)) in
    rw is_not refl

-- a retirement was done
module _ (settings : SettingsData) (pasts : ℕ → List Own) (old new : List (List View)) (tenant moment : ℕ) (before behind : List ℕ) (all : AllStand settings old pasts)
    (done : IsDone settings (tenant % settings.global.shards) (steps.Retire tenant moment) old new before behind) where
  abbrev later_of : Outcome → ℕ → List Own
  later_of outcome = past_joined (Some tenant) (plain (own.Retire moment)) outcome (lives_of settings pasts (tenant % settings.global.shards))

  keeps : (outcome : Outcome) → done.outcome ≡ outcome → reports outcome ≡ false → AllStand settings new (later_of outcome)
  keeps outcome is none =
      subst (λ o. AllStand settings new (later_of o)) is
      (stays_stands settings pasts old new (tenant % settings.global.shards) (steps.Retire tenant moment) (plain (own.Retire moment)) before behind refl all done (ap reports is ∙ none))

  by_outcome : (outcome : Outcome) → done.outcome ≡ outcome → AllStand (without tenant outcome settings) new (later_of outcome)
  by_outcome (Reply whom reply) is = keeps (Reply whom reply) is refl
  by_outcome (Job whom ticket payload) is = keeps (Job whom ticket payload) is refl
  by_outcome (Worked whom) is = keeps (Worked whom) is refl
  by_outcome Idle is = keeps Idle is refl
  by_outcome (Done whom) is = keeps (Done whom) is refl
  by_outcome (Refused whom number) is = keeps (Refused whom number) is refl
  by_outcome (Report whom report) is =
      let steps_so = subst (λ o. ShardSteps (steps.Retire tenant moment) done.kept o done.left) is done.steps in
      all_stand settings (struck settings tenant) pasts (later_of (Report whom report)) old new (tenant % settings.global.shards) (steps.Retire tenant moment) (Report whom report) done.kept done.left all done.was steps_so done.is_now refl
      (λ other.
      retired_as settings pasts (tenant % settings.global.shards) tenant moment done.kept (later_of (Report whom report)) other
      (λ k apart. others_joined_past (lives_of settings pasts (tenant % settings.global.shards)) tenant (plain (own.Retire moment)) (Report whom report) k apart)
      (all.each (tenant % settings.global.shards) done.kept done.was tenant))
      (λ other k apart.
      elsewhere_as settings pasts (tenant % settings.global.shards) tenant moment done.kept (later_of (Report whom report)) other k refl apart
      (λ j away. others_joined_past (lives_of settings pasts (tenant % settings.global.shards)) tenant (plain (own.Retire moment)) (Report whom report) j away))

  pub stands_retired : (later : ℕ → List Own) × IsStep settings pasts (tenant % settings.global.shards) (Some tenant) (plain (own.Retire moment)) done.outcome
      (Some (outcome_text settings (tenant % settings.global.shards) done.outcome)) later × AllStand (without tenant done.outcome settings) new later
  stands_retired = (
    later_of done.outcome,
    is_step settings pasts old new (tenant % settings.global.shards) (steps.Retire tenant moment) (plain (own.Retire moment)) before behind refl all done,
    by_outcome done.outcome refl,
  )

-- ---- a tenant that comes

next_below : (number tenant : ℕ) → tenant ≢ number → nat_lt tenant number ≡ nat_lt tenant (number + 1)
next_below number tenant apart = by (nat_lt tenant number) (nat_lt tenant (number + 1)) refl refl
  where
    by : (a b : Bool) → nat_lt tenant number ≡ a → nat_lt tenant (number + 1) ≡ b → a ≡ b
    by true true one two = refl
    by false false one two = refl
    by true false one two = absurd (let no : ⊥ = grind (arith, nat_tests) in no)
    by false true one two = absurd (let no : ⊥ = grind (arith, nat_tests) in no)

not_below : (number : ℕ) (b : Bool) → (nat_lt number number && b) ≡ false
not_below number b = let no : nat_lt number number ≡ false = grind (arith, nat_tests) in rw no refl

is_below : (number : ℕ) (b : Bool) → b ≡ true → (nat_lt number (number + 1) && b) ≡ true
is_below number b is = let yes : nat_lt number (number + 1) ≡ true = grind (arith, nat_tests) in rw yes is

nor : (a b : Bool) → b ≡ false → (a && b) ≡ false
nor true b none = none
nor false b none = refl

module _ (settings : SettingsData) (tenant : TenantData) (pasts : ℕ → List Own) (shard number : ℕ) (section : SectionData)
    (its : tenant.number ≡ number) (next : settings.next ≡ number) (own_shard : number % settings.global.shards ≡ shard) (own : section_at (joined settings tenant) number ≡ Some section) where
  section_same : (other k : ℕ) → k ≢ number → section_in settings other k ≡ section_in (joined settings tenant) other k
  section_same other k apart =
      ap (λ found. cond (k % settings.global.shards == other) (option_map (λ t. t.section) found) None) (sym (others_joined settings tenant k (λ e. apart (sym e ∙ its))))

  used_same : (other k : ℕ) → k ≢ number → used_in settings other k ≡ used_in (joined settings tenant) other k
  used_same other k apart = ap (λ b. b && (k % settings.global.shards == other)) (next_below settings.next k (λ e. apart (e ∙ next)))

  past_same : (k : ℕ) → k ≢ number → pasts k ≡ new_among pasts settings.next k
  past_same k apart = let is_not : (k == settings.next) ≡ false = ne_eqb k settings.next (λ e. apart (e ∙ next)) in rw is_not refl

  other_as : (other k : ℕ) → k ≢ number → IsAs (lives_of settings pasts other k) (lives_of (joined settings tenant) (new_among pasts settings.next) other k)
  other_as other k apart = record { section = section_same other k apart; used = used_same other k apart; known = refl; past = inl (past_same k apart) }

  its_shard : (number % settings.global.shards == shard) ≡ true
  its_shard = eq-eqb (number % settings.global.shards) shard own_shard

  newcomer_as : IsAs (cond (used_in settings shard number) (lives_of settings pasts shard number) (new_life (Some section))) (lives_of (joined settings tenant) (new_among pasts settings.next) shard number)
  newcomer_as =
      let unused : used_in settings shard number ≡ false = subst (λ k. used_in settings shard k ≡ false) next (not_below settings.next (settings.next % settings.global.shards == shard)) in
      let used : used_in (joined settings tenant) shard number ≡ true =
      subst (λ k. (nat_lt number (k + 1) && (number % settings.global.shards == shard)) ≡ true) (sym next) (is_below number (number % settings.global.shards == shard) its_shard) in
      let past : new_among pasts settings.next number ≡ [] = let same : (number == settings.next) ≡ true = eq-eqb number settings.next (sym next) in rw same refl in
      let present : section_in (joined settings tenant) shard number ≡ Some section = rw its_shard own in
      rw unused (record { section = sym present; used = sym used; known = refl; past = inl (sym past) })

  came_as : (k : ℕ) → IsAs (cond (number == k) (cond (used_in settings shard k) (lives_of settings pasts shard k) (new_life (Some section))) (lives_of settings pasts shard k))
      (lives_of (joined settings tenant) (new_among pasts settings.next) shard k)
  came_as k = elim (eqb_tells number k) [
    | inl here ↦
        subst (λ j. IsAs (cond (number == j) (cond (used_in settings shard j) (lives_of settings pasts shard j) (new_life (Some section))) (lives_of settings pasts shard j))
        (lives_of (joined settings tenant) (new_among pasts settings.next) shard j)) here.1
        (let yes : (number == number) ≡ true = eq-eqb number number refl in rw yes newcomer_as)
    | inr there ↦ rw there.0 (other_as shard k (λ e. there.1 (sym e)))
  ]

  came_elsewhere : (other k : ℕ) → other ≢ shard → IsAs (lives_of settings pasts other k) (lives_of (joined settings tenant) (new_among pasts settings.next) other k)
  came_elsewhere other k apart = elim (eqb_tells k number) [
    | inl here ↦
        let elsewhere : (number % settings.global.shards == other) ≡ false = ne_eqb (number % settings.global.shards) other (λ e. apart (sym e ∙ own_shard)) in
        let none : (found : Option SectionData) → cond (number % settings.global.shards == other) found None ≡ None = λ found. rw elsewhere refl in
        subst (λ j. IsAs (lives_of settings pasts other j) (lives_of (joined settings tenant) (new_among pasts settings.next) other j)) (sym here.1) (record {
          section = none (section_at settings number) ∙ sym (none (section_at (joined settings tenant) number));
          used = nor (nat_lt number settings.next) (number % settings.global.shards == other) elsewhere ∙ sym (nor (nat_lt number (settings.next + 1)) (number % settings.global.shards == other) elsewhere);
          known = refl;
          past = inr (none (section_at (joined settings tenant) number));
        })
    | inr there ↦ other_as other k there.1
  ]

-- it joined its shard
pub stands_joined : (settings : SettingsData) (tenant : TenantData) (pasts : ℕ → List Own) (old new : List (List View)) (number : ℕ) (before behind : List ℕ) → tenant.number ≡ number → settings.next ≡ number
    → AllStand settings old pasts → Joins (joined settings tenant) number old new before behind → AllStand (joined settings tenant) new (new_among pasts settings.next)
stands_joined settings tenant pasts old new number before behind its next all joins =
    let shard = number % settings.global.shards in
    all_stand settings (joined settings tenant) pasts (new_among pasts settings.next) old new (number % settings.global.shards) (steps.Add number joins.section) joins.outcome joins.kept joins.left all joins.was joins.steps joins.is_now refl
    (came_as settings tenant pasts (number % settings.global.shards) number (section_view joins.section) its next refl joins.own)
    (came_elsewhere settings tenant pasts (number % settings.global.shards) number (section_view joins.section) its next refl joins.own)
