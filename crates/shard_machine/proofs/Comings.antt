-- Tenants that come and go.
use Rattle.std.proofs.Common.{◌≡◌, ℕ, List, [], ◌&&◌, inl, inr, Bool, true, false, not, Some, None, is_some, Result, Ok, Err, refl, sym, ap, ◌∙◌, subst}
use Rattle.std.specs.Prelude.{IfOk, OnOk, OnErr, is_none, if◌then◌else◌, ◌≢◌}
use Rattle.send_retry.specs.Class.{answer_view}
use Rattle.tail_settings.specs.declared.section.Section.{Section}
use Rattle.tail_settings.specs.Section.{SectionData, section_view}
use Rattle.tenant_rules.specs.Own as own
use Rattle.tenant_rules.specs.State.{State, state}
use Rattle.tenant_shard.specs.declared.step.Step.{Step}
use Rattle.tenant_shard.specs.declared.step.Step.TheVariants as steps
use Rattle.tenant_shard.specs.declared.step.Outcome.{Outcome}
use Rattle.tenant_shard.specs.declared.step.Outcome.TheVariants.{Done, Refused}
use Rattle.tenant_shard.specs.View.{View, kept_of, was_of, StaysOf}
use Rattle.tenant_shard.specs.Outcomes.{OwnStep, Piped, Comes, plain, own_post, asked_in, reports, is_retirement, number_used}
use Rattle.tenant_shard.specs.Refusal.{ShardRefuses}
use Rattle.tenant_shard.specs.Follows.{ShardFollows}
use Rattle.shard_machine.specs.Jitter.{TenantGenerator, generator_of, without, IsSeeded, IsRemoved}
use Rattle.shard_machine.specs.Drawing.{is_let_in, IsTriedFor, IsTried, IsSettled, StepIsRefused}
use Rattle.shard_machine.specs.MachineState.{ComesIn, Retires, GeneratorsGoOn, AreMembers, lets_in}
use Rattle.shard_machine.proofs.Members.{never_kept, stay_same, members_stay, members_at_refusal, with_same_words, with_one, no_words, piped_is, never_comes}
use Rattle.shard_machine.proofs.Going.{members_refused}

some_same : (one other : ℕ) → Some one ≡ Some other → one ≡ other
some_same one other same = cc

comes_same : (one other : SectionData) → Comes one ≡ Comes other → one ≡ other
comes_same one other same = cc

-- ---- a tenant comes

undo : (t : ℕ) (words tried left : List TenantGenerator) (newly : Bool) → (newly ≡ true → without t tried ≡ words) → (newly ≡ false → tried ≡ words) → left ≡ (if newly && true then without t tried else tried) → left ≡ words
undo t words tried left true undone had_one is = is ∙ undone refl
undo t words tried left false undone had_one is = is ∙ had_one refl

keep : (t : ℕ) (tried left : List TenantGenerator) (newly : Bool) → left ≡ (if newly && false then without t tried else tried) → left ≡ tried
keep t tried left true is = is
keep t tried left false is = is

module _ (t : ℕ) (section : Section) (words tried left : List TenantGenerator) (newly : Bool) (views views' : List View) (are : AreMembers words views) (tries : IsTriedFor t section.seed words newly tried) where
  -- it is or was a member
  kept_out : (o : Outcome) → o ≡ Refused t number_used → views' ≡ views → left ≡ (if newly && not (lets_in o) then without t tried else tried) → ComesIn t section.seed (lets_in o) words left × AreMembers left views'
  kept_out o is same left_is =
      let out : lets_in o ≡ false = ap lets_in is in
      let back : left ≡ words = undo t words tried left newly tries.undone tries.had_one (left_is ∙ ap (λ b. if newly && not b then without t tried else tried) out) in (
        subst (λ b. ComesIn t section.seed b words left) (sym out) back,
        with_same_words words left views views' are back (stay_same views views' same),
      )

  -- it is let in
  let_in : (o : Outcome) (u : ℕ) → t ≡ u → o ≡ Done u → was_of u views ≡ false → kept_of u views' ≡ Some (state (section_view section) []) → ((other : ℕ) → other ≢ u → StaysOf other views views')
      → left ≡ (if newly && not (lets_in o) then without t tried else tried) → ComesIn t section.seed (lets_in o) words left × AreMembers left views'
  let_in o u same is never is_now others left_is =
      let here : lets_in o ≡ true = ap lets_in is in
      let stays : left ≡ tried = keep t tried left newly (left_is ∙ ap (λ b. if newly && not b then without t tried else tried) here) in
      let none : generator_of t words ≡ None = no_words words views t are (ap (λ x. kept_of x views) same ∙ never_kept u views never) in
      let seeded : IsSeeded t section.seed words left = subst (λ w. IsSeeded t section.seed words w) (sym stays) tries.seeded in
      let own : is_some (generator_of t left) ≡ is_some (kept_of t views') = ap is_some seeded.own ∙ sym (ap is_some is_now) ∙ ap (λ x. is_some (kept_of x views')) (sym same) in (
        subst (λ b. ComesIn t section.seed b words left) (sym here) (none, seeded),
        with_one t words left views views' are own seeded.others (subst (λ x. (other : ℕ) → other ≢ x → StaysOf other views views') (sym same) others),
      )

  comes : (o : Outcome) → ShardFollows (steps.Add t section) views o views' → left ≡ (if newly && not (lets_in o) then without t tried else tried) → ComesIn t section.seed (lets_in o) words left × AreMembers left views'
  comes o (inl n) left_is = kept_out o n.outcome_is n.new_is left_is
  comes o (inr (inl m)) left_is = absurd m.1.whose
  comes o (inr (inr (u, a))) left_is =
      let is_now : kept_of u views' ≡ Some (state (section_view section) []) = a.change.is_now ∙ ap (λ s. Some (state s [])) (sym (comes_same (section_view section) a.whose.section a.whose.comes)) in
      let_in o u (some_same t u a.whose.names) a.outcome_is a.whose.is_new is_now a.change.others left_is

  refused : StepIsRefused (steps.Add t section) views views' → left ≡ (if newly && true then without t tried else tried) → (left ≡ words) × AreMembers left views'
  refused is left_is =
      let back : left ≡ words = undo t words tried left newly tries.undone tries.had_one left_is in
      (back, with_same_words words left views views' are back (members_at_refusal (steps.Add t section) views views' is))

-- what came of it
pub record Came {E : Type 0} (step : Step) (words : List TenantGenerator) (views : List View) (told : Result Outcome E) (words' : List TenantGenerator) (views' : List View) : Type 0 where
  pub go_on : IfOk told (λ o. GeneratorsGoOn step o words words')
  pub kept : OnErr told (words' ≡ words)
  pub members : AreMembers words' views'

came : {E : Type 0} (step : Step) (t : ℕ) (section : Section) (words tried left : List TenantGenerator) (newly : Bool) (views views' : List View) (told : Result Outcome E) → step ≡ steps.Add t section → AreMembers words views → IsTriedFor t section.seed words newly tried
    → IfOk told (λ o. ShardFollows step views o views') → OnErr told (ShardRefuses step views views') → left ≡ (if newly && not (is_let_in told) then without t tried else tried) → Came step words views told left views'
came step t section words tried left newly views views' (Ok o) is are tries follows refuses left_is =
    let r = comes t section words tried left newly views views' are tries o (subst (λ s. ShardFollows s views o views') is follows) left_is in
    record { go_on = subst (λ s. GeneratorsGoOn s o words left) (sym is) r.0; kept = tt; members = r.1 }
came step t section words tried left newly views views' (Err fault) is are tries follows refuses left_is =
    let r = refused t section words tried left newly views views' are tries (inl (subst (λ s. ShardRefuses s views views') is refuses)) left_is in
    record { go_on = tt; kept = r.0; members = r.1 }

-- ---- a tenant is to go

-- its generator went, where it was told its counters
pub record IsDismissed (t : ℕ) (words : List TenantGenerator) (leaves : Bool) (left : List TenantGenerator) : Type 0 where
  pub removed : leaves ≡ true → IsRemoved t words left
  pub others : leaves ≡ false → left ≡ words

module _ (t now : ℕ) (words left : List TenantGenerator) (views views' : List View) (are : AreMembers words views) (o : Outcome) (dismissed : IsDismissed t words (reports o) left) where
  -- it was no member
  nobody : reports o ≡ false → views' ≡ views → AreMembers left views'
  nobody stays same = with_same_words words left views views' are (dismissed.others stays) (stay_same views views' same)

  -- it was one
  member : (u : ℕ) (before after : State) → t ≡ u → kept_of u views ≡ Some before → kept_of u views' ≡ (if reports o then None else Some after) → ((other : ℕ) → other ≢ u → StaysOf other views views') → AreMembers left views'
  member u before after same was is_now others = by (reports o) refl
    where
      mine : (b : Bool) → reports o ≡ b → kept_of t views' ≡ (if b then None else Some after)
      mine b is = ap (λ x. kept_of x views') same ∙ is_now ∙ ap (λ (c : Bool). if c then None else Some after) is

      rest : (other : ℕ) → other ≢ t → StaysOf other views views'
      rest = subst (λ x. (other : ℕ) → other ≢ x → StaysOf other views views') (sym same) others

      had : is_some (kept_of t views) ≡ true
      had = ap (λ x. is_some (kept_of x views)) same ∙ ap is_some was

      by : (b : Bool) → reports o ≡ b → AreMembers left views'
      by true is =
          let gone = dismissed.removed is in
          with_one t words left views views' are (ap is_some gone.own ∙ sym (ap is_some (mine true is))) gone.others rest
      by false is =
          let same_words = dismissed.others is in
          with_one t words left views views' are (ap (λ w. is_some (generator_of t w)) same_words ∙ are t ∙ had ∙ sym (ap is_some (mine false is))) (λ other apart. ap (generator_of other) same_words) rest

  leaves : ShardFollows (steps.Retire t now) views o views' → AreMembers left views'
  leaves (inl n) = nobody (ap reports n.outcome_is) n.new_is
  leaves (inr (inl (u, m))) =
      let retires : is_retirement m.asked.step ≡ true = sym (ap (λ (s : OwnStep). is_retirement s.step) (piped_is (plain (own.Retire now)) m.asked m.asks)) in
      member u m.before m.after m.whose.0 m.was (m.is_now ∙ ap (λ (b : Bool). if b && reports o then None else Some m.after) retires) m.others
  leaves (inr (inr (u, a))) = absurd (never_comes (asked_in (steps.Retire t now)) (plain (own.Retire now)) a.whose.section refl a.whose.comes)

left_members : (step : Step) (t now : ℕ) (words left : List TenantGenerator) (views views' : List View) (o : Outcome) → step ≡ steps.Retire t now → AreMembers words views → IsDismissed t words (reports o) left → ShardFollows step views o views' → AreMembers left views'
left_members step t now words left views views' o is are dismissed follows = leaves t now words left views views' are o dismissed (subst (λ s. ShardFollows s views o views') is follows)

-- ---- any step, with what is done before and after it

-- a step of a pipeline that is no retirement
plain_came : {E : Type 0} (step : Step) (words left : List TenantGenerator) (views views' : List View) (told : Result Outcome E) (asked : OwnStep) → asked_in step ≡ Piped asked → is_retirement asked.step ≡ false → ((o : Outcome) → GeneratorsGoOn step o words words) → AreMembers words views → left ≡ words
    → IfOk told (λ o. ShardFollows step views o views') → OnErr told (ShardRefuses step views views') → Came step words views told left views'
plain_came step words left views views' (Ok o) asked asks stays goes are same follows refuses = record {
  go_on = subst (λ w. GeneratorsGoOn step o words w) (sym same) (goes o);
  kept = tt;
  members = with_same_words words left views views' are same (members_stay step views o views' asked asks stays follows);
}
plain_came step words left views views' (Err fault) asked asks stays goes are same follows refuses = record {
  go_on = tt;
  kept = same;
  members = members_refused step words left views views' are same (inl refuses);
}

pub settled : {E : Type 0} (step : Step) (words tried left : List TenantGenerator) (newly : Bool) (views views' : List View) (told : Result Outcome E) → AreMembers words views → IsTried step words newly tried
    → IfOk told (λ o. ShardFollows step views o views') → OnErr told (ShardRefuses step views views') → IsSettled step newly told tried left → Came step words views told left views'
settled (steps.Post now prepared) words tried left newly views views' told are (none, same) follows refuses left_is =
    plain_came (steps.Post now prepared) words left views views' told (own_post now prepared) refl refl (λ o. refl) are (left_is ∙ same) follows refuses
settled (steps.Turn now) words tried left newly views views' told are (none, same) follows refuses left_is =
    plain_came (steps.Turn now) words left views views' told (plain (own.Turn now)) refl refl (λ o. refl) are (left_is ∙ same) follows refuses
settled (steps.Answer tenant now ticket word answer) words tried left newly views views' told are (none, same) follows refuses left_is =
    plain_came (steps.Answer tenant now ticket word answer) words left views views' told (plain (own.Answer now ticket word (answer_view answer))) refl refl (λ o. refl) are (left_is ∙ same) follows refuses
settled (steps.Report tenant now) words tried left newly views views' told are (none, same) follows refuses left_is =
    plain_came (steps.Report tenant now) words left views views' told (plain (own.Report now)) refl refl (λ o. refl) are (left_is ∙ same) follows refuses
settled (steps.Drain tenant now) words tried left newly views views' told are (none, same) follows refuses left_is =
    plain_came (steps.Drain tenant now) words left views views' told (plain (own.Drain now)) refl refl (λ o. refl) are (left_is ∙ same) follows refuses
settled (steps.Add tenant section) words tried left newly views views' told are tries follows refuses left_is =
    came (steps.Add tenant section) tenant section words tried left newly views views' told refl are tries follows refuses left_is
settled (steps.Retire tenant now) words tried left newly views views' (Ok o) are (none, same) follows refuses left_is =
    let retires : Retires tenant (reports o) words left = subst (λ w. Retires tenant (reports o) w left) same left_is in
    let dismissed : IsDismissed tenant words (reports o) left = record {
      removed = λ leaves. subst (λ b. Retires tenant b words left) leaves retires;
      others = λ stays. subst (λ b. Retires tenant b words left) stays retires;
    } in
    record { go_on = retires; kept = tt; members = left_members (steps.Retire tenant now) tenant now words left views views' o refl are dismissed follows }
settled (steps.Retire tenant now) words tried left newly views views' (Err fault) are (none, same) follows refuses left_is =
    record { go_on = tt; kept = left_is ∙ same; members = members_refused (steps.Retire tenant now) words left views views' are (left_is ∙ same) (inl refuses) }

-- ---- before and after it

-- nobody comes
pub not_tried : (step : Step) (words : List TenantGenerator) → ((tenant : ℕ) (section : Section) → step ≡ steps.Add tenant section → ⊥) → IsTried step words false words
not_tried (steps.Post now prepared) words none = (refl, refl)
not_tried (steps.Turn now) words none = (refl, refl)
not_tried (steps.Answer tenant now ticket word answer) words none = (refl, refl)
not_tried (steps.Report tenant now) words none = (refl, refl)
not_tried (steps.Drain tenant now) words none = (refl, refl)
not_tried (steps.Add tenant section) words none = absurd (none tenant section refl)
not_tried (steps.Retire tenant now) words none = (refl, refl)

-- a tenant comes
pub tries_of : {E : Type 0} (t seed : ℕ) (old new : List TenantGenerator) (r : Result Bool E) → OnOk r (IsSeeded t seed old new) → IfOk r (λ newly. newly ≡ is_none (generator_of t old)) → IfOk r (λ newly. newly ≡ true → without t new ≡ old) → IfOk r (λ newly. newly ≡ false → new ≡ old)
    → IfOk r (λ newly. IsTriedFor t seed old newly new)
tries_of t seed old new (Ok newly) seeded newly_is undone had_one = record { seeded = seeded; newly_is = newly_is; undone = undone; had_one = had_one }
tries_of t seed old new (Err fault) seeded newly_is undone had_one = tt

pub and_refused : {A E : Type 0} (P Q : Type 0) (r : Result A E) → P → OnErr r Q → OnErr r (P × Q)
and_refused P Q (Ok a) p q = tt
and_refused P Q (Err fault) p q = (p, q)

-- nobody comes or is to go
pub not_settled : {E : Type 0} (step : Step) (newly : Bool) (told : Result Outcome E) (words : List TenantGenerator) → ((tenant : ℕ) (section : Section) → step ≡ steps.Add tenant section → ⊥) → ((tenant now : ℕ) → step ≡ steps.Retire tenant now → ⊥) → IsSettled step newly told words words
not_settled (steps.Post now prepared) newly told words none stays = refl
not_settled (steps.Turn now) newly told words none stays = refl
not_settled (steps.Answer tenant now ticket word answer) newly told words none stays = refl
not_settled (steps.Report tenant now) newly told words none stays = refl
not_settled (steps.Drain tenant now) newly told words none stays = refl
not_settled (steps.Add tenant section) newly told words none stays = absurd (none tenant section refl)
not_settled (steps.Retire tenant now) newly told words none stays = absurd (stays tenant now refl)

-- a tenant is to go
pub retires_by : (t : ℕ) (removes goes : Bool) (old new : List TenantGenerator) → removes ≡ goes → (removes ≡ true → IsRemoved t old new) → new ≡ (if removes then without t old else old) → Retires t goes old new
retires_by t removes true old new is removed left_is = removed is
retires_by t removes false old new is removed left_is = left_is ∙ ap (λ b. if b then without t old else old) is

-- what holds in any case holds where it was refused memory
pub if_refused : {A E : Type 0} (P : Type 0) (told : Result A E) → P → OnErr told P
if_refused P (Ok o) holds = tt
if_refused P (Err fault) holds = holds
