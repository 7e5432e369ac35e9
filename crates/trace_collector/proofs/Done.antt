-- What a command that was done is answered.
use Rattle.std.proofs.Common.{◌≡◌, ℕ, ◌%◌, true, false, List, ◌++◌, Option, Some, None, Ok, refl, sym, subst, ap, ◌∙◌, inl, inr, nat_lt}
use Rattle.std.specs.Bool.{MatchBool}
use Rattle.std.specs.Prelude.{slice_get, slice_set}
use Rattle.otlp_trace.specs.Data.{RequestData}
use Rattle.otlp_read.specs.Value.{IsValue}
use Rattle.otlp_read.specs.declared.fault.ReadFault.{ReadFault}
use Rattle.tail_settings.specs.Section.{SectionData}
use Rattle.tail_settings.specs.Settings.{SettingsData, settings_view, section_at, number_of}
use Rattle.tenant_rules.specs.Own.{Own}
use Rattle.tenant_rules.specs.Own as own
use Rattle.prepared_body.specs.Prepared.{PreparedData}
use Rattle.otlp_prepare.specs.Prepared.{IsPrepared}
use Rattle.otlp_prepare.specs.declared.refusal.Refusal.{Refusal}
use Rattle.otlp_prepare.specs.declared.refusal.Refusal.TheVariants as refusal
use Rattle.tenant_shard.specs.View.{View}
use Rattle.tenant_shard.specs.declared.step.Step.{Step}
use Rattle.tenant_shard.specs.declared.step.Step.TheVariants as steps
use Rattle.tenant_shard.specs.declared.step.Outcome.{Outcome}
use Rattle.tenant_shard.specs.declared.step.Outcome.TheVariants as outcomes
use Rattle.tenant_shard.specs.Run.{ShardSteps}
use Rattle.tenant_shard.specs.Outcomes.{plain, own_post, Piped, asked_in, named_in, is_retirement}
use Rattle.replay_script.specs.Command.{CommandData, Post, Turn, Add, Retire}
use Rattle.replay_script.specs.Answer.{reply_text, added_text}
use Rattle.trace_collector.specs.declared.shards.Shards.{Shards}
use Rattle.trace_collector.specs.Outcomes.{outcome_text, name_at, bad_protobuf}
use Rattle.trace_collector.specs.Session.{Session, new_among}
use Rattle.trace_collector.specs.Answered.{IsStepped, HasNoValue, IsPosted, IsPostedTo, IsAskedOf, without, IsRetired, arrived, IsAdded, IsAnswered}
use Rattle.trace_collector.specs.Standing.{AllStand, StandFor, Answers, IsDone, Joins}
use Rattle.trace_collector.proofs.Arrives.{arrives}
use Rattle.trace_collector.proofs.Stands.{stands_after, stands_retired, stands_joined}

-- whatever own steps the shards stand for under their settings
abbrev pub Under : Shards → CommandData → Option (List ℕ) → Shards → Type 0
Under old command line new = (pasts : ℕ → List Own) → AllStand (settings_view old.settings) old.shards.items pasts
    → (later : Session) × IsAnswered (record { table = settings_view old.settings; pasts = pasts }) command line later × StandFor new later

answers_under : (old new : Shards) (command : CommandData) (line : Option (List ℕ)) → Under old command line new → Answers old command line new
answers_under old new command line under = record { answers = λ session stands. at session.table session.pasts stands.table stands.stand }
  where
    at : (table : SettingsData) (pasts : ℕ → List Own) → settings_view old.settings ≡ table → AllStand table old.shards.items pasts
        → (later : Session) × IsAnswered (record { table = table; pasts = pasts }) command line later × StandFor new later
    at table pasts is = subst (λ t. AllStand t old.shards.items pasts → (later : Session) × IsAnswered (record { table = t; pasts = pasts }) command line later × StandFor new later) is (under pasts)

-- the settings stayed
stand_same : (old new : Shards) (pasts : ℕ → List Own) → settings_view new.settings ≡ settings_view old.settings → AllStand (settings_view old.settings) new.shards.items pasts
    → StandFor new (record { table = settings_view old.settings; pasts = pasts })
stand_same old new pasts same all = record { table = same; stand = all }

posted_to : (settings : SettingsData) (pasts later : ℕ → List Own) (tenant : ℕ) (found : Option ℕ) (name : List ℕ) (moment : ℕ) (body : List ℕ) (line : Option (List ℕ))
    → found ≡ Some tenant → IsPosted settings pasts tenant name moment body line later → IsPostedTo settings pasts found name moment body line later
posted_to settings pasts later tenant found name moment body line is posted = subst (λ f. IsPostedTo settings pasts f name moment body line later) (sym is) posted

pub done_posts : (old new : Shards) (tenant : ℕ) (section : SectionData) (moment : ℕ) (name body : List ℕ) (prepared : PreparedData) (before behind : List ℕ)
    → settings_view new.settings ≡ settings_view old.settings
    → number_of (settings_view old.settings) name ≡ Some tenant
    → section_at (settings_view old.settings) tenant ≡ Some section → IsPrepared tenant section body prepared
    → IsDone (settings_view old.settings) (tenant % (settings_view old.settings).global.shards) (steps.Post moment prepared) old.shards.items new.shards.items before behind
    → (line : List ℕ) × (behind ≡ before ++ line) × Answers old (Post name moment body) (Some line) new
done_posts old new tenant section moment name body prepared before behind same found kept value done =
    let settings = settings_view old.settings in
    let shard = tenant % (settings_view old.settings).global.shards in
    let line = outcome_text (settings_view old.settings) (tenant % (settings_view old.settings).global.shards) done.outcome in (
      outcome_text settings shard done.outcome,
      done.text,
      answers_under old new (Post name moment body) (Some (outcome_text (settings_view old.settings) (tenant % (settings_view old.settings).global.shards) done.outcome)) (λ pasts all.
          let next = stands_after settings pasts old.shards.items new.shards.items shard (steps.Post moment prepared) (own_post moment prepared) before behind refl refl all done in
          let stepped = subst (λ p. IsStepped (settings_view old.settings) pasts (tenant % (settings_view old.settings).global.shards)
          (named_in (steps.Post moment p)) (own_post moment p) (Some line) next.0) value.2 next.1 in (
            record { table = settings_view old.settings; pasts = next.0 },
            (refl, posted_to (settings_view old.settings) pasts next.0 tenant _ name moment body _ found (inl (section, value.0, kept, value.1, stepped))),
            stand_same old new next.0 same next.2,
          )),
    )

pub done_turns : (old new : Shards) (shard moment : ℕ) (before behind : List ℕ) → settings_view new.settings ≡ settings_view old.settings
    → nat_lt shard (settings_view old.settings).global.shards ≡ true
    → IsDone (settings_view old.settings) shard (steps.Turn moment) old.shards.items new.shards.items before behind
    → (line : List ℕ) × (behind ≡ before ++ line) × Answers old (Turn shard moment) (Some line) new
done_turns old new shard moment before behind same below done =
    let settings = settings_view old.settings in (
      outcome_text settings shard done.outcome,
      done.text,
      answers_under old new (Turn shard moment) (Some (outcome_text (settings_view old.settings) shard done.outcome)) (λ pasts all.
          let next = stands_after settings pasts old.shards.items new.shards.items shard (steps.Turn moment) (plain (own.Turn moment)) before behind refl refl all done in (
            record { table = settings_view old.settings; pasts = next.0 },
            (
              refl,
              subst (λ b. MatchBool b
                  (IsStepped (settings_view old.settings) pasts shard None (plain (own.Turn moment)) (Some (outcome_text (settings_view old.settings) shard done.outcome)) next.0)
                  ((◌≡◌ {A = Option (List ℕ)} (Some (outcome_text (settings_view old.settings) shard done.outcome)) None) × (next.0 ≡ pasts)))
                  (sym below) next.1,
            ),
            stand_same old new next.0 same next.2,
          )),
    )

-- a command is a step of the tenant of a name, which leaves the settings
abbrev pub IsAskedBy : CommandData → List ℕ → Own → Type 0
IsAskedBy command name step = (old new : Session) (line : Option (List ℕ)) → new.table ≡ old.table
    → IsAskedOf old.table old.pasts (number_of old.table name) step line new.pasts → IsAnswered old command line new

pub done_asks : (old new : Shards) (tenant : ℕ) (name : List ℕ) (command : CommandData) (step : Step) (asked : Own) (before behind : List ℕ)
    → settings_view new.settings ≡ settings_view old.settings
    → number_of (settings_view old.settings) name ≡ Some tenant → IsAskedBy command name asked → named_in step ≡ Some tenant → asked_in step ≡ Piped (plain asked) → is_retirement asked ≡ false
    → IsDone (settings_view old.settings) (tenant % (settings_view old.settings).global.shards) step old.shards.items new.shards.items before behind
    → (line : List ℕ) × (behind ≡ before ++ line) × Answers old command (Some line) new
done_asks old new tenant name command step asked before behind same found by whose own_is stays done =
    let settings = settings_view old.settings in
    let shard = tenant % (settings_view old.settings).global.shards in (
      outcome_text settings shard done.outcome,
      done.text,
      answers_under old new command (Some (outcome_text (settings_view old.settings) (tenant % (settings_view old.settings).global.shards) done.outcome)) (λ pasts all.
          let next = stands_after settings pasts old.shards.items new.shards.items shard step (plain asked) before behind own_is stays all done in
          let line = outcome_text (settings_view old.settings) (tenant % (settings_view old.settings).global.shards) done.outcome in
          let stepped = subst (λ n. IsStepped (settings_view old.settings) pasts (tenant % (settings_view old.settings).global.shards) n (plain asked) (Some line) next.0) whose next.1 in
          let is_asked = subst (λ f. IsAskedOf (settings_view old.settings) pasts f asked (Some line) next.0) (sym found) stepped in (
            record { table = settings_view old.settings; pasts = next.0 },
            by (record { table = settings_view old.settings; pasts = pasts }) (record { table = settings_view old.settings; pasts = next.0 }) (Some line) refl is_asked,
            stand_same old new next.0 same next.2,
          )),
    )

-- a body that is bad has no value
pub bad_none : (body : List ℕ) (refused : Refusal) (fault : ReadFault) → ((v : RequestData) → IsValue body v → refused ≡ refusal.OutOfMemory)
    → refused ≡ refusal.Bad fault → HasNoValue body
bad_none body refused fault only bad v value = let memory = only v value in cc

pub bad_posts : (old : Shards) (tenant moment : ℕ) (name body : List ℕ) (before behind : List ℕ)
    → number_of (settings_view old.settings) name ≡ Some tenant → HasNoValue body
    → behind ≡ before ++ reply_text name 400 bad_protobuf
    → (line : List ℕ) × (behind ≡ before ++ line) × Answers old (Post name moment body) (Some line) old
bad_posts old tenant moment name body before behind found none text = (
  reply_text name 400 bad_protobuf,
  text,
  answers_under old old (Post name moment body) (Some (reply_text name 400 bad_protobuf)) (λ pasts all. (
    record { table = settings_view old.settings; pasts = pasts },
    (refl, posted_to (settings_view old.settings) pasts pasts tenant _ name moment body _ found (inr (none, refl, refl))),
    stand_same old old pasts refl all,
  )),
)

-- a tenant leaves, or has to wait
pub done_retires : (old new : Shards) (tenant : ℕ) (name : List ℕ) (moment : ℕ) (before behind : List ℕ) → number_of (settings_view old.settings) name ≡ Some tenant
    → (done : IsDone (settings_view old.settings) (tenant % (settings_view old.settings).global.shards) (steps.Retire tenant moment) old.shards.items new.shards.items before behind)
    → settings_view new.settings ≡ without tenant done.outcome (settings_view old.settings)
    → (line : List ℕ) × (behind ≡ before ++ line) × Answers old (Retire name moment) (Some line) new
done_retires old new tenant name moment before behind found done table = (
  outcome_text (settings_view old.settings) (tenant % (settings_view old.settings).global.shards) done.outcome,
  done.text,
  answers_under old new (Retire name moment) (Some (outcome_text (settings_view old.settings) (tenant % (settings_view old.settings).global.shards) done.outcome)) (λ pasts all.
      let next = stands_retired (settings_view old.settings) pasts old.shards.items new.shards.items tenant moment before behind all done in
      let line = outcome_text (settings_view old.settings) (tenant % (settings_view old.settings).global.shards) done.outcome in (
        record { table = without tenant done.outcome (settings_view old.settings); pasts = next.0 },
        subst (λ f. IsRetired (record { table = settings_view old.settings; pasts = pasts }) f moment (Some line) (record { table = without tenant done.outcome (settings_view old.settings); pasts = next.0 }))
            (sym found) (done.outcome, next.1, refl),
        record { table = table; stand = next.2 },
      )),
)

-- a tenant comes
pub done_adds : (old new : Shards) (number : ℕ) (document : List ℕ) (before behind : List ℕ) → arrived (settings_view old.settings) document ≡ Ok (settings_view new.settings)
    → number ≡ (settings_view old.settings).next → Joins (settings_view new.settings) number old.shards.items new.shards.items before behind
    → (line : List ℕ) × (behind ≡ before ++ line) × Answers old (Add document) (Some line) new
done_adds old new number document before behind means next joins =
    let old_view = settings_view old.settings in
    let brings = arrives (settings_view old.settings) document (settings_view new.settings) means in
    let joins_so = subst (λ s. Joins s number old.shards.items new.shards.items before behind) (sym brings.joins) joins in (
      added_text (name_at (settings_view new.settings) number) number,
      joins.text,
      answers_under old new (Add document) (Some (added_text (name_at (settings_view new.settings) number) number)) (λ pasts all.
          let stands = stands_joined (settings_view old.settings) brings.tenant pasts old.shards.items new.shards.items number before behind (brings.new.number ∙ sym next) (sym next) all joins_so in (
            record { table = settings_view new.settings; pasts = new_among pasts (settings_view old.settings).next },
            subst (λ m. IsAdded (record { table = settings_view old.settings; pasts = pasts }) m (Some (added_text (name_at (settings_view new.settings) number) number))
                (record { table = settings_view new.settings; pasts = new_among pasts (settings_view old.settings).next })) (sym means)
                (ap (λ n. Some (added_text (name_at (settings_view new.settings) n) n)) next, refl),
            record { table = refl; stand = subst (λ s. AllStand s new.shards.items (new_among pasts (settings_view old.settings).next)) brings.joins stands },
          )),
    )

-- no report is told, and nobody leaves
pub nobody_leaves : (tenant : ℕ) (outcome : Outcome) (settings : SettingsData) → ((whom : ℕ) (report : List ℕ) → outcome ≡ outcomes.Report whom report → ⊥)
    → without tenant outcome settings ≡ settings
nobody_leaves tenant (outcomes.Report whom report) settings never = absurd (never whom report refl)
nobody_leaves tenant outcome settings never = refl

-- the step of a retirement, and what came of the settings
pub retired : (old new : Shards) (tenant : ℕ) (name : List ℕ) (moment : ℕ) (outcome : Outcome) (items : List (List View)) (shard : ℕ) (before behind : List ℕ)
    → number_of (settings_view old.settings) name ≡ Some tenant
    → (kept : List View) × (left : List View) × (slice_get old.shards.items (tenant % (settings_view old.settings).global.shards) ≡ Some kept) × ShardSteps (steps.Retire tenant moment) kept outcome left
    × (items ≡ slice_set old.shards.items (tenant % (settings_view old.settings).global.shards) left)
    → shard ≡ tenant % (settings_view old.settings).global.shards → behind ≡ before ++ outcome_text (settings_view old.settings) shard outcome
    → new.shards.items ≡ items → settings_view new.settings ≡ without tenant outcome (settings_view old.settings)
    → (line : List ℕ) × (behind ≡ before ++ line) × Answers old (Retire name moment) (Some line) new
retired old new tenant name moment outcome items shard before behind found stepped its text are table =
    done_retires old new tenant name moment before behind found
    (record {
      outcome = outcome;
      kept = stepped.0;
      left = stepped.1;
      was = stepped.2;
      steps = stepped.3;
      is_now = are ∙ stepped.4;
      text = text ∙ ap (λ k. before ++ outcome_text (settings_view old.settings) k outcome) its;
    }) table
