-- A tenant's own commands in a collector of its own.
use Rattle.std.proofs.Common.{◌≡◌, ◌%◌, ◌==◌, ◌⊎◌, ℕ, zero, suc, Bool, true, false, cond, List, [], ◌∷◌, ◌++◌, codes, Option, Some, None, refl, ap, sym, subst, ◌∙◌, arith, inl, inr}
use Rattle.std.specs.Str.{bytes_eq}
use Rattle.std.proofs.lemmas.Bool.{ne_eqb}
use Rattle.std.proofs.lemmas.List.{append_cancel_right}
use Rattle.std.proofs.lemmas.Option.{same_Some}
use Rattle.std.proofs.lemmas.Slice.Eq.{bytes_eq-Decides}
use Rattle.tail_settings.specs.Section.{SectionData}
use Rattle.tail_settings.specs.Settings.{SettingsData, section_at, number_of}
use Rattle.tenant_rules.specs.declared.reply.StepReply.{StepReply}
use Rattle.tenant_rules.specs.declared.reply.StepReply.TheVariants as replies
use Rattle.tenant_rules.specs.Own.{Own}
use Rattle.tenant_rules.specs.Own as own
use Rattle.tenant_rules.specs.Ready.{ready}
use Rattle.tenant_rules.specs.State.{state}
use Rattle.tenant_rules.specs.Answers.{answer}
use Rattle.tenant_shard.specs.Outcomes.{OwnStep, plain, is_taken, Answered, named}
use Rattle.tenant_shard.specs.Pick.{ready_at, ready_after}
use Rattle.shard_agenda.specs.Pick.{NotAfter}
use Rattle.tenant_shard.specs.Run.{IsAnswered, IsTakenOrNot}
use Rattle.replay_script.specs.Word.{words_of}
use Rattle.replay_script.specs.Command.{CommandData, Post, Turn, Answer, Report, Drain, Add, Retire}
use Rattle.trace_collector.specs.Outcomes.{outcome_text, told_text}
use Rattle.trace_collector.specs.Session.{Session, no_steps}
use Rattle.trace_collector.specs.Answered.{lives_of, joined, posted, IsStepped, IsSteppedFor, IsPosted, IsPostedTo, IsAskedOf, without, IsRetired}
use Rattle.trace_collector.specs.Answered as collector
use Rattle.trace_collector.specs.Own.{is_own, is_report, is_last, of_any_shard, lines_until_last, own_among, own_commands, lines_for}
use Rattle.trace_collector.specs.Alone.{IsReadyBy, IsStepAlone, IsPostAlone, IsAnsweredAlone, AnswersAlone}
use Rattle.trace_collector.specs.Apart.{only, AnswersEach, ReplaysApart}
use Rattle.trace_collector.proofs.Alone.{LastEnds, whole_life, turn_past, turned_whom}
use Rattle.trace_collector.proofs.Named.{listed_text}
use Rattle.trace_collector.proofs.Taken.{own_policies, joins, named_text}

-- an own command names the tenant, or is a turn of any shard
abbrev pub IsOwn : List ℕ → CommandData → Type 0
IsOwn name (Post other moment body) = other ≡ name
IsOwn name (Turn shard moment) = shard ≡ 0
IsOwn name (Answer other moment ticket word given) = other ≡ name
IsOwn name (Report other moment) = other ≡ name
IsOwn name (Drain other moment) = other ≡ name
IsOwn name (Add document) = ⊥
IsOwn name (Retire other moment) = other ≡ name

abbrev pub AllOwn : List ℕ → List CommandData → Type 0
AllOwn name [] = Unit
AllOwn name (command ∷ commands) = IsOwn name command × AllOwn name commands

own_is : (name line : List ℕ) (command : CommandData) → is_own name command line ≡ true → IsOwn name (of_any_shard command)
own_is name line (Post other moment body) is = (bytes_eq-Decides other name).0 is
own_is name line (Turn shard moment) is = refl
own_is name line (Answer other moment ticket word given) is = (bytes_eq-Decides other name).0 is
own_is name line (Report other moment) is = (bytes_eq-Decides other name).0 is
own_is name line (Drain other moment) is = (bytes_eq-Decides other name).0 is
own_is name line (Add document) is = absurd (let never : false ≡ true = is in cc)
own_is name line (Retire other moment) is = (bytes_eq-Decides other name).0 is

all_own : (name : List ℕ) (commands : List CommandData) (lines : List (List ℕ)) → AllOwn name (own_among name commands lines)
all_own name [] lines = tt
all_own name (command ∷ commands) [] = tt
all_own name (command ∷ commands) (line ∷ lines) = by_test (is_own name command line) refl (all_own name commands lines)
  where
    by_test : (b : Bool) → is_own name command line ≡ b → AllOwn name (own_among name commands lines)
        → AllOwn name (cond b (of_any_shard command ∷ own_among name commands lines) (own_among name commands lines))
    by_test true is rest = (own_is name line command is, rest)
    by_test false is rest = rest

module _ (settings : SettingsData) (own_name : List ℕ) (section : SectionData) where
  -- the one tenant is found by its name
  found : (name : List ℕ) → name ≡ own_name → number_of (only settings own_name section) name ≡ Some 0
  found name is =
      let yes : bytes_eq name own_name ≡ true = (bytes_eq-Decides name own_name).1 is in
      rw yes refl

  outcome_line : (said : StepReply) → outcome_text (only settings own_name section) 0 (named 0 (Answered said)) ≡ told_text own_name said
  outcome_line said = named_text (only settings own_name section) 0 0 said

  -- a step that reaches the pipeline of the one tenant
  reached : (past : List Own) (step : OwnStep) → is_taken section step ≡ true
      → IsAnswered 0 (Some section) past true step (named 0 (Answered (answer section past step.step)))
  reached past step taken =
      let told : IsTakenOrNot true 0 section past true step.step (named 0 (Answered (answer section past step.step))) = refl in
      rw taken told

  step_apart : (pasts : ℕ → List Own) (later : List Own) (step : OwnStep) (line : List ℕ) → is_taken section step ≡ true
      → IsStepAlone own_name section (pasts 0) step.step line later
      → (after : ℕ → List Own) × IsSteppedFor (only settings own_name section) pasts 0 step (Some line) after × (after 0 ≡ later)
  step_apart pasts later step line taken alone =
      let said = answer section (pasts 0) step.step in (
        joined (Some 0) step (named 0 (Answered said)) (lives_of (only settings own_name section) pasts 0),
        (named 0 (Answered said), (reached (pasts 0) step taken, ap (λ l. Some l) (alone.0 ∙ sym (outcome_line said)), refl)),
        joins section (Some section) (pasts 0) step refl taken ∙ sym alone.1,
      )

  post_apart : (pasts : ℕ → List Own) (later : List Own) (moment : ℕ) (body line : List ℕ) → IsPostAlone own_name section (pasts 0) moment body line later
      → (after : ℕ → List Own) × IsPosted (only settings own_name section) pasts 0 own_name moment body (Some line) after × (after 0 ≡ later)
  post_apart pasts later moment body line (inl alone) =
      let done = step_apart pasts later (posted moment 0 section alone.0) line (own_policies section.tail_sampling.policies) alone.2 in
      (done.0, inl (section, alone.0, refl, alone.1, done.1), done.2)
  post_apart pasts later moment body line (inr none) = (pasts, inr (none.0, ap (λ l. Some l) none.1, refl), sym none.2)

  none_either : (b : Bool) (past : List Own) (seen : Option ℕ) → ready_after (cond b None None) past true seen ≡ None
  none_either true past seen = refl
  none_either false past seen = refl

  -- no other tenant is ever ready
  no_other : (pasts : ℕ → List Own) (other moment : ℕ) → ready_at (lives_of (only settings own_name section) pasts 0) [] (suc other) ≡ Some moment → ⊥
  no_other pasts other moment is =
      let apart : (0 == suc other) ≡ false = ne_eqb 0 (suc other) (λ e. omega (arith, e)) in
      let none : section_at (only settings own_name section) (suc other) ≡ None = rw apart refl in
      let found = subst (λ (found : Option SectionData). ready_after (cond (suc other % 1 == 0) found None) (pasts (suc other)) true None ≡ Some moment) none is in
      let never : ◌≡◌ {A = Option ℕ} None (Some moment) = sym (none_either (suc other % 1 == 0) (pasts (suc other)) None) ∙ found in cc

  first_of_one : (pasts : ℕ → List Own) (least : ℕ) → ready (state section (pasts 0)) ≡ Some least → (other moment : ℕ)
      → ready_at (lives_of (only settings own_name section) pasts 0) [] other ≡ Some moment → NotAfter least 0 moment other
  first_of_one pasts least is zero moment ready_then = inr (same_Some least moment (sym is ∙ ready_then), omega arith)
  first_of_one pasts least is (suc other) moment ready_then = absurd (no_other pasts other moment ready_then)

  turn_apart : (pasts : ℕ → List Own) (later : List Own) (moment : ℕ) (line : List ℕ) → IsReadyBy section (pasts 0) moment
      → IsStepAlone own_name section (pasts 0) (own.Turn moment) line later
      → (after : ℕ → List Own) × IsStepped (only settings own_name section) pasts 0 None (plain (own.Turn moment)) (Some line) after × (after 0 ≡ later)
  turn_apart pasts later moment line ready_by alone =
      let said = answer section (pasts 0) (own.Turn moment) in (
        joined None (plain (own.Turn moment)) (named 0 (Answered said)) (lives_of (only settings own_name section) pasts 0),
        (
          named 0 (Answered said),
          ((Some 0, (ready_by.0, ready_by.1, ready_by.2, first_of_one pasts ready_by.0 ready_by.1), refl), ap (λ l. Some l) (alone.0 ∙ sym (outcome_line said)), refl),
        ),
        turn_past (only settings own_name section) pasts 0 moment (named 0 (Answered said)) (Some 0) 0 (turned_whom 0 said) ∙ sym alone.1,
      )

  ask_apart : (pasts : ℕ → List Own) (later : List Own) (name : List ℕ) (step : Own) (line : List ℕ) → name ≡ own_name
      → IsStepAlone own_name section (pasts 0) step line later
      → (after : ℕ → List Own) × IsAskedOf (only settings own_name section) pasts (number_of (only settings own_name section) name) step (Some line) after × (after 0 ≡ later)
  ask_apart pasts later name step line same alone =
      let done = step_apart pasts later (plain step) line refl alone in
      (done.0, subst (λ f. IsAskedOf (only settings own_name section) pasts f step (Some line) done.0) (sym (found name same)) done.1, done.2)

  -- an answer, a report or a drain leaves the settings
  keeps_apart : (pasts : ℕ → List Own) (later : List Own) (name : List ℕ) (step : Own) (line : List ℕ) → name ≡ own_name → IsStepAlone own_name section (pasts 0) step (line ++ codes "\n") later
      → (after : ℕ → List Own) × IsAskedOf (only settings own_name section) pasts (number_of (only settings own_name section) name) step (Some (line ++ codes "\n")) after × (after 0 ≡ later)
  keeps_apart pasts later name step line same alone = ask_apart pasts later name step (line ++ codes "\n") same alone

  -- the settings stay, or the line was the last
  stays_or_last : (name line : List ℕ) (moment : ℕ) (said : StepReply) → name ≡ own_name → line ++ codes "\n" ≡ told_text own_name said
      → (without 0 (named 0 (Answered said)) (only settings own_name section) ≡ only settings own_name section) ⊎ (is_last own_name (Retire name moment) line ≡ true)
  stays_or_last name line moment (replies.Reply reply) same is = inl refl
  stays_or_last name line moment (replies.Job ticket payload) same is = inl refl
  stays_or_last name line moment replies.Worked same is = inl refl
  stays_or_last name line moment replies.Done same is = inl refl
  stays_or_last name line moment (replies.Report report) same is =
      let yes : bytes_eq name own_name ≡ true = (bytes_eq-Decides name own_name).1 same in
      let content : line ≡ codes "report " ++ own_name ++ codes " " ++ report = append_cancel_right line (codes "report " ++ own_name ++ codes " " ++ report) (codes "\n") is in
      let reports : is_report (words_of (codes "report " ++ own_name ++ codes " " ++ report)) ≡ true = refl in
      inr (rw yes (ap (λ l. is_report (words_of l)) content ∙ reports))
  stays_or_last name line moment replies.UnknownTicket same is = inl refl
  stays_or_last name line moment replies.NotEmpty same is = inl refl

  -- what a command of the one tenant is answered, and whether it is there afterwards
  record Goes (command : CommandData) (line : List ℕ) (pasts : ℕ → List Own) (later : List Own) : Type 0 where
    table : SettingsData
    after : ℕ → List Own
    answered : collector.IsAnswered (record { table = only settings own_name section; pasts = pasts }) command (Some (line ++ codes "\n")) (record { table = table; pasts = after })
    past_is : after 0 ≡ later
    still : (table ≡ only settings own_name section) ⊎ (is_last own_name command line ≡ true)

  retire_apart : (pasts : ℕ → List Own) (later : List Own) (name : List ℕ) (moment : ℕ) (line : List ℕ) → name ≡ own_name
      → IsStepAlone own_name section (pasts 0) (own.Retire moment) (line ++ codes "\n") later → Goes (Retire name moment) line pasts later
  retire_apart pasts later name moment line same alone =
      let said = answer section (pasts 0) (own.Retire moment) in
      let left : SettingsData = without 0 (named 0 (Answered (answer section (pasts 0) (own.Retire moment)))) (only settings own_name section) in
      let behind : ℕ → List Own = joined (Some 0) (plain (own.Retire moment)) (named 0 (Answered (answer section (pasts 0) (own.Retire moment)))) (lives_of (only settings own_name section) pasts 0) in
      record {
        table = without 0 (named 0 (Answered said)) (only settings own_name section);
        after = joined (Some 0) (plain (own.Retire moment)) (named 0 (Answered said)) (lives_of (only settings own_name section) pasts 0);
        answered = subst (λ found. IsRetired (record { table = only settings own_name section; pasts = pasts }) found moment (Some (line ++ codes "\n")) (record { table = left; pasts = behind }))
            (sym (found name same))
            (named 0 (Answered said), (reached (pasts 0) (plain (own.Retire moment)) refl, ap (λ l. Some l) (alone.0 ∙ sym (outcome_line said)), refl), refl);
        past_is = joins section (Some section) (pasts 0) (plain (own.Retire moment)) refl refl ∙ sym alone.1;
        still = stays_or_last name line moment said same alone.0;
      }

  answered_apart : (command : CommandData) (line : List ℕ) (pasts : ℕ → List Own) (later : List Own) → IsOwn own_name command
      → IsAnsweredAlone own_name section (pasts 0) command (line ++ codes "\n") later → Goes command line pasts later
  answered_apart (Post name moment body) line pasts later same alone =
      let posted = post_apart pasts later moment body (line ++ codes "\n") alone in
      let named_so = subst (λ n. IsPosted (only settings own_name section) pasts 0 n moment body (Some (line ++ codes "\n")) posted.0) (sym same) posted.1 in
      record {
        table = only settings own_name section;
        after = posted.0;
        answered = (refl, subst (λ f. IsPostedTo (only settings own_name section) pasts f name moment body (Some (line ++ codes "\n")) posted.0) (sym (found name same)) named_so);
        past_is = posted.2;
        still = inl refl;
      }
  answered_apart (Turn shard moment) line pasts later same alone =
      let turned = turn_apart pasts later moment (line ++ codes "\n") alone.0 alone.1 in
      record {
        table = only settings own_name section;
        after = turned.0;
        answered = subst (λ n. collector.IsAnswered (record { table = only settings own_name section; pasts = pasts }) (Turn n moment) (Some (line ++ codes "\n"))
            (record { table = only settings own_name section; pasts = turned.0 })) (sym same) (refl, turned.1);
        past_is = turned.2;
        still = inl refl;
      }
  answered_apart (Answer name moment ticket word given) line pasts later same alone =
      let done = keeps_apart pasts later name (own.Answer moment ticket word given) line same alone in
      record { table = only settings own_name section; after = done.0; answered = (refl, done.1); past_is = done.2; still = inl refl }
  answered_apart (Report name moment) line pasts later same alone =
      let done = keeps_apart pasts later name (own.Report moment) line same alone in
      record { table = only settings own_name section; after = done.0; answered = (refl, done.1); past_is = done.2; still = inl refl }
  answered_apart (Drain name moment) line pasts later same alone =
      let done = keeps_apart pasts later name (own.Drain moment) line same alone in
      record { table = only settings own_name section; after = done.0; answered = (refl, done.1); past_is = done.2; still = inl refl }
  answered_apart (Add document) line pasts later never alone = absurd never
  answered_apart (Retire name moment) line pasts later same alone = retire_apart pasts later name moment line same alone

  -- nothing is behind the last command
  over : (session : Session) (later : List Own) (commands : List CommandData) (lines : List (List ℕ)) → commands ≡ [] → AnswersAlone own_name section later commands lines
      → AnswersEach collector.IsAnswered session commands lines
  over session later [] [] none alone = tt
  over session later [] (line ∷ lines) none alone = absurd alone
  over session later (command ∷ commands) lines none alone = absurd (cc)

  pub each_apart : (commands : List CommandData) (lines : List (List ℕ)) (past : List Own) (pasts : ℕ → List Own) → pasts 0 ≡ past → AllOwn own_name commands
      → LastEnds own_name commands lines → AnswersAlone own_name section past commands lines
      → AnswersEach collector.IsAnswered (record { table = only settings own_name section; pasts = pasts }) commands lines
  each_apart [] [] past pasts is own last alone = tt
  each_apart [] (line ∷ lines) past pasts is own last alone = absurd alone
  each_apart (command ∷ commands) [] past pasts is own last alone = absurd alone
  each_apart (command ∷ commands) (line ∷ lines) past pasts is own last alone =
      let answered = subst (λ p. IsAnsweredAlone own_name section p command (line ++ codes "\n") alone.0) (sym is) alone.1 in
      let next = answered_apart command line pasts alone.0 own.0 answered in
      let rest = each_apart commands lines alone.0 next.after next.past_is own.1 last.1 alone.2 in (
        record { table = next.table; pasts = next.after },
        next.answered,
        elim next.still [
          | inl same ↦ subst (λ t. AnswersEach collector.IsAnswered (record { table = t; pasts = next.after }) commands lines) (sym same) rest
          | inr ends ↦ over (record { table = next.table; pasts = next.after }) alone.0 commands lines (last.0 ends) alone.2
        ],
      )

pub replays_apart : ReplaysApart
replays_apart settings_text script text settings fault means told name section commands lines begins =
    let life = whole_life settings script text fault (listed_text settings_text settings means) told name section commands lines begins in
    each_apart settings name section (own_commands name commands lines) (lines_for name commands lines) [] no_steps refl (all_own name commands (lines_until_last name commands lines)) life.1 life.0
