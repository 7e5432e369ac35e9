-- A script is told one text.
use Rattle.std.proofs.Common.{◌≡◌, ◌+◌, ◌%◌, ℕ, Bool, true, false, nat_lt, List, [], ◌∷◌, ◌++◌, Option, Some, None, Result, Ok, Err, refl, ap, sym, subst, ◌∙◌, arith, inl, inr}
use Rattle.std.proofs.lemmas.List.{append_assoc}
use Rattle.std.specs.Prelude.{◌↔◌}
use Rattle.std.specs.Bool.{MatchBool}
use Rattle.otlp_trace.specs.Data.{RequestData}
use Rattle.otlp_read.specs.Value.{IsValue, value_of}
use Rattle.otlp_read.specs.declared.fault.ReadFault.{ReadFault}
use Rattle.tail_settings.specs.Fault.{FaultData}
use Rattle.tail_settings.specs.Section.{SectionData}
use Rattle.tail_settings.specs.Settings.{SettingsData, section_at, number_of}
use Rattle.tenant_rules.specs.Own.{Own}
use Rattle.tenant_rules.specs.Own as own
use Rattle.tenant_shard.specs.declared.step.Outcome.{Outcome}
use Rattle.shard_agenda.specs.Pick.{IsPick, NotAfter}
use Rattle.tenant_shard.specs.Outcomes.{OwnStep, plain, Piped, is_taken}
use Rattle.tenant_shard.specs.Run.{IsTakenOrNot, IsAnswered, IsTurned, IsOutcomeOf}
use Rattle.replay_script.specs.Command.{CommandData, Post, Turn, Answer, Report, Drain, Add, Retire}
use Rattle.replay_script.specs.Line.{Kind, Skipped, Says, Faulty, kind_of}
use Rattle.replay_script.specs.Transcript.{Answered, Goes, Told, BeginsTold}
use Rattle.trace_collector.specs.Outcomes.{outcome_text}
use Rattle.trace_collector.specs.Answered.{section_in, lives_of, joined, posted, IsStepped, IsSteppedFor, IsPosted, IsPostedTo, IsAskedOf, without, IsRetired, arrived, IsAdded}
use Rattle.trace_collector.specs.Answered as of_script
use Rattle.trace_collector.specs.Session.{Session}

module _ {H : Type 0} (answers : H → CommandData → Option (List ℕ) → H → Type 0)
    (one : (h k k' : H) (command : CommandData) (line line' : Option (List ℕ)) → answers h command line k → answers h command line' k' → (line ≡ line') × (k ≡ k')) where
  goes_one : (kind : Kind) (number : ℕ) (h : H) (rest : H → List ℕ → Option ℕ → Type 0) (text text' : List ℕ) (fault fault' : Option ℕ)
      → ((h : H) (t t' : List ℕ) (f f' : Option ℕ) → rest h t f → rest h t' f' → (t ≡ t') × (f ≡ f'))
      → Goes answers number h kind rest text fault → Goes answers number h kind rest text' fault' → (text ≡ text') × (fault ≡ fault')
  goes_one Skipped number h rest text text' fault fault' on told told' = on h text text' fault fault' told told'
  goes_one Faulty number h rest text text' fault fault' on told told' = (told.0 ∙ sym told'.0, told.1 ∙ sym told'.1)
  goes_one (Says command) number h rest text text' fault fault' on told told' =
      let same = one h told.1 told'.1 command told.0 told'.0 told.2 told'.2 in
      line_one told'.0 number (rest told'.1) text text' fault fault' (on told'.1)
      (subst (λ l. Answered number l (rest told'.1) text fault) same.0 (subst (λ k. Answered number told.0 (rest k) text fault) same.1 told.3)) told'.3
    where
      line_one : (line : Option (List ℕ)) (number : ℕ) (rest : List ℕ → Option ℕ → Type 0) (text text' : List ℕ) (fault fault' : Option ℕ)
          → ((t t' : List ℕ) (f f' : Option ℕ) → rest t f → rest t' f' → (t ≡ t') × (f ≡ f'))
          → Answered number line rest text fault → Answered number line rest text' fault' → (text ≡ text') × (fault ≡ fault')
      line_one (Some line) number rest text text' fault fault' on told told' =
          let same = on told.0 told'.0 fault fault' told.2 told'.2 in
          (told.1 ∙ ap (λ t. line ++ t) same.0 ∙ sym told'.1, same.1)
      line_one None number rest text text' fault fault' on told told' = (told.0 ∙ sym told'.0, told.1 ∙ sym told'.1)

  pub told_one : (lines : List (List ℕ)) (number : ℕ) (h : H) (text text' : List ℕ) (fault fault' : Option ℕ)
      → Told answers lines number h text fault → Told answers lines number h text' fault' → (text ≡ text') × (fault ≡ fault')
  told_one [] number h text text' fault fault' told told' = (told.0 ∙ sym told'.0, told.1 ∙ sym told'.1)
  told_one (line ∷ lines) number h text text' fault fault' told told' =
      goes_one (kind_of line) number h (Told answers lines (number + 1)) text text' fault fault' (told_one lines (number + 1)) told told'

  goes_begins : (kind : Kind) (number : ℕ) (h : H) (rest rest' : H → List ℕ → Option ℕ → Type 0) (text text' : List ℕ) (fault fault' : Option ℕ)
      → ((h : H) (t t' : List ℕ) (f f' : Option ℕ) → rest h t f → rest' h t' f' → (more : List ℕ) × (t' ≡ t ++ more))
      → Goes answers number h kind rest text fault → Goes answers number h kind rest' text' fault' → (more : List ℕ) × (text' ≡ text ++ more)
  goes_begins Skipped number h rest rest' text text' fault fault' on told told' = on h text text' fault fault' told told'
  goes_begins Faulty number h rest rest' text text' fault fault' on told told' = ([], told'.0 ∙ sym (ap (λ t. t ++ []) told.0))
  goes_begins (Says command) number h rest rest' text text' fault fault' on told told' =
      let same = one h told.1 told'.1 command told.0 told'.0 told.2 told'.2 in
      line_begins told'.0 number (rest told'.1) (rest' told'.1) text text' fault fault' (on told'.1)
      (subst (λ l. Answered number l (rest told'.1) text fault) same.0 (subst (λ k. Answered number told.0 (rest k) text fault) same.1 told.3)) told'.3
    where
      line_begins : (line : Option (List ℕ)) (number : ℕ) (rest rest' : List ℕ → Option ℕ → Type 0) (text text' : List ℕ) (fault fault' : Option ℕ)
          → ((t t' : List ℕ) (f f' : Option ℕ) → rest t f → rest' t' f' → (more : List ℕ) × (t' ≡ t ++ more))
          → Answered number line rest text fault → Answered number line rest' text' fault' → (more : List ℕ) × (text' ≡ text ++ more)
      line_begins (Some line) number rest rest' text text' fault fault' on told told' =
          let behind = on told.0 told'.0 fault fault' told.2 told'.2 in
          (behind.0, told'.1 ∙ ap (λ t. line ++ t) behind.1 ∙ sym (append_assoc line told.0 behind.0) ∙ ap (λ t. t ++ behind.0) (sym told.1))
      line_begins None number rest rest' text text' fault fault' on told told' = ([], told'.0 ∙ sym (ap (λ t. t ++ []) told.0))

  pub told_begins : (done left : List (List ℕ)) (number : ℕ) (h : H) (text text' : List ℕ) (fault fault' : Option ℕ)
      → Told answers done number h text fault → Told answers (done ++ left) number h text' fault' → (more : List ℕ) × (text' ≡ text ++ more)
  told_begins [] left number h text text' fault fault' told told' = (text', ap (λ t. t ++ text') (sym told.0))
  told_begins (line ∷ done) left number h text text' fault fault' told told' =
      goes_begins (kind_of line) number h (Told answers done (number + 1)) (Told answers (done ++ left) (number + 1)) text text' fault fault'
      (told_begins done left (number + 1)) told told'

  pub begun_begins : (lines : List (List ℕ)) (h : H) (begun text : List ℕ) (fault : Option ℕ)
      → BeginsTold answers lines h begun → Told answers lines 1 h text fault → (rest : List ℕ) × (text ≡ begun ++ rest)
  begun_begins lines h begun text fault begins told =
      let more = told_begins begins.0 begins.1 1 h (begun ++ begins.2) text begins.3 fault begins.5 (subst (λ l. Told answers l 1 h text fault) begins.4 told) in
      (begins.2 ++ more.0, more.1 ∙ append_assoc begun begins.2 more.0)

-- one member is picked, or none
first_of_both : (least least' p q : ℕ) → NotAfter least p least' q → NotAfter least' q least p → p ≡ q
first_of_both least least' p q (inl a) (inl b) = absurd (omega arith)
first_of_both least least' p q (inl a) (inr b) = absurd (omega arith)
first_of_both least least' p q (inr a) (inl b) = absurd (omega arith)
first_of_both least least' p q (inr a) (inr b) = omega arith

pick_one : (ready_when : ℕ → Option ℕ) (now : ℕ) (p q : Option ℕ) → IsPick ready_when now p → IsPick ready_when now q → p ≡ q
pick_one ready_when now None None h k = refl
pick_one ready_when now None (Some q) h k = absurd (let late = h q k.0 k.1 in let due = k.2 in omega arith)
pick_one ready_when now (Some p) None h k = absurd (let late = k p h.0 h.1 in let due = h.2 in omega arith)
pick_one ready_when now (Some p) (Some q) h k = ap Some (first_of_both h.0 k.0 p q (h.3 q k.0 k.1) (k.3 p h.0 h.1))

taken_one : (tenant : ℕ) (taken : Bool) (section : SectionData) (past : List Own) (step : Own) (o o' : Outcome)
    → IsTakenOrNot taken tenant section past true step o → IsTakenOrNot taken tenant section past true step o' → o ≡ o'
taken_one tenant true section past step o o' h k = h ∙ sym k
taken_one tenant false section past step o o' h k = h ∙ sym k

answered_one : (tenant : ℕ) (section : Option SectionData) (past : List Own) (step : OwnStep) (o o' : Outcome)
    → IsAnswered tenant section past true step o → IsAnswered tenant section past true step o' → o ≡ o'
answered_one tenant None past step o o' h k = h ∙ sym k
answered_one tenant (Some section) past step o o' h k = taken_one tenant (is_taken section step) section past step.step o o' h k

turned_one : (settings : SettingsData) (pasts : ℕ → List Own) (shard : ℕ) (step : OwnStep) (picked : Option ℕ) (o o' : Outcome)
    → IsTurned (lives_of settings pasts shard) step picked o → IsTurned (lives_of settings pasts shard) step picked o' → o ≡ o'
turned_one settings pasts shard step None o o' h k = h ∙ sym k
turned_one settings pasts shard step (Some tenant) o o' h k = answered_one tenant (section_in settings shard tenant) (pasts tenant) step o o' h k

outcome_one : (settings : SettingsData) (pasts : ℕ → List Own) (shard : ℕ) (named : Option ℕ) (step : OwnStep) (o o' : Outcome)
    → IsOutcomeOf named (lives_of settings pasts shard) [] (Piped step) o → IsOutcomeOf named (lives_of settings pasts shard) [] (Piped step) o' → o ≡ o'
outcome_one settings pasts shard (Some tenant) step o o' h k = answered_one tenant (section_in settings shard tenant) (pasts tenant) step o o' h k
outcome_one settings pasts shard None step o o' h k =
    let same = pick_one _ _ h.0 k.0 h.1 k.1 in
    turned_one settings pasts shard step k.0 o o' (subst (λ p. IsTurned (lives_of settings pasts shard) step p o) same h.2) k.2

stepped_one : (settings : SettingsData) (pasts later later' : ℕ → List Own) (shard : ℕ) (named : Option ℕ) (step : OwnStep) (line line' : Option (List ℕ))
    → IsStepped settings pasts shard named step line later → IsStepped settings pasts shard named step line' later' → (line ≡ line') × (later ≡ later')
stepped_one settings pasts later later' shard named step line line' h k =
    let same = outcome_one settings pasts shard named step h.0 k.0 h.1.0 k.1.0 in (
      h.1.1 ∙ ap (λ o. Some (outcome_text settings shard o)) same ∙ sym k.1.1,
      h.1.2 ∙ ap (λ o. joined named step o (lives_of settings pasts shard)) same ∙ sym k.1.2,
    )

one_section : (found : Option SectionData) (s t : SectionData) → found ≡ Some s → found ≡ Some t → s ≡ t
one_section found s t e f = let same : ◌≡◌ {A = Option SectionData} (Some s) (Some t) = sym e ∙ f in cc

one_session : (a b : Session) → a.table ≡ b.table → a.pasts ≡ b.pasts → a ≡ b
one_session a b table pasts = λ i. record { table = table i; pasts = pasts i }

module _ (one_value : (body : List ℕ) (v v' : RequestData) → IsValue body v → IsValue body v' → v ≡ v') where
  posted_one : (settings : SettingsData) (pasts later later' : ℕ → List Own) (tenant : ℕ) (name : List ℕ) (moment : ℕ) (body : List ℕ) (line line' : Option (List ℕ))
      → IsPosted settings pasts tenant name moment body line later → IsPosted settings pasts tenant name moment body line' later' → (line ≡ line') × (later ≡ later')
  posted_one settings pasts later later' tenant name moment body line line' (inl h) (inl k) =
      let kept = one_section (section_at settings tenant) h.0 k.0 h.2 k.2 in
      let value = one_value body h.1 k.1 h.3 k.3 in
      let same : posted moment tenant h.0 h.1 ≡ posted moment tenant k.0 k.1 = λ i. posted moment tenant (kept i) (value i) in
      stepped_one settings pasts later later' (tenant % settings.global.shards) (Some tenant) (posted moment tenant k.0 k.1) line line'
      (subst (λ p. IsSteppedFor settings pasts tenant p line later) same h.4) k.4
  posted_one settings pasts later later' tenant name moment body line line' (inl h) (inr k) = absurd (k.0 h.1 h.3)
  posted_one settings pasts later later' tenant name moment body line line' (inr h) (inl k) = absurd (h.0 k.1 k.3)
  posted_one settings pasts later later' tenant name moment body line line' (inr h) (inr k) = (h.1 ∙ sym k.1, h.2 ∙ sym k.2)

  posted_to_one : (settings : SettingsData) (pasts later later' : ℕ → List Own) (found : Option ℕ) (name : List ℕ) (moment : ℕ) (body : List ℕ) (line line' : Option (List ℕ))
      → IsPostedTo settings pasts found name moment body line later → IsPostedTo settings pasts found name moment body line' later' → (line ≡ line') × (later ≡ later')
  posted_to_one settings pasts later later' None name moment body line line' h k = (h.0 ∙ sym k.0, h.1 ∙ sym k.1)
  posted_to_one settings pasts later later' (Some tenant) name moment body line line' h k = posted_one settings pasts later later' tenant name moment body line line' h k

  asked_one : (settings : SettingsData) (pasts later later' : ℕ → List Own) (found : Option ℕ) (step : Own) (line line' : Option (List ℕ))
      → IsAskedOf settings pasts found step line later → IsAskedOf settings pasts found step line' later' → (line ≡ line') × (later ≡ later')
  asked_one settings pasts later later' None step line line' h k = (h.0 ∙ sym k.0, h.1 ∙ sym k.1)
  asked_one settings pasts later later' (Some tenant) step line line' h k =
      stepped_one settings pasts later later' (tenant % settings.global.shards) (Some tenant) (plain step) line line' h k

  turn_one : (settings : SettingsData) (pasts later later' : ℕ → List Own) (shard moment : ℕ) (b : Bool) (line line' : Option (List ℕ))
      → MatchBool b (IsStepped settings pasts shard None (plain (own.Turn moment)) line later) ((line ≡ None) × (later ≡ pasts))
      → MatchBool b (IsStepped settings pasts shard None (plain (own.Turn moment)) line' later') ((line' ≡ None) × (later' ≡ pasts)) → (line ≡ line') × (later ≡ later')
  turn_one settings pasts later later' shard moment true line line' h k = stepped_one settings pasts later later' shard None (plain (own.Turn moment)) line line' h k
  turn_one settings pasts later later' shard moment false line line' h k = (h.0 ∙ sym k.0, h.1 ∙ sym k.1)

  -- a retirement
  retired_one : (old new new' : Session) (found : Option ℕ) (moment : ℕ) (line line' : Option (List ℕ)) → IsRetired old found moment line new → IsRetired old found moment line' new'
      → (line ≡ line') × (new ≡ new')
  retired_one old new new' None moment line line' h k = (h.0 ∙ sym k.0, h.1 ∙ sym k.1)
  retired_one old new new' (Some tenant) moment line line' h k =
      let shard = tenant % old.table.global.shards in
      let same = outcome_one old.table old.pasts (tenant % old.table.global.shards) (Some tenant) (plain (own.Retire moment)) h.0 k.0 h.1.0 k.1.0 in
      let told = stepped_one old.table old.pasts new.pasts new'.pasts shard (Some tenant) (plain (own.Retire moment)) line line' (h.0, h.1) (k.0, k.1) in
      (told.0, one_session new new' (h.2 ∙ ap (λ o. without tenant o old.table) same ∙ sym k.2) told.1)

  -- a tenant that comes, or a document that is refused
  added_one : (old new new' : Session) (means : Result SettingsData FaultData) (line line' : Option (List ℕ)) → IsAdded old means line new → IsAdded old means line' new' → (line ≡ line') × (new ≡ new')
  added_one old new new' (Ok table) line line' h k = (h.0 ∙ sym k.0, h.1 ∙ sym k.1)
  added_one old new new' (Err fault) line line' h k = (h.0 ∙ sym k.0, h.1 ∙ sym k.1)

  -- the settings stay
  kept_one : (old new new' : Session) (line line' : Option (List ℕ)) → new.table ≡ old.table → new'.table ≡ old.table → (line ≡ line') × (new.pasts ≡ new'.pasts) → (line ≡ line') × (new ≡ new')
  kept_one old new new' line line' h k same = (same.0, one_session new new' (h ∙ sym k) same.1)

  pub script_answered_one : (old new new' : Session) (command : CommandData) (line line' : Option (List ℕ))
      → of_script.IsAnswered old command line new → of_script.IsAnswered old command line' new' → (line ≡ line') × (new ≡ new')
  script_answered_one old new new' (Post name moment body) line line' h k =
      kept_one old new new' line line' h.0 k.0 (posted_to_one old.table old.pasts new.pasts new'.pasts (number_of old.table name) name moment body line line' h.1 k.1)
  script_answered_one old new new' (Turn shard moment) line line' h k =
      kept_one old new new' line line' h.0 k.0 (turn_one old.table old.pasts new.pasts new'.pasts shard moment (nat_lt shard old.table.global.shards) line line' h.1 k.1)
  script_answered_one old new new' (Answer name moment ticket word answer) line line' h k =
      kept_one old new new' line line' h.0 k.0 (asked_one old.table old.pasts new.pasts new'.pasts (number_of old.table name) (own.Answer moment ticket word answer) line line' h.1 k.1)
  script_answered_one old new new' (Report name moment) line line' h k =
      kept_one old new new' line line' h.0 k.0 (asked_one old.table old.pasts new.pasts new'.pasts (number_of old.table name) (own.Report moment) line line' h.1 k.1)
  script_answered_one old new new' (Drain name moment) line line' h k =
      kept_one old new new' line line' h.0 k.0 (asked_one old.table old.pasts new.pasts new'.pasts (number_of old.table name) (own.Drain moment) line line' h.1 k.1)
  script_answered_one old new new' (Add document) line line' h k = added_one old new new' (arrived old.table document) line line' h k
  script_answered_one old new new' (Retire name moment) line line' h k = retired_one old new new' (number_of old.table name) moment line line' h k

pub same_value : ((body : List ℕ) (v : RequestData) → (value_of body ≡ Ok v) ↔ IsValue body v) → (body : List ℕ) (v v' : RequestData) → IsValue body v → IsValue body v' → v ≡ v'
same_value exact body v v' h k =
    let same : ◌≡◌ {A = Result RequestData ReadFault} (Ok v) (Ok v') = sym ((exact body v).1 h) ∙ (exact body v').1 k in cc
