-- Each tenant's lines are what it alone is answered to its own commands.
use Rattle.std.proofs.Common.{◌≡◌, ◌≢◌, ◌+◌, ◌%◌, ◌==◌, ◌&&◌, ◌⊎◌, ℕ, Bool, true, false, cond, nat_lt, List, [], ◌∷◌, ◌++◌, codes, Option, Some, None, Result, Ok, Err, refl, ap, sym, subst, ◌∙◌, arith, inl, inr}
use Rattle.std.specs.Bool.{MatchBool}
use Rattle.std.specs.List.{filter}
use Rattle.std.specs.Option.{option_map}
use Rattle.std.specs.Str.{bytes_eq}
use Rattle.std.proofs.lemmas.Bool.{ne_eqb, eq-eqb}
use Rattle.std.proofs.lemmas.Bool.Decides.{eqb_tells}
use Rattle.std.proofs.lemmas.List.{append-nil, append_assoc}
use Rattle.std.proofs.lemmas.Option.{same_Some}
use Rattle.std.proofs.lemmas.Slice.Eq.{bytes_eq-Decides}
use Rattle.tail_settings.specs.Change.{struck}
use Rattle.tail_settings.specs.Fault.{FaultData, fault_number}
use Rattle.tail_settings.specs.Section.{SectionData}
use Rattle.tail_settings.specs.Settings.{SettingsData, TenantData, tenant_at, section_at, number_of}
use Rattle.tenant_rules.specs.declared.reply.StepReply.{StepReply as What}
use Rattle.tenant_rules.specs.declared.reply.StepReply.TheVariants as replies
use Rattle.tenant_rules.specs.Own.{Own}
use Rattle.tenant_rules.specs.Own as own
use Rattle.tenant_rules.specs.Ready.{ready}
use Rattle.tenant_rules.specs.State.{state}
use Rattle.tenant_rules.specs.Answers.{answer}
use Rattle.tenant_shard.specs.declared.step.Outcome.{Outcome}
use Rattle.tenant_shard.specs.declared.step.Outcome.TheVariants.{Idle}
use Rattle.tenant_shard.specs.Outcomes.{OwnStep, plain, Answered, named, is_taken, is_tenant, told_whom}
use Rattle.tenant_shard.specs.Pick.{ready_after, ready_at}
use Rattle.shard_agenda.specs.Pick.{IsPick}
use Rattle.tenant_shard.specs.Run.{IsTurned}
use Rattle.replay_script.specs.Word.{words_of}
use Rattle.replay_script.specs.Command.{CommandData, Post, Turn, Answer, Report, Drain, Add, Retire}
use Rattle.replay_script.specs.Line.{Kind, Skipped, Says, Faulty, kind_of, lines_of}
use Rattle.replay_script.specs.Answer.{reply_text, added_text, refused_text}
use Rattle.replay_script.specs.Transcript.{Goes, Told}
use Rattle.replay_script.specs.Transcript as script
use Rattle.replay_script.proofs.Lines.{line_ended}
use Rattle.replay_script.proofs.Plain.{IsPlain}
use Rattle.trace_collector.specs.Outcomes.{name_at, outcome_text, told_text, bad_protobuf}
use Rattle.trace_collector.specs.Session.{Session, begun, new_among}
use Rattle.trace_collector.specs.Answered.{section_in, lives_of, recorded, joined, posted, IsStepped, IsSteppedFor, IsPosted, IsPostedTo, IsAskedOf, without, IsRetired, arrived, IsAdded}
use Rattle.trace_collector.specs.Answered as collector
use Rattle.trace_collector.specs.Own.{names, is_own, is_report, is_last, of_any_shard, commands_from, commands_of, lines_until_last, own_among}
use Rattle.trace_collector.specs.Alone.{IsStepAlone, post_alone, IsPostAlone, IsReadyBy, IsAnsweredAlone, AnswersAlone, tenant_in, IsWelcome, ComesAmong, Begins, EachAlone}
use Rattle.trace_collector.specs.Script.{ScriptText, BeginsScriptText, ScriptToldSoFar}
use Rattle.trace_collector.proofs.Arrives.{arrives}
use Rattle.trace_collector.proofs.OneLine.{IsWord, IsLineOf, reply_line, told_line, idle_line, added_line, refused_document_line, is_report_told}
use Rattle.trace_collector.proofs.ToldPlain.{answer_plain}
use Rattle.trace_collector.proofs.Named.{AreNamed, AreListed, listed_named, none_at_next, word_of, name_of_number, listed_joined, stays_joined, joined_at_next, new_name_apart, listed_struck, others_struck}
use Rattle.trace_collector.proofs.Places.{some_same}
use Rattle.trace_collector.proofs.Taken.{own_policies, piped_told, joins, named_text, stepped_outcome, stepped_told, stepped_others}

-- what a tenant has of a command that was answered: its own answer, or nothing
abbrev Part : TenantData → CommandData → List ℕ → List ℕ → List Own → List Own → Type 0
Part tenant command content line past later =
    ((is_own tenant.name command content ≡ true) × (names tenant.name content ≡ true) × IsAnsweredAlone tenant.name tenant.section past (of_any_shard command) line later)
    ⊎ ((is_own tenant.name command content ≡ false) × (names tenant.name content ≡ false) × (later ≡ past))

-- what each tenant of these settings has of it
record Sees (settings : SettingsData) (pasts later : ℕ → List Own) (command : CommandData) (line : List ℕ) : Type 0 where
  content : List ℕ
  line_is : line ≡ content ++ codes "\n"
  plain : IsPlain content
  parts : (number : ℕ) (tenant : TenantData) → tenant_at settings number ≡ Some tenant → Part tenant command content line (pasts number) (later number)

is_false : (b : Bool) → (b ≡ true → ⊥) → b ≡ false
is_false true e = absurd (e refl)
is_false false e = refl

-- two names that aren't the same
differ : (a b : List ℕ) → (a ≡ b → ⊥) → bytes_eq a b ≡ false
differ a b apart = is_false (bytes_eq a b) (λ e. apart ((bytes_eq-Decides a b).0 e))

-- a command of one tenant, as all see it
module _ (settings : SettingsData) (pasts later : ℕ → List Own) (command : CommandData) (line : List ℕ) (number : ℕ) (tenant : TenantData) (reports : Bool) (are : AreNamed settings)
    (at : tenant_at settings number ≡ Some tenant) (is : IsLineOf tenant.name line reports)
    (owns : (other : List ℕ) → is_own other command is.content ≡ bytes_eq tenant.name other)
    (alone : IsAnsweredAlone tenant.name tenant.section (pasts number) (of_any_shard command) line (later number))
    (others : (other : ℕ) → other ≢ number → later other ≡ pasts other) where
  one_part : (other : ℕ) (seer : TenantData) → tenant_at settings other ≡ Some seer → Part seer command is.content line (pasts other) (later other)
  one_part other seer at_other = elim (eqb_tells other number) [
    | inl here ↦
        let same : tenant ≡ seer = some_same (tenant_at settings number) tenant seer at (subst (λ n. tenant_at settings n ≡ Some seer) here.1 at_other) in
        let yes : bytes_eq tenant.name tenant.name ≡ true = (bytes_eq-Decides tenant.name tenant.name).1 refl in
        let part : Part tenant command is.content line (pasts number) (later number) = inl (owns tenant.name ∙ yes, is.named tenant.name ∙ yes, alone) in
        subst (λ t. Part t command is.content line (pasts other) (later other)) same (subst (λ n. Part tenant command is.content line (pasts n) (later n)) (sym here.1) part)
    | inr there ↦
        let apart : bytes_eq tenant.name seer.name ≡ false = differ tenant.name seer.name (λ e. there.1 (sym (are.apart number other tenant seer at at_other e))) in
        inr (owns seer.name ∙ apart, is.named seer.name ∙ apart, others other there.1)
  ]

  one_tenant : Sees settings pasts later command line
  one_tenant = record { content = is.content; line_is = is.line_is; plain = is.plain; parts = one_part }

some_line : (a b : List ℕ) → ◌≡◌ {A = Option (List ℕ)} (Some a) (Some b) → a ≡ b
some_line a b e = same_Some a b e

section_is : (settings : SettingsData) (number : ℕ) (tenant : TenantData) → tenant_at settings number ≡ Some tenant → section_at settings number ≡ Some tenant.section
section_is settings number tenant at = ap (option_map (λ t. t.section)) at

-- what a step that names a tenant is answered is what the tenant alone is answered
stepped_alone : (settings : SettingsData) (pasts later : ℕ → List Own) (number : ℕ) (tenant : TenantData) (step : OwnStep) (line : List ℕ) → tenant_at settings number ≡ Some tenant
    → IsWord tenant.name → is_taken tenant.section step ≡ true → IsSteppedFor settings pasts number step (Some line) later
    → IsLineOf tenant.name line (is_report_told (answer tenant.section (pasts number) step.step)) × IsStepAlone tenant.name tenant.section (pasts number) step.step line (later number)
stepped_alone settings pasts later number tenant step line at word taken stepped =
    let told = stepped_told settings pasts later number tenant.section step (Some line) (section_is settings number tenant at) taken stepped in
    let said = answer tenant.section (pasts number) step.step in
    let is : line ≡ told_text tenant.name (answer tenant.section (pasts number) step.step) =
    some_line _ _ told.0 ∙ ap (λ n. told_text n (answer tenant.section (pasts number) step.step)) (name_of_number settings number tenant at) in (
      subst (λ l. IsLineOf tenant.name l (is_report_told (answer tenant.section (pasts number) step.step))) (sym is) (told_line tenant.name said word (answer_plain tenant.section (pasts number) step.step)),
      (is, told.1),
    )

-- what a body is answered is what its tenant alone is answered
posted_alone : (settings : SettingsData) (pasts later : ℕ → List Own) (number : ℕ) (tenant : TenantData) (name : List ℕ) (moment : ℕ) (body line : List ℕ)
    → tenant_at settings number ≡ Some tenant → name ≡ tenant.name → IsWord tenant.name → IsPosted settings pasts number name moment body (Some line) later
    → (reports : Bool) × IsLineOf tenant.name line reports × IsPostAlone tenant.name tenant.section (pasts number) moment body line (later number)
posted_alone settings pasts later number tenant name moment body line at same word (inl h) =
    let section : h.0 ≡ tenant.section = some_same (section_at settings number) h.0 tenant.section h.2 (section_is settings number tenant at) in
    let stepped = subst (λ s. IsSteppedFor settings pasts number (posted moment number s h.1) (Some line) later) section h.4 in
    let alone = stepped_alone settings pasts later number tenant (posted moment number tenant.section h.1) line at word (own_policies tenant.section.tail_sampling.policies) stepped in
    (is_report_told (answer tenant.section (pasts number) (post_alone moment h.1)), alone.0, inl (h.1, h.3, alone.1))
posted_alone settings pasts later number tenant name moment body line at same word (inr h) =
    let is : line ≡ reply_text tenant.name 400 bad_protobuf = some_line _ _ h.1 ∙ ap (λ n. reply_text n 400 bad_protobuf) same in
    (false, subst (λ l. IsLineOf tenant.name l false) (sym is) (reply_line tenant.name 400 bad_protobuf word), inr (h.0, is, ap (λ f. f number) h.2))

-- a body of one tenant leaves the others' pasts
posted_others : (settings : SettingsData) (pasts later : ℕ → List Own) (tenant : ℕ) (name : List ℕ) (moment : ℕ) (body : List ℕ) (line : Option (List ℕ)) (other : ℕ) → other ≢ tenant
    → IsPosted settings pasts tenant name moment body line later → later other ≡ pasts other
posted_others settings pasts later tenant name moment body line other apart (inl h) =
    stepped_others settings pasts later tenant (posted moment tenant h.0 h.1) line other apart h.4
posted_others settings pasts later tenant name moment body line other apart (inr h) = ap (λ f. f other) h.2

post_sees : (settings : SettingsData) (pasts later : ℕ → List Own) (found : Option ℕ) (name : List ℕ) (moment : ℕ) (body line : List ℕ) → AreNamed settings
    → number_of settings name ≡ found → IsPostedTo settings pasts found name moment body (Some line) later → Sees settings pasts later (Post name moment body) line
post_sees settings pasts later None name moment body line are is posted = absurd (let never = posted.0 in cc)
post_sees settings pasts later (Some number) name moment body line are is posted =
    let found = are.known name number is in
    let alone = posted_alone settings pasts later number found.0 name moment body line found.1 found.2 (are.words number found.0 found.1) posted in
    one_tenant settings pasts later (Post name moment body) line number found.0 alone.0 are found.1 alone.1 (λ reader. ap (λ n. bytes_eq n reader) found.2) alone.2
    (λ reader apart. posted_others settings pasts later number name moment body (Some line) reader apart posted)

-- a step that names its tenant
named_sees : (settings : SettingsData) (pasts later : ℕ → List Own) (number : ℕ) (tenant : TenantData) (name : List ℕ) (command : CommandData) (step : Own) (line : List ℕ) → AreNamed settings
    → tenant_at settings number ≡ Some tenant → name ≡ tenant.name → IsSteppedFor settings pasts number (plain step) (Some line) later
    → ((reader content : List ℕ) → is_own reader command content ≡ bytes_eq name reader)
    → ((n : List ℕ) (s : SectionData) (past behind : List Own) (l : List ℕ) → IsStepAlone n s past step l behind → IsAnsweredAlone n s past (of_any_shard command) l behind)
    → (is : IsLineOf tenant.name line (is_report_told (answer tenant.section (pasts number) step))) × (sees : Sees settings pasts later command line) × (sees.content ≡ is.content)
unfolding stepped_alone one_tenant
named_sees settings pasts later number tenant name command step line are at same asked owns alone_is =
    let alone = stepped_alone settings pasts later number tenant (plain step) line at (are.words number tenant at) refl asked in (
      alone.0,
      one_tenant settings pasts later command line number tenant (is_report_told (answer tenant.section (pasts number) step)) are at alone.0
          (λ reader. owns reader alone.0.content ∙ ap (λ n. bytes_eq n reader) same)
          (alone_is tenant.name tenant.section (pasts number) (later number) line alone.1)
          (λ reader apart. stepped_others settings pasts later number (plain step) (Some line) reader apart asked),
      refl,
    )

-- an answer, a report or a drain
ask_sees : (settings : SettingsData) (pasts later : ℕ → List Own) (found : Option ℕ) (name : List ℕ) (command : CommandData) (step : Own) (line : List ℕ) → AreNamed settings
    → number_of settings name ≡ found → IsAskedOf settings pasts found step (Some line) later
    → ((reader content : List ℕ) → is_own reader command content ≡ bytes_eq name reader)
    → ((n : List ℕ) (s : SectionData) (past behind : List Own) (l : List ℕ) → IsStepAlone n s past step l behind → IsAnsweredAlone n s past (of_any_shard command) l behind)
    → Sees settings pasts later command line
ask_sees settings pasts later None name command step line are is asked owns alone_is = absurd (let never = asked.0 in cc)
ask_sees settings pasts later (Some number) name command step line are is asked owns alone_is =
    let found = are.known name number is in
    (named_sees settings pasts later number found.0 name command step line are found.1 found.2 asked owns alone_is).1

pub turned_whom : (number : ℕ) (said : What) → told_whom (named number (Answered said)) ≡ Some number
turned_whom number (replies.Reply reply) = refl
turned_whom number (replies.Job ticket payload) = refl
turned_whom number replies.Worked = refl
turned_whom number replies.Done = refl
turned_whom number (replies.Report report) = refl
turned_whom number replies.UnknownTicket = refl
turned_whom number replies.NotEmpty = refl

-- who is ready has a section
has_section : (found : Option SectionData) (past : List Own) (seen : Option ℕ) (least : ℕ) → ready_after found past true seen ≡ Some least
    → (section : SectionData) × (found ≡ Some section) × (ready (state section past) ≡ Some least)
has_section None past seen least is = absurd (cc)
has_section (Some section) past seen least is = (section, refl, is)

within_shard : (leaves : Bool) (found : Option SectionData) (section : SectionData) → cond leaves found None ≡ Some section → found ≡ Some section
within_shard true found section is = is
within_shard false found section is = absurd (cc)

tenant_of : (found : Option TenantData) (section : SectionData) → option_map (λ t. t.section) found ≡ Some section → (tenant : TenantData) × (found ≡ Some tenant) × (tenant.section ≡ section)
tenant_of None section is = absurd (cc)
tenant_of (Some tenant) section is = (tenant, refl, same_Some tenant.section section is)

-- the past after a turn whose outcome names this tenant, or none
pub turn_past : (settings : SettingsData) (pasts : ℕ → List Own) (shard moment : ℕ) (outcome : Outcome) (whom : Option ℕ) (other : ℕ) → told_whom outcome ≡ whom
    → joined None (plain (own.Turn moment)) outcome (lives_of settings pasts shard) other ≡ cond (is_tenant other whom) (recorded (section_in settings shard other) (plain (own.Turn moment)) (pasts other)) (pasts other)
turn_past settings pasts shard moment outcome whom other is =
    ap (λ w. cond (is_tenant other w) (recorded (section_in settings shard other) (plain (own.Turn moment)) (pasts other)) (pasts other)) is

idle_sees : (settings : SettingsData) (pasts later : ℕ → List Own) (shard moment : ℕ) (outcome : Outcome) (line : List ℕ) → outcome ≡ Idle
    → line ≡ outcome_text settings shard outcome → later ≡ joined None (plain (own.Turn moment)) outcome (lives_of settings pasts shard)
    → Sees settings pasts later (Turn shard moment) line
idle_sees settings pasts later shard moment outcome line idle is left =
    let none = idle_line shard in
    record {
      content = none.content;
      line_is = is ∙ ap (outcome_text settings shard) idle ∙ none.line_is;
      plain = none.plain;
      parts = λ other seer at.
          inr (none.named seer.name, none.named seer.name, ap (λ f. f other) left ∙ turn_past settings pasts shard moment outcome None other (ap told_whom idle));
    }

worked_sees : (settings : SettingsData) (pasts later : ℕ → List Own) (shard moment number : ℕ) (section : SectionData) (tenant : TenantData) (outcome : Outcome) (line : List ℕ) → AreNamed settings
    → section_in settings shard number ≡ Some section → IsReadyBy section (pasts number) moment → tenant_at settings number ≡ Some tenant → tenant.section ≡ section
    → outcome ≡ named number (Answered (answer section (pasts number) (own.Turn moment)))
    → line ≡ outcome_text settings shard outcome → later ≡ joined None (plain (own.Turn moment)) outcome (lives_of settings pasts shard)
    → Sees settings pasts later (Turn shard moment) line
worked_sees settings pasts later shard moment number section tenant outcome line are found ready_by at same_section told is left =
    let said = answer tenant.section (pasts number) (own.Turn moment) in
    let outcome_is : outcome ≡ named number (Answered (answer tenant.section (pasts number) (own.Turn moment))) =
    told ∙ ap (λ s. named number (Answered (answer s (pasts number) (own.Turn moment)))) (sym same_section) in
    let line_is : line ≡ told_text tenant.name (answer tenant.section (pasts number) (own.Turn moment)) =
    is ∙ ap (outcome_text settings shard) outcome_is ∙ named_text settings shard number said ∙ ap (λ n. told_text n (answer tenant.section (pasts number) (own.Turn moment))) (name_of_number settings number tenant at) in
    let line_of = subst (λ l. IsLineOf tenant.name l (is_report_told (answer tenant.section (pasts number) (own.Turn moment)))) (sym line_is)
    (told_line tenant.name said (are.words number tenant at) (answer_plain tenant.section (pasts number) (own.Turn moment))) in
    let whom = ap told_whom outcome_is ∙ turned_whom number said in
    let yes : (number == number) ≡ true = eq-eqb number number refl in
    one_tenant settings pasts later (Turn shard moment) line number tenant (is_report_told (answer tenant.section (pasts number) (own.Turn moment))) are at line_of line_of.named (
      subst (λ s. IsReadyBy s (pasts number) moment) (sym same_section) ready_by,
      (line_is, ap (λ f. f number) left ∙ turn_past settings pasts shard moment outcome (Some number) number whom ∙ rw yes (joins section (section_in settings shard number) (pasts number) (plain (own.Turn moment)) found refl)),
    )
    (λ reader apart.
    let is_not : (number == reader) ≡ false = ne_eqb number reader (λ e. apart (sym e)) in
    ap (λ f. f reader) left ∙ turn_past settings pasts shard moment outcome (Some number) reader whom ∙ rw is_not refl)

turned_sees : (settings : SettingsData) (pasts later : ℕ → List Own) (shard moment : ℕ) (picked : Option ℕ) (outcome : Outcome) (line : List ℕ) → AreNamed settings
    → IsPick (ready_at (lives_of settings pasts shard) []) (own.moment_of (own.Turn moment)) picked → IsTurned (lives_of settings pasts shard) (plain (own.Turn moment)) picked outcome
    → line ≡ outcome_text settings shard outcome → later ≡ joined None (plain (own.Turn moment)) outcome (lives_of settings pasts shard)
    → Sees settings pasts later (Turn shard moment) line
turned_sees settings pasts later shard moment None outcome line are pick turned is left = idle_sees settings pasts later shard moment outcome line turned is left
turned_sees settings pasts later shard moment (Some number) outcome line are pick turned is left =
    let section = has_section (section_in settings shard number) (pasts number) None pick.0 pick.1 in
    let tenant = tenant_of (tenant_at settings number) section.0 (within_shard (number % settings.global.shards == shard) (section_at settings number) section.0 section.1) in
    worked_sees settings pasts later shard moment number section.0 tenant.0 outcome line are section.1 (pick.0, section.2, pick.2) tenant.1 tenant.2
    (piped_told number section.0 (section_in settings shard number) (pasts number) (plain (own.Turn moment)) outcome section.1 refl turned) is left

turn_sees : (settings : SettingsData) (pasts later : ℕ → List Own) (shard moment : ℕ) (below : Bool) (line : List ℕ) → AreNamed settings
    → MatchBool below (IsStepped settings pasts shard None (plain (own.Turn moment)) (Some line) later) ((◌≡◌ {A = Option (List ℕ)} (Some line) None) × (later ≡ pasts))
    → Sees settings pasts later (Turn shard moment) line
turn_sees settings pasts later shard moment true line are stepped =
    turned_sees settings pasts later shard moment stepped.1.0.0 stepped.0 line are stepped.1.0.1 stepped.1.0.2 (some_line _ _ stepped.1.1) stepped.1.2
turn_sees settings pasts later shard moment false line are none = absurd (let never = none.0 in cc)

-- ---- who comes and who leaves

-- what a command that was answered leaves: what each tenant has of it, whose last command it was, and the settings
record Tells (old new : Session) (command : CommandData) (line : List ℕ) : Type 0 where
  sees : Sees old.table old.pasts new.pasts command line
  stays : (number : ℕ) (tenant : TenantData) → tenant_at old.table number ≡ Some tenant → is_last tenant.name command sees.content ≡ false → tenant_at new.table number ≡ Some tenant
  listed : AreListed new.table

-- the settings are the same
tells_same : (old new : Session) (command : CommandData) (line : List ℕ) → AreListed old.table → new.table ≡ old.table → Sees old.table old.pasts new.pasts command line → Tells old new command line
tells_same old new command line are same sees = record {
  sees = sees;
  stays = λ number tenant at last. subst (λ s. tenant_at s number ≡ Some tenant) (sym same) at;
  listed = subst AreListed (sym same) are;
}

new_pasts : (pasts : ℕ → List Own) (number other : ℕ) → other ≢ number → new_among pasts number other ≡ pasts other
new_pasts pasts number other apart = rw (ne_eqb other number apart) refl

-- a tenant came
came_tells : (old : Session) (document : List ℕ) (table : SettingsData) (line : List ℕ) → AreListed old.table → arrived old.table document ≡ Ok table
    → line ≡ added_text (name_at table old.table.next) old.table.next
    → Tells old (record { table = table; pasts = new_among old.pasts old.table.next }) (Add document) line
came_tells old document table line are means is =
    let brings = arrives old.table document table means in
    let none = none_at_next old.table are (tenant_at old.table old.table.next) refl in
    let there : tenant_at table old.table.next ≡ Some brings.tenant =
    subst (λ s. tenant_at s old.table.next ≡ Some brings.tenant) brings.joins (joined_at_next old.table brings.tenant old.table.next none brings.new.number) in
    let named_so : line ≡ added_text brings.tenant.name old.table.next = is ∙ ap (λ n. added_text n old.table.next) (name_of_number table old.table.next brings.tenant there) in
    let line_of = added_line brings.tenant.name old.table.next (word_of brings.tenant.name brings.new.name) in
    record {
      sees = record {
        content = line_of.content;
        line_is = named_so ∙ line_of.line_is;
        plain = line_of.plain;
        parts = λ number seer at. inr (
          refl,
          line_of.named seer.name ∙ differ brings.tenant.name seer.name (new_name_apart old.table brings.tenant seer number brings.new at),
          new_pasts old.pasts old.table.next number (λ e. nobody _ seer none (subst (λ n. tenant_at old.table n ≡ Some seer) e at)),
        );
      };
      stays = λ number seer at last. subst (λ s. tenant_at s number ≡ Some seer) brings.joins (stays_joined old.table brings.tenant seer number at);
      listed = subst AreListed brings.joins (listed_joined old.table brings.tenant are brings.new);
    }
  where
    nobody : (found : Option TenantData) (t : TenantData) → found ≡ None → found ≡ Some t → ⊥
    nobody found t none some = let never : ◌≡◌ {A = Option TenantData} None (Some t) = sym none ∙ some in cc

add_tells : (old new : Session) (document line : List ℕ) (means : Result SettingsData FaultData) → AreListed old.table → arrived old.table document ≡ means → IsAdded old means (Some line) new
    → Tells old new (Add document) line
add_tells old new document line (Ok table) are means added =
    subst (λ n. Tells old n (Add document) line) (sym added.1) (came_tells old document table line are means (some_line _ _ added.0))
add_tells old new document line (Err fault) are means added =
    let none = refused_document_line fault in
    subst (λ n. Tells old n (Add document) line) (sym added.1) (tells_same old old (Add document) line are refl (record {
      content = none.content;
      line_is = some_line _ _ added.0 ∙ none.line_is;
      plain = none.plain;
      parts = λ number seer at. inr (refl, none.named seer.name, refl);
    }))

-- whoever is told its last report leaves
pub without_is : (number : ℕ) (said : What) (settings : SettingsData) → without number (named number (Answered said)) settings ≡ cond (is_report_told said) (struck settings number) settings
without_is number (replies.Reply reply) settings = refl
without_is number (replies.Job ticket payload) settings = refl
without_is number replies.Worked settings = refl
without_is number replies.Done settings = refl
without_is number (replies.Report report) settings = refl
without_is number replies.UnknownTicket settings = refl
without_is number replies.NotEmpty settings = refl

without_listed : (settings : SettingsData) (number : ℕ) (b : Bool) → AreListed settings → AreListed (cond b (struck settings number) settings)
without_listed settings number true are = listed_struck settings number are
without_listed settings number false are = are

others_without : (settings : SettingsData) (number other : ℕ) (seer : TenantData) (b : Bool) → other ≢ number → tenant_at settings other ≡ Some seer
    → tenant_at (cond b (struck settings number) settings) other ≡ Some seer
others_without settings number other seer true apart at = others_struck settings number other apart ∙ at
others_without settings number other seer false apart at = at

-- who isn't told a report stays
own_without : (settings : SettingsData) (number : ℕ) (tenant : TenantData) (b : Bool) → b ≡ false → tenant_at settings number ≡ Some tenant
    → tenant_at (cond b (struck settings number) settings) number ≡ Some tenant
own_without settings number tenant true is at = absurd (cc)
own_without settings number tenant false is at = at

both : (a b : Bool) → a ≡ true → (a && b) ≡ false → b ≡ false
both true b is none = none
both false b is none = absurd (cc)

retire_tells : (old new : Session) (found : Option ℕ) (name : List ℕ) (moment : ℕ) (line : List ℕ) → AreListed old.table → number_of old.table name ≡ found
    → IsRetired old found moment (Some line) new → Tells old new (Retire name moment) line
retire_tells old new None name moment line are is retired = absurd (let never = retired.0 in cc)
retire_tells old new (Some number) name moment line are is retired =
    let named = listed_named old.table are in
    let found = named.known name number is in
    let tenant : TenantData = found.0 in
    let told = named_sees old.table old.pasts new.pasts number tenant name (Retire name moment) (own.Retire moment) line named found.1 found.2 (retired.0, retired.1)
    (λ reader content. refl) (λ n s past behind l alone. alone) in
    let said = answer tenant.section (old.pasts number) (own.Retire moment) in
    let outcome = stepped_outcome old.table old.pasts new.pasts number tenant.section (plain (own.Retire moment)) retired.0 (Some line) (section_is old.table number tenant found.1) refl retired.1 in
    let table : new.table ≡ cond (is_report_told (answer tenant.section (old.pasts number) (own.Retire moment))) (struck old.table number) old.table =
    retired.2 ∙ ap (λ o. without number o old.table) outcome ∙ without_is number said old.table in
    record {
      sees = told.1;
      stays = λ other seer at last. subst (λ s. tenant_at s other ≡ Some seer) (sym table) (elim (eqb_tells other number) [
        | inl here ↦
            let same : tenant ≡ seer = some_same (tenant_at old.table number) tenant seer found.1 (subst (λ n. tenant_at old.table n ≡ Some seer) here.1 at) in
            let yes : bytes_eq name seer.name ≡ true = (bytes_eq-Decides name seer.name).1 (found.2 ∙ ap (λ t. t.name) same) in
            let reports = both (bytes_eq name seer.name) (is_report (words_of told.1.content)) yes last in
            let no : is_report_told (answer tenant.section (old.pasts number) (own.Retire moment)) ≡ false = sym told.0.reported ∙ ap (λ c. is_report (words_of c)) (sym told.2) ∙ reports in
            subst (λ n. tenant_at (cond (is_report_told (answer tenant.section (old.pasts number) (own.Retire moment))) (struck old.table number) old.table) n ≡ Some seer) (sym here.1)
            (own_without old.table number seer _ no (subst (λ n. tenant_at old.table n ≡ Some seer) here.1 at))
        | inr there ↦ others_without old.table number other seer _ there.1 at
      ]);
      listed = subst AreListed (sym table) (without_listed old.table number _ are);
    }

tells : (old new : Session) (command : CommandData) (line : List ℕ) → AreListed old.table → collector.IsAnswered old command (Some line) new → Tells old new command line
tells old new (Post name moment body) line are answered =
    tells_same old new (Post name moment body) line are answered.0
    (post_sees old.table old.pasts new.pasts (number_of old.table name) name moment body line (listed_named old.table are) refl answered.1)
tells old new (Turn shard moment) line are answered =
    tells_same old new (Turn shard moment) line are answered.0
    (turn_sees old.table old.pasts new.pasts shard moment (nat_lt shard old.table.global.shards) line (listed_named old.table are) answered.1)
tells old new (Answer name moment ticket word given) line are answered =
    tells_same old new (Answer name moment ticket word given) line are answered.0
    (ask_sees old.table old.pasts new.pasts (number_of old.table name) name (Answer name moment ticket word given) (own.Answer moment ticket word given) line (listed_named old.table are) refl answered.1
    (λ reader content. refl) (λ n s past behind l alone. alone))
tells old new (Report name moment) line are answered =
    tells_same old new (Report name moment) line are answered.0
    (ask_sees old.table old.pasts new.pasts (number_of old.table name) name (Report name moment) (own.Report moment) line (listed_named old.table are) refl answered.1
    (λ reader content. refl) (λ n s past behind l alone. alone))
tells old new (Drain name moment) line are answered =
    tells_same old new (Drain name moment) line are answered.0
    (ask_sees old.table old.pasts new.pasts (number_of old.table name) name (Drain name moment) (own.Drain moment) line (listed_named old.table are) refl answered.1
    (λ reader content. refl) (λ n s past behind l alone. alone))
tells old new (Add document) line are answered = add_tells old new document line (arrived old.table document) are refl answered
tells old new (Retire name moment) line are answered = retire_tells old new (number_of old.table name) name moment line are refl answered

-- ---- a tenant's life

-- of its own commands and lines none is behind its last command
abbrev pub LastEnds : List ℕ → List CommandData → List (List ℕ) → Type 0
LastEnds name [] lines = Unit
LastEnds name (command ∷ commands) [] = Unit
LastEnds name (command ∷ commands) (line ∷ lines) = (is_last name command line ≡ true → commands ≡ []) × LastEnds name commands lines

-- what it is told of lines alone
abbrev pub LinesAlone : List ℕ → SectionData → List Own → List CommandData → List (List ℕ) → Type 0
LinesAlone name section past commands lines =
    AnswersAlone name section past (own_among name commands lines) (filter (names name) lines) × LastEnds name (own_among name commands lines) (filter (names name) lines)

-- lines that may go on behind it
abbrev pub LifeAlone : List ℕ → SectionData → List Own → List CommandData → List (List ℕ) → Type 0
LifeAlone name section past commands lines = LinesAlone name section past commands (lines_until_last name commands lines)

no_lines : (name : List ℕ) (section : SectionData) (past : List Own) (commands : List CommandData) → LinesAlone name section past commands []
no_lines name section past [] = (tt, tt)
no_lines name section past (command ∷ commands) = (tt, tt)

pub none_alone : (name : List ℕ) (section : SectionData) (past : List Own) (commands : List CommandData) → LifeAlone name section past commands []
none_alone name section past [] = (tt, tt)
none_alone name section past (command ∷ commands) = (tt, tt)

nothing : (name : List ℕ) (section : SectionData) (past : List Own) (commands : List CommandData) (text : List ℕ) → text ≡ [] → LifeAlone name section past commands (lines_of text)
nothing name section past commands text none = subst (λ t. LifeAlone name section past commands (lines_of t)) (sym none) (none_alone name section past commands)

-- the text of one line more
lines_more : (content line more text : List ℕ) → line ≡ content ++ codes "\n" → IsPlain content → text ≡ line ++ more → lines_of text ≡ content ∷ lines_of more
lines_more content line more text line_is plain is =
    ap lines_of (is ∙ ap (λ l. l ++ more) line_is ∙ append_assoc content (codes "\n") more) ∙ line_ended content more plain

-- to which shard a turn went doesn't make it a last command
shard_apart : (name : List ℕ) (command : CommandData) (line : List ℕ) → is_last name (of_any_shard command) line ≡ is_last name command line
shard_apart name (Post named moment body) line = refl
shard_apart name (Turn shard moment) line = refl
shard_apart name (Answer named moment ticket word given) line = refl
shard_apart name (Report named moment) line = refl
shard_apart name (Drain named moment) line = refl
shard_apart name (Add document) line = refl
shard_apart name (Retire named moment) line = refl

none_own : (name : List ℕ) (commands : List CommandData) → own_among name commands [] ≡ []
none_own name [] = refl
none_own name (command ∷ commands) = refl

-- behind a last command there is none
cut_own : (name : List ℕ) (commands : List CommandData) (lines : List (List ℕ)) (b : Bool) → b ≡ true → own_among name commands (cond b [] lines) ≡ []
cut_own name commands lines true is = none_own name commands
cut_own name commands lines false is = absurd (cc)

module _ (number : ℕ) (tenant : TenantData) where
  behind : (past : List Own) (command : CommandData) (commands : List CommandData) (content : List ℕ) (lines : List (List ℕ)) (b : Bool) → is_last tenant.name command content ≡ b
      → (is_last tenant.name command content ≡ false → LifeAlone tenant.name tenant.section past commands lines)
      → LinesAlone tenant.name tenant.section past commands (cond b [] (lines_until_last tenant.name commands lines))
  behind past command commands content lines true is rest = no_lines tenant.name tenant.section past commands
  behind past command commands content lines false is rest = rest is

  -- one line more
  line_more : (command : CommandData) (commands : List CommandData) (content line : List ℕ) (lines : List (List ℕ)) (past later : List Own) → line ≡ content ++ codes "\n"
      → Part tenant command content line past later → (is_last tenant.name command content ≡ false → LifeAlone tenant.name tenant.section later commands lines)
      → LifeAlone tenant.name tenant.section past (command ∷ commands) (content ∷ lines)
  line_more command commands content line lines past later is part rest =
      let after = behind later command commands content lines (is_last tenant.name command content) refl rest in
      elim part [
        | inl mine ↦
            let answered = subst (λ l. IsAnsweredAlone tenant.name tenant.section past (of_any_shard command) l later) is mine.2 in
            rw (mine.0, mine.1) (
              (later, answered, after.0),
              (
                λ last. cut_own tenant.name commands (lines_until_last tenant.name commands lines) (is_last tenant.name command content) (sym (shard_apart tenant.name command content) ∙ last),
                after.1,
              ),
            )
        | inr others ↦
            rw (others.0, others.1)
            (subst (λ p. LinesAlone tenant.name tenant.section p commands (cond (is_last tenant.name command content) [] (lines_until_last tenant.name commands lines))) others.2 after)
      ]

  goes_alone : (kind : Kind) (n : ℕ) (session : Session) (rest : Session → List ℕ → Option ℕ → Type 0) (commands : List CommandData) (text : List ℕ) (fault : Option ℕ)
      → AreListed session.table → tenant_at session.table number ≡ Some tenant
      → ((later : Session) (more : List ℕ) (fault : Option ℕ) → AreListed later.table → tenant_at later.table number ≡ Some tenant → rest later more fault
      → LifeAlone tenant.name tenant.section (later.pasts number) commands (lines_of more))
      → Goes collector.IsAnswered n session kind rest text fault → LifeAlone tenant.name tenant.section (session.pasts number) (commands_from kind commands) (lines_of text)
  goes_alone Skipped n session rest commands text fault are at on told = on session text fault are at told
  goes_alone Faulty n session rest commands text fault are at on told = nothing tenant.name tenant.section (session.pasts number) [] text told.0
  goes_alone (Says command) n session rest commands text fault are at on told = answered told.0 told.1 told.2 told.3
    where
      answered : (line : Option (List ℕ)) (later : Session) → collector.IsAnswered session command line later → script.Answered n line (rest later) text fault
          → LifeAlone tenant.name tenant.section (session.pasts number) (command ∷ commands) (lines_of text)
      answered None later is told = nothing tenant.name tenant.section (session.pasts number) (command ∷ commands) text told.0
      answered (Some line) later is told =
          let one = tells session later command line are is in
          let lines = lines_more one.sees.content line told.0 text one.sees.line_is one.sees.plain told.1 in
          subst (λ ls. LifeAlone tenant.name tenant.section (session.pasts number) (command ∷ commands) ls) (sym lines)
          (line_more command commands one.sees.content line (lines_of told.0) (session.pasts number) (later.pasts number) one.sees.line_is (one.sees.parts number tenant at)
          (λ stays. on later told.0 fault one.listed (one.stays number tenant at stays) told.2))

  told_alone : (lines left : List (List ℕ)) (n : ℕ) (session : Session) (text : List ℕ) (fault : Option ℕ) → AreListed session.table → tenant_at session.table number ≡ Some tenant
      → Told collector.IsAnswered lines n session text fault → LifeAlone tenant.name tenant.section (session.pasts number) (commands_of (lines ++ left)) (lines_of text)
  told_alone [] left n session text fault are at told = nothing tenant.name tenant.section (session.pasts number) (commands_of left) text told.0
  told_alone (line ∷ lines) left n session text fault are at told =
      goes_alone (kind_of line) n session (Told collector.IsAnswered lines (n + 1)) (commands_of (lines ++ left)) text fault are at
      (λ later more f are at rest. told_alone lines left (n + 1) later more f are at rest) told

-- ---- a tenant that comes

-- it is there, and has had no steps
record IsThere (name : List ℕ) (section : SectionData) (session : Session) : Type 0 where
  number : ℕ
  tenant : TenantData
  at : tenant_at session.table number ≡ Some tenant
  name_is : tenant.name ≡ name
  section_is : tenant.section ≡ section
  none : session.pasts number ≡ []

tenant_one : (r : Result TenantData FaultData) (a b : TenantData) → r ≡ Ok a → r ≡ Ok b → a ≡ b
tenant_one r a b e f = let same : ◌≡◌ {A = Result TenantData FaultData} (Ok a) (Ok b) = sym e ∙ f in cc

begun_past : (pasts : ℕ → List Own) (number : ℕ) → new_among pasts number number ≡ []
begun_past pasts number = let yes : (number == number) ≡ true = eq-eqb number number refl in rw yes refl

abbrev first_of : List ℕ → ℕ
first_of [] = 0
first_of (byte ∷ text) = byte

-- a refusal's line is no welcome's
other_verb : {A : Type 0} (name : List ℕ) (n number : ℕ) → refused_text (codes "add") n ≡ added_text name number → A
other_verb name n number same = let never : 114 ≡ 97 = ap first_of same in absurd (omega (arith, never))

welcomed : (old new : Session) (document content line : List ℕ) (name : List ℕ) (section : SectionData) (means : Result SettingsData FaultData) → AreListed old.table → arrived old.table document ≡ means
    → IsAdded old means (Some line) new → line ≡ content ++ codes "\n" → IsWelcome (Add document) content name section → IsThere name section new
welcomed old new document content line name section (Ok table) are means added is welcome =
    let brings = arrives old.table document table means in
    let none = none_at_next old.table are (tenant_at old.table old.table.next) refl in
    let same = tenant_one (tenant_in document) (record (brings.tenant) { number = 0 }) (record { number = 0; name = name; section = section }) (brings.alone are.unbounded) welcome.2 in
    subst (IsThere name section) (sym added.1) (record {
      number = old.table.next;
      tenant = brings.tenant;
      at = subst (λ s. tenant_at s old.table.next ≡ Some brings.tenant) brings.joins (joined_at_next old.table brings.tenant old.table.next none brings.new.number);
      name_is = ap (λ t. t.name) same;
      section_is = ap (λ t. t.section) same;
      none = begun_past old.pasts old.table.next;
    })
welcomed old new document content line name section (Err fault) are means added is welcome =
    other_verb name (fault_number fault) welcome.0 (some_line _ _ (sym added.0) ∙ is ∙ welcome.1)

module _ (name : List ℕ) (section : SectionData) (behind_commands : List CommandData) (behind_lines : List (List ℕ)) where
  abbrev TheirLife : Type 0
  TheirLife = LifeAlone name section [] behind_commands behind_lines

  no_welcome : (commands : List CommandData) → ComesAmong commands [] name section behind_commands behind_lines → ⊥
  no_welcome [] comes = comes
  no_welcome (command ∷ commands) comes = comes

  none_comes : (commands : List CommandData) (text : List ℕ) → text ≡ [] → ComesAmong commands (lines_of text) name section behind_commands behind_lines → TheirLife
  none_comes commands text none comes = absurd (no_welcome commands (subst (λ t. ComesAmong commands (lines_of t) name section behind_commands behind_lines) none comes))

  -- the life of who is there
  lives_on : (lines left : List (List ℕ)) (n : ℕ) (session : Session) (text : List ℕ) (fault : Option ℕ) → AreListed session.table → IsThere name section session
      → Told collector.IsAnswered lines n session text fault → LifeAlone name section [] (commands_of (lines ++ left)) (lines_of text)
  lives_on lines left n session text fault are there told =
      subst (λ m. LifeAlone m section [] (commands_of (lines ++ left)) (lines_of text)) there.name_is
      (subst (λ s. LifeAlone there.tenant.name s [] (commands_of (lines ++ left)) (lines_of text)) there.section_is
      (subst (λ p. LifeAlone there.tenant.name there.tenant.section p (commands_of (lines ++ left)) (lines_of text)) there.none
      (told_alone there.number there.tenant lines left n session text fault are there.at told)))

  is_welcome : (old new : Session) (command : CommandData) (content line : List ℕ) → AreListed old.table → collector.IsAnswered old command (Some line) new → line ≡ content ++ codes "\n"
      → IsWelcome command content name section → IsThere name section new
  is_welcome old new (Add document) content line are answered is welcome =
      welcomed old new document content line name section (arrived old.table document) are refl answered is welcome
  is_welcome old new (Post named moment body) content line are answered is welcome = absurd welcome
  is_welcome old new (Turn shard moment) content line are answered is welcome = absurd welcome
  is_welcome old new (Answer named moment ticket word given) content line are answered is welcome = absurd welcome
  is_welcome old new (Report named moment) content line are answered is welcome = absurd welcome
  is_welcome old new (Drain named moment) content line are answered is welcome = absurd welcome
  is_welcome old new (Retire named moment) content line are answered is welcome = absurd welcome

  goes_comes : (kind : Kind) (n : ℕ) (session : Session) (rest : Session → List ℕ → Option ℕ → Type 0) (commands : List CommandData) (text : List ℕ) (fault : Option ℕ) → AreListed session.table
      → ((later : Session) (more : List ℕ) (fault : Option ℕ) → AreListed later.table → rest later more fault → ComesAmong commands (lines_of more) name section behind_commands behind_lines → TheirLife)
      → ((later : Session) (more : List ℕ) (fault : Option ℕ) → AreListed later.table → rest later more fault → IsThere name section later → LifeAlone name section [] commands (lines_of more))
      → Goes collector.IsAnswered n session kind rest text fault → ComesAmong (commands_from kind commands) (lines_of text) name section behind_commands behind_lines → TheirLife
  goes_comes Skipped n session rest commands text fault are on begins told comes = on session text fault are told comes
  goes_comes Faulty n session rest commands text fault are on begins told comes = none_comes [] text told.0 comes
  goes_comes (Says command) n session rest commands text fault are on begins told comes = answered told.0 told.1 told.2 told.3
    where
      answered : (line : Option (List ℕ)) (later : Session) → collector.IsAnswered session command line later → script.Answered n line (rest later) text fault → TheirLife
      answered None later is told = none_comes (command ∷ commands) text told.0 comes
      answered (Some line) later is told =
          let one = tells session later command line are is in
          let lines = lines_more one.sees.content line told.0 text one.sees.line_is one.sees.plain told.1 in
          let among = subst (λ ls. ComesAmong (command ∷ commands) ls name section behind_commands behind_lines) lines comes in
          elim among [
            | inl here ↦
                let life = begins later told.0 fault one.listed told.2 (is_welcome session later command one.sees.content line are is one.sees.line_is here.0) in
                subst (λ cs. LifeAlone name section [] cs behind_lines) (sym here.1) (subst (λ ls. LifeAlone name section [] commands ls) (sym here.2) life)
            | inr there ↦ on later told.0 fault one.listed told.2 there
          ]

  comes_alone : (lines left : List (List ℕ)) (n : ℕ) (session : Session) (text : List ℕ) (fault : Option ℕ) → AreListed session.table → Told collector.IsAnswered lines n session text fault
      → ComesAmong (commands_of (lines ++ left)) (lines_of text) name section behind_commands behind_lines → TheirLife
  comes_alone [] left n session text fault are told comes = none_comes (commands_of left) text told.0 comes
  comes_alone (line ∷ lines) left n session text fault are told comes =
      goes_comes (kind_of line) n session (Told collector.IsAnswered lines (n + 1)) (commands_of (lines ++ left)) text fault are
      (λ later more f are rest. comes_alone lines left (n + 1) later more f are rest)
      (λ later more f are rest there. lives_on lines left (n + 1) later more f are there rest) told comes

-- what was told of the first lines
done_life : (settings : SettingsData) (script written : List ℕ) (done left : List (List ℕ)) (fault : Option ℕ) → AreListed settings → lines_of script ≡ done ++ left
    → Told collector.IsAnswered done 1 (begun settings) written fault → (name : List ℕ) (section : SectionData) (commands : List CommandData) (lines : List (List ℕ))
    → Begins settings (commands_of (lines_of script)) (lines_of written) name section commands lines → LifeAlone name section [] commands lines
done_life settings script written done left fault are parted told name section commands lines (inl has) =
    let there : IsThere name section (begun settings) = record {
      number = has.0.0;
      tenant = record { number = has.0.0; name = name; section = section };
      at = has.0.1;
      name_is = refl;
      section_is = refl;
      none = refl;
    } in
    let life = lives_on name section commands lines done left 1 (begun settings) written fault are there told in
    subst (λ cs. LifeAlone name section [] cs lines) (sym has.1) (subst (λ ls. LifeAlone name section [] (commands_of (lines_of script)) ls) (sym has.2)
    (subst (λ ls. LifeAlone name section [] (commands_of ls) (lines_of written)) (sym parted) life))
done_life settings script written done left fault are parted told name section commands lines (inr comes) =
    comes_alone name section commands lines done left 1 (begun settings) written fault are told
    (subst (λ ls. ComesAmong (commands_of ls) (lines_of written) name section commands lines) parted comes)

pub whole_life : (settings : SettingsData) (script written : List ℕ) (fault : Option ℕ) → AreListed settings → ScriptText settings script written fault
    → (name : List ℕ) (section : SectionData) (commands : List CommandData) (lines : List (List ℕ))
    → Begins settings (commands_of (lines_of script)) (lines_of written) name section commands lines → LifeAlone name section [] commands lines
whole_life settings script written fault are told = done_life settings script written (lines_of script) [] fault are (sym (append-nil (lines_of script))) told

pub whole_alone : (settings : SettingsData) (script written : List ℕ) (fault : Option ℕ) → AreListed settings → ScriptText settings script written fault → EachAlone settings script written
whole_alone settings script written fault are told name section commands lines begins = (whole_life settings script written fault are told name section commands lines begins).0

pub begun_alone : (settings : SettingsData) (script written : List ℕ) → AreListed settings → BeginsScriptText settings script written
    → (missing : List ℕ) × EachAlone settings script (written ++ missing)
begun_alone settings script written are begun_so = (
  begun_so.2,
  λ name section commands lines begins.
      (done_life settings script (written ++ begun_so.2) begun_so.0 begun_so.1 begun_so.3 are begun_so.4 begun_so.5 name section commands lines begins).0,
)

pub so_far_alone : (settings : SettingsData) (script written : List ℕ) (unread : Option (List ℕ)) → AreListed settings → ScriptToldSoFar settings script unread written → EachAlone settings script written
so_far_alone settings script written unread are told name section commands lines begins =
    (done_life settings script written told.done told.left None are told.parted told.told name section commands lines begins).0
