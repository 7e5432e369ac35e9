use Rattle.std.proofs.Common.{◌≡◌, ◌↔◌, ◌==◌, ◌%◌, ℕ, zero, suc, ◌<◌, Bool, true, false, List, [], ◌∷◌, ◌++◌, Option, Some, None, Ok, Err, is_ok, length, subst, refl, sym, ap, ◌∙◌, arith, inl, inr}
use Rattle.std.specs.Prelude.{codes, if◌then◌else◌}
use Rattle.std.proofs.lemmas.Bool.{ne_eqb}
use Rattle.otlp_trace.specs.Data.{RequestData}
use Rattle.otlp_read.specs.Value.{value_of, IsValue}
use Rattle.tail_settings.specs.Fault.{FaultData, not_toml, too_many}
use Rattle.tail_settings.specs.Section.{SectionData}
use Rattle.tail_settings.specs.Settings.{SettingsData, section_at, settings_of}
use Rattle.send_retry.specs.Class.{Failed}
use Rattle.tenant_rules.specs.Own.{Own}
use Rattle.tenant_rules.specs.Own as own
use Rattle.tenant_shard.specs.declared.step.Outcome.{Outcome}
use Rattle.tenant_shard.specs.declared.step.Outcome.TheVariants as outcome
use Rattle.tenant_shard.specs.Outcomes.{OwnStep, plain as plain_step}
use Rattle.tenant_shard.specs.Pick.{ready_after, ready_at}
use Rattle.shard_agenda.specs.Pick.{NotAfter}
use Rattle.replay_script.proofs.OnLiterals.{script_on_literals, answers_on_literals}
use Rattle.replay_script.specs.Command.{Post, Turn, Answer, Report, Drain}
use Rattle.replay_script.specs.Line.{lines_of}
use Rattle.trace_collector.specs.Answered.{lives_of, joined, posted, HasNoValue, IsAnswered}
use Rattle.trace_collector.specs.Alone.{AnswersAlone}
use Rattle.trace_collector.specs.Session.{Session, no_steps}
use Rattle.trace_collector.specs.Script.{ScriptText, BeginsScriptText}
use Rattle.trace_collector.proofs.One.{told_one, script_answered_one, same_value}
use Rattle.collector_tests.specs.Parts.{plain, body}
use Rattle.collector_tests.specs.ReplayExamples.{value, one_tenant, counters, hex, script, told, begun, faulty_script}
use Rattle.collector_tests.proofs.OnLiterals.{values_on_literals, pipelines_on_literals}
use Rattle.collector_tests.proofs.Small.{some_same, never}
use Rattle.collector_tests.proofs.definitions.replays_of_scripts.Goals as goal

-- ---- a body

-- a body has a value exactly where the functions give it
Exact : Type 0
Exact = (bytes : List ℕ) (v : RequestData) → (value_of bytes ≡ Ok v) ↔ IsValue bytes v

has_this_value : Exact → IsValue (body 17 33) (value 17 33)
unfolding Exact values_on_literals
has_this_value exact = (exact (body 17 33) (value 17 33)).0 refl

has_none : Exact → HasNoValue (0 ∷ 0 ∷ [])
unfolding Exact values_on_literals
has_none exact v is = let same : false ≡ true = ap is_ok ((exact (0 ∷ 0 ∷ []) v).1 is) in cc

-- ---- the steps

-- the tenant stays, with these own steps
abbrev of_one : (ℕ → List Own) → Session
of_one pasts = record { table = one_tenant; pasts = pasts }

abbrev the_post : OwnStep
the_post = posted 0 0 plain (value 17 33)

abbrev accepted : Outcome
accepted = outcome.Reply 0 (record { status = 200; body = [] })

abbrev after_post : ℕ → List Own
after_post = joined (Some 0) the_post accepted (lives_of one_tenant no_steps 0)

abbrev idled : ℕ → List Own
idled = joined None (plain_step (own.Turn 999)) outcome.Idle (lives_of one_tenant after_post 0)

abbrev the_job : Outcome
the_job = outcome.Job 0 1 (body 17 33)

abbrev handed : ℕ → List Own
handed = joined None (plain_step (own.Turn 1000)) the_job (lives_of one_tenant idled 0)

none_either : (b : Bool) (past : List Own) (seen : Option ℕ) → ready_after (if b then None else None) past true seen ≡ None
none_either true past seen = refl
none_either false past seen = refl

-- no other tenant is ever ready
no_other : (pasts : ℕ → List Own) (n : ℕ) → ready_at (lives_of one_tenant pasts 0) [] (suc n) ≡ None
no_other pasts n =
    let apart : (0 == suc n) ≡ false = ne_eqb 0 (suc n) (λ e. omega (arith, e)) in
    let none : section_at one_tenant (suc n) ≡ None = rw apart refl in
    subst (λ (section : Option SectionData). ready_after (if suc n % 1 == 0 then section else None) (pasts (suc n)) true None ≡ None) (sym none)
    (none_either (suc n % 1 == 0) (pasts (suc n)) None)

post_is_answered : Exact → IsAnswered (of_one no_steps) (Post (codes "a") 0 (body 17 33)) (Some (codes "reply a 200 -\n")) (of_one after_post)
unfolding pipelines_on_literals answers_on_literals
post_is_answered exact = (refl, inl (plain, value 17 33, refl, has_this_value exact, (accepted, (refl, refl, refl))))

idle_before : (tenant moment : ℕ) → ready_at (lives_of one_tenant after_post 0) [] tenant ≡ Some moment → 999 < moment
unfolding pipelines_on_literals
idle_before zero moment h = omega (arith, some_same 1000 moment h)
idle_before (suc n) moment h = absurd (never moment (sym (no_other after_post n) ∙ h))

turn_is_idle : IsAnswered (of_one after_post) (Turn 0 999) (Some (codes "idle 0\n")) (of_one idled)
unfolding answers_on_literals pipelines_on_literals
turn_is_idle = (refl, (outcome.Idle, ((None, idle_before, refl), refl, refl)))

first_ready : (tenant moment : ℕ) → ready_at (lives_of one_tenant idled 0) [] tenant ≡ Some moment → NotAfter 1000 0 moment tenant
unfolding pipelines_on_literals
first_ready zero moment h = inr (some_same 1000 moment h, omega arith)
first_ready (suc n) moment h = absurd (never moment (sym (no_other idled n) ∙ h))

abbrev job_line : List ℕ
job_line = codes "job a 1 " ++ (hex ++ codes "\n")

turn_hands_out : IsAnswered (of_one idled) (Turn 0 1000) (Some job_line) (of_one handed)
unfolding pipelines_on_literals answers_on_literals
turn_hands_out = (refl, (the_job, ((Some 0, (1000, refl, omega arith, first_ready), refl), refl, refl)))

-- ---- scripts

whole_text : Exact → ScriptText one_tenant script told None
unfolding script_on_literals
whole_text exact = (
  Some (codes "reply a 200 -\n"),
  of_one after_post,
  post_is_answered exact,
  (
    codes "idle 0\n" ++ job_line,
    refl,
    (Some (codes "idle 0\n"), of_one idled, turn_is_idle, (job_line, refl, (Some job_line, of_one handed, turn_hands_out, ([], refl, (refl, refl))))),
  ),
)

begins : Exact → BeginsScriptText one_tenant script begun
unfolding script_on_literals
begins exact = (
  (codes "post a 0 " ++ hex) ∷ codes "turn 0 999" ∷ [],
  codes "turn 0 1000" ∷ [],
  codes "le 0\n",
  None,
  refl,
  (
    Some (codes "reply a 200 -\n"),
    of_one after_post,
    post_is_answered exact,
    (codes "idle 0\n", refl, (Some (codes "idle 0\n"), of_one idled, turn_is_idle, ([], refl, (refl, refl)))),
  ),
)

-- with no step before, no tenant is ready
none_ready : (tenant moment : ℕ) → ready_at (lives_of one_tenant no_steps 0) [] tenant ≡ Some moment → 0 < moment
unfolding pipelines_on_literals
none_ready zero moment h = absurd (never moment h)
none_ready (suc n) moment h = absurd (never moment (sym (no_other no_steps n) ∙ h))

abbrev turned : ℕ → List Own
turned = joined None (plain_step (own.Turn 0)) outcome.Idle (lives_of one_tenant no_steps 0)

second_faulty : ScriptText one_tenant faulty_script (codes "idle 0\n") (Some 2)
unfolding script_on_literals answers_on_literals
second_faulty = (
  Some (codes "idle 0\n"),
  of_one turned,
  (refl, (outcome.Idle, ((None, none_ready, refl), refl, refl))),
  ([], refl, (None, of_one turned, (refl, (refl, refl)), (refl, refl))),
)

pub returns-clause-scripts : goal.returns-clause-scripts
unfolding Exact
returns-clause-scripts c =
    let exact = c.values_or_faults.ensures.exact in
    record { text = whole_text exact; begins = begins exact; fault = second_faulty }

-- ---- a tenant's own part

pub returns-clause-own_parts : goal.returns-clause-own_parts
unfolding script_on_literals
returns-clause-own_parts c = record {
  lines_of_a = refl;
  lines_of_b = refl;
  lines_of_0 = refl;
  a_longer_name = refl;
  commands_of_a = refl;
  commands_of_b = refl;
  commands_of_0 = refl;
}

alone : Exact → AnswersAlone (codes "a") plain [] (Post (codes "a") 0 (body 17 33) ∷ Turn 0 1000 ∷ []) (codes "reply a 200 -" ∷ (codes "job a 1 " ++ hex) ∷ [])
unfolding pipelines_on_literals answers_on_literals
alone exact = (after_post 0, inl (value 17 33, has_this_value exact, (refl, refl)), (own.Turn 1000 ∷ after_post 0, ((1000, refl, omega arith), (refl, refl)), tt))

no_value : Exact → AnswersAlone (codes "a") plain [] (Post (codes "a") 0 (0 ∷ 0 ∷ []) ∷ []) (codes "reply a 400 120c6261642070726f746f627566" ∷ [])
unfolding pipelines_on_literals answers_on_literals
no_value exact = ([], inr (has_none exact, refl, refl), tt)

all_asked : AnswersAlone (codes "a") plain [] (Answer (codes "a") 5 1 0 Failed ∷ Drain (codes "a") 6 ∷ Report (codes "a") 7 ∷ [])
    (codes "refused a 21" ∷ codes "done a" ∷ (codes "report a " ++ counters) ∷ [])
unfolding pipelines_on_literals answers_on_literals
all_asked = (
  own.Answer 5 1 0 Failed ∷ [],
  (refl, refl),
  (
    own.Drain 6 ∷ own.Answer 5 1 0 Failed ∷ [],
    (refl, refl),
    (own.Report 7 ∷ own.Drain 6 ∷ own.Answer 5 1 0 Failed ∷ [], (refl, refl), tt),
  ),
)

pub returns-clause-alone_parts : goal.returns-clause-alone_parts
unfolding Exact script_on_literals
returns-clause-alone_parts c =
    let exact = c.values_or_faults.ensures.exact in
    record { commands = refl; lines = refl; alone = alone exact; no_value = no_value exact; asked = all_asked; a_line_less = λ h. h }

-- ---- replays

-- a document has one meaning
same_settings : (d : List ℕ) → settings_of d ≡ Ok one_tenant → (s : SettingsData) → settings_of d ≡ Ok s → one_tenant ≡ s
same_settings d means s e = let same : Ok one_tenant ≡ Ok s = sym means ∙ e in cc

has_settings : (d : List ℕ) → settings_of d ≡ Ok one_tenant → (f : FaultData) → settings_of d ≡ Err f → ⊥
has_settings d means f e = let same : Ok one_tenant ≡ Err f = sym means ∙ e in cc

has_fault : (d : List ℕ) → settings_of d ≡ Err not_toml → (s : SettingsData) → settings_of d ≡ Ok s → ⊥
has_fault d faulty s e = let same : Err not_toml ≡ Ok s = sym faulty ∙ e in cc

some_told : told ≡ [] → ⊥
some_told none = let lengths : 98 ≡ 0 = ap length none in omega (arith, lengths)

half_told : Exact → ScriptText one_tenant script begun None → ⊥
unfolding Exact
half_told exact half =
    let same = told_one IsAnswered (λ h k k' command line line'. script_answered_one (same_value exact) h k k' command line line')
    (lines_of script) 1 (of_one no_steps) told begun None None (whole_text exact) half in
    let lengths : 98 ≡ 16 = ap length same.0 in
    omega (arith, lengths)

pub returns-clause-replays : goal.returns-clause-replays
unfolding Exact
returns-clause-replays c =
    let exact = c.values_or_faults.ensures.exact in
    record {
      done = λ d means. (one_tenant, means, whole_text exact);
      half_done = λ d means is. half_told exact (subst (λ s. ScriptText s script begun None) (sym (same_settings d means is.0 is.1)) is.2);
      script_fault = λ d means. (one_tenant, means, second_faulty);
      failed = λ d means. (one_tenant, means, begins exact);
      no_memory = λ d means. (
        λ s e. subst (λ s. BeginsScriptText s script begun) (same_settings d means s e) (begins exact),
        λ f e. absurd (has_settings d means f e),
      );
      settings_fault = λ d faulty. (not_toml, refl, faulty, refl);
      other_fault = λ d faulty is.
          let told : Some too_many ≡ Some is.0 = is.1 in
          let meant : Err not_toml ≡ Err is.0 = sym faulty ∙ is.2 in
          cc;
      written_after_fault = λ d faulty is. some_told is.3;
      no_fault = λ d means is. has_settings d means is.0 is.2;
      no_memory_for_settings = λ d faulty. (λ s e. absurd (has_fault d faulty s e), λ f e. refl);
      written_without_settings = λ d faulty is. some_told (is.1 not_toml faulty);
    }
