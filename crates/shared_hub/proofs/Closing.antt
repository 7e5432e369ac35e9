-- What the logs are at the end.
use Rattle.std.proofs.Common.{◌≡◌, ℕ, zero, suc, ◌+◌, List, [], ◌∷◌, ◌++◌, Bool, true, false, Some, refl, sym, ap, ◌∙◌, subst, arith}
use Rattle.std.specs.Prelude.{slice_get, slice_set, Option, None}
use Rattle.std.specs.Option.{option_or}
use Rattle.tail_settings.specs.Section.{SectionData}
use Rattle.tail_settings.specs.Settings.{SettingsData}
use Rattle.shard_machine.specs.Jitter.{generator_of}
use Rattle.tenant_shard.specs.Lives.{new_life}
use Rattle.tenant_shard.specs.Alone.{OwnStepsDecide}
use Rattle.tenant_shard.specs.Table.{section_of, opened, members_of}
use Rattle.tenant_shard.proofs.Wholes.{by_own_steps, stands_after, each_alone}
use Rattle.machine_hub.specs.declared.view.Home.{Home}
use Rattle.machine_hub.specs.Runs.{entry, Runs, IsLossOf, IsHistory}
use Rattle.machine_hub.proofs.Kept.{runs_push, history_logged, history_late, history_loss}
use Rattle.machine_hub.proofs.Ended.{found, shard_run}
use Rattle.machine_hub.specs.Slot.{stored, with_history}
use Rattle.machine_hub.specs.Seats.{seat_after, IsNoted, IsNotedLost}
use Rattle.machine_hub.specs.Hub.{AreShardRuns, AreShardHistories}
use Rattle.shard_machine.specs.declared.step.Call.{Call}
use Rattle.shard_machine.specs.MachineState.{MachineState, AsksFor, MachineDoes, started}
use Rattle.shard_machine.specs.Run.{Logged, steps_of, outcomes_of, drawn_for, section_in, AreFirstWords, RunsAreShardRuns, WordsAreInOrder}
use Rattle.shared_hub.specs.Shards.{IsFresh, AreOpened}
use Rattle.shared_hub.specs.Logs.{Seat, CallerState, LoggedShard, waits, IsLogOf, EachCallEndsARun, EachLookSeesARun, AreLogged, AreOneRun, AreCosts, IsHistoryOf, AreOneHistory, EachCallEndsAHistory, EachRefusalEndsAHistory, EachLookSeesAHistory, LogsTellByOwnSteps}
use Rattle.shard_machine.specs.Drawing.{IsLost}
use Rattle.shared_hub.proofs.Sparing.{IsAlone, spares, behind, run_and_later, entries_behind, lost_behind, losses_behind}

either : (first later : Option SectionData) → option_or (started first) (started later) ≡ started (option_or first later)
either None later = refl
either (Some section) later = refl

log_of : RunsAreShardRuns → WordsAreInOrder → (table : SettingsData) (members : List ℕ) (first last : MachineState) (entries : List Logged) → IsFresh table members first → Runs MachineDoes first entries last → IsLogOf table members entries last
log_of shard_runs in_order table members first last entries fresh run =
    let chain = shard_runs first last entries run in
    let steps = steps_of entries in
    let outcomes = outcomes_of entries in
    let lives = opened table members in
    record {
      first = first;
      fresh = fresh;
      runs = chain;
      by_own_steps = by_own_steps steps first.views outcomes last.views chain lives fresh.stands (λ tenant. refl);
      each_alone = λ tenant. each_alone steps first.views outcomes last.views chain lives fresh.stands tenant refl;
      stands = stands_after steps first.views outcomes last.views chain lives fresh.stands;
      words = λ tenant.
          let own : option_or (generator_of tenant first.words) (started (section_in tenant entries)) ≡ started (option_or (section_of table members tenant) (section_in tenant entries)) =
          ap (λ g. option_or g (started (section_in tenant entries))) (fresh.words tenant) ∙ either (section_of table members tenant) (section_in tenant entries) in
          subst (λ g. AreFirstWords g (drawn_for tenant entries)) own (in_order tenant first last entries run);
    }

pub are_logged : RunsAreShardRuns → WordsAreInOrder → (table : SettingsData) (homes : List (Home MachineState)) (callers : List CallerState) (shards : List LoggedShard) → AreShardRuns MachineDoes homes callers shards → AreOpened table homes → AreLogged table shards
are_logged shard_runs in_order table homes callers shards runs opens shard s at =
    let here = shard_run MachineDoes homes callers shards runs shard s at in
    let run = here.2 in
    let did = run.run.2 in
    record {
      entries = run.entries;
      last = did.middle;
      log = log_of shard_runs in_order table (members_of table shard) here.0.start did.middle run.entries (opens.each shard here.0 here.1).1 did.run;
      kept = λ keeps. sym (run.kept ∙ ap (λ b. stored b run.entries) (sym run.run.1 ∙ keeps));
      now_is = did.now_is;
    }

pub are_one_run : RunsAreShardRuns → WordsAreInOrder → (table : SettingsData) (homes : List (Home MachineState)) (callers : List CallerState) (shards : List LoggedShard) → AreShardRuns MachineDoes homes callers shards → AreOpened table homes → AreOneRun table callers
are_one_run shard_runs in_order table homes callers shards runs opens shard within =
    let there = found shards shard (omega (arith, runs.count, opens.count, within)) in
    let here = shard_run MachineDoes homes callers shards runs shard there.0 there.1 in
    let run = here.2 in
    let did = run.run.2 in
    record {
      entries = run.entries;
      last = did.middle;
      log = log_of shard_runs in_order table (members_of table shard) here.0.start did.middle run.entries (opens.each shard here.0 here.1).1 did.run;
      each = run.each;
    }

history_of : (table : SettingsData) (members : List ℕ) (first : MachineState) (s : LoggedShard) → IsFresh table members first → IsHistory AsksFor MachineDoes IsLost first s.entries s.later s.stopped s.machine → IsHistoryOf table members s
history_of table members first s fresh did =
    let spared = spares (behind s.entries s.later) first s.machine (run_and_later s.entries s.later first did.middle s.machine did.run did.later_run) in
    record {
      first = first;
      fresh = fresh;
      history = did;
      hit = spared.hit;
      costs = subst (λ calls. AreCosts calls spared.hit) (lost_behind s.entries s.later) spared.costs;
      few = omega (arith, spared.few, losses_behind s.entries s.later);
      each_alone = λ tenant apart.
          subst (IsAlone tenant (opened table members tenant)) (entries_behind s.entries s.later) (spared.alone_is (opened table members) fresh.stands tenant refl apart);
    }

pub are_one_history : (table : SettingsData) (homes : List (Home MachineState)) (callers : List CallerState) (shards : List LoggedShard) → AreShardRuns MachineDoes homes callers shards → AreShardHistories AsksFor MachineDoes IsLost homes callers shards
    → AreOpened table homes → AreOneHistory table callers shards
are_one_history table homes callers shards runs histories opens shard s at =
    let here = shard_run MachineDoes homes callers shards runs shard s at in
    let did = histories shard here.0 s here.1 at in
    record {
      entries = did.entries;
      later = did.later;
      log = history_of table (members_of table shard) here.0.start (with_history did.entries did.later s) (opens.each shard here.0 here.1).1 did.history;
      each = did.each;
      each_late = did.late;
      each_lost = did.lost;
      count = did.count;
    }

set_here : {X : Type 0} (xs : List X) (k : ℕ) (x w : X) → slice_get xs k ≡ Some x → slice_get (slice_set xs k w) k ≡ Some w
set_here [] k x w at = absurd (cc)
set_here (y ∷ xs) zero x w at = refl
set_here (y ∷ xs) (suc k) x w at = set_here xs k x w at

some_one : (a b : Seat) → Some a ≡ Some b → a ≡ b
some_one a b e = cc

-- a call that its seat doesn't count as late came before its shard was refused memory
on_time : (seat after : Seat) (old new : LoggedShard) (e : Logged) (late : Bool) (noted : ℕ × Logged) → IsNoted old new e late noted → after ≡ seat_after seat late noted → after.bare ≡ seat.bare → old.stopped ≡ false
on_time seat after old new e true noted adds is same =
    let more : after.bare ≡ seat.bare + 1 = ap (λ (s : Seat). s.bare) is in
    absurd (omega (arith, more, same))
on_time seat after old new e false noted adds is same = adds.3

pub ends_a_run : RunsAreShardRuns → WordsAreInOrder → EachCallEndsARun
ends_a_run shard_runs in_order table members old new shard call outcome receipt made fresh after at same =
    let one = made.made in
    let was = one.old in
    let now = one.new in
    let did = one.before.home.2 in
    let e : Logged = entry one.step outcome in
    let is : after ≡ seat_after made.seat made.late made.noted =
    some_one after (seat_after made.seat made.late made.noted) (sym at ∙ ap (λ (l : CallerState). slice_get l shard) made.after ∙ set_here old shard made.seat (seat_after made.seat made.late made.noted) made.at) in
    let on = on_time made.seat after was now e made.late made.noted one.adds is same in
    let end : MachineDoes did.middle e.step e.outcome now.machine = subst (λ m. MachineDoes m e.step e.outcome now.machine) (sym (did.now_is on)) one.made in
    record {
      step = one.step;
      asked = one.asked;
      last = now.machine;
      log = log_of shard_runs in_order table members made.seat.home.start now.machine (was.entries ++ e ∷ []) fresh (runs_push MachineDoes made.seat.home.start was.entries e did.middle now.machine did.run end);
    }

pub sees_a_run : RunsAreShardRuns → WordsAreInOrder → EachLookSeesARun
sees_a_run shard_runs in_order table members caller shard tenant told look fresh on =
    let was = look.2 in
    let did = was.1.home.2 in
    let here : did.middle ≡ was.0.machine = did.now_is (sym was.3 ∙ on) in
    record {
      entries = was.0.entries;
      last = did.middle;
      log = log_of shard_runs in_order table members look.0.home.start did.middle was.0.entries fresh did.run;
      calls = was.1.calls;
      waits_so = subst (λ (m : MachineState). waits m tenant told.answer) (sym here) was.2;
    }

-- the machine's history with a call's step behind it
made_behind : (first : MachineState) (old new : LoggedShard) (e : Logged) (late : Bool) (noted : ℕ × Logged) → IsHistory AsksFor MachineDoes IsLost first old.entries old.later old.stopped old.machine
    → MachineDoes old.machine e.step e.outcome new.machine → IsNoted old new e late noted → IsHistory AsksFor MachineDoes IsLost first new.entries new.later new.stopped new.machine
made_behind first old new e true noted did step adds =
    let longer = history_late AsksFor MachineDoes IsLost first old.entries old.later e old.stopped new.stopped old.machine new.machine did adds.4 step in
    subst (λ es. IsHistory AsksFor MachineDoes IsLost first es new.later new.stopped new.machine) (sym adds.1)
    (subst (λ hs. IsHistory AsksFor MachineDoes IsLost first old.entries hs new.stopped new.machine) (sym adds.2) longer)
made_behind first old new e false noted did step adds =
    let longer = history_logged AsksFor MachineDoes IsLost first old.entries old.later e old.stopped new.stopped old.machine new.machine did adds.3 step in
    subst (λ es. IsHistory AsksFor MachineDoes IsLost first es new.later new.stopped new.machine) (sym adds.1)
    (subst (λ hs. IsHistory AsksFor MachineDoes IsLost first (old.entries ++ e ∷ []) hs new.stopped new.machine) (sym adds.2) longer)

pub ends_a_history : EachCallEndsAHistory
ends_a_history table members old new shard call outcome receipt made fresh =
    let one = made.made in
    let start = made.seat.home.start in
    history_of table members start one.new fresh (made_behind start one.old one.new (entry one.step outcome) made.late made.noted one.before.history one.made one.adds)

-- the machine's history with a call behind it that was refused memory
lost_behind_it : (first : MachineState) (old new : LoggedShard) (call : Call) (noted : ℕ × Call) → IsHistory AsksFor MachineDoes IsLost first old.entries old.later old.stopped old.machine
    → IsLossOf AsksFor MachineDoes IsLost call old.machine new.machine → IsNotedLost old new call noted → IsHistory AsksFor MachineDoes IsLost first new.entries new.later new.stopped new.machine
lost_behind_it first old new call noted did loss adds =
    let longer = history_loss AsksFor MachineDoes IsLost first old.entries old.later call old.stopped new.stopped old.machine new.machine did adds.3 loss in
    subst (λ es. IsHistory AsksFor MachineDoes IsLost first es new.later new.stopped new.machine) (sym adds.1)
    (subst (λ hs. IsHistory AsksFor MachineDoes IsLost first old.entries hs new.stopped new.machine) (sym adds.2) longer)

pub refusal_ends_a_history : EachRefusalEndsAHistory
refusal_ends_a_history table members old new shard call refused fresh =
    let one = refused.lost in
    let start = refused.seat.home.start in
    history_of table members start one.new fresh (lost_behind_it start one.old one.new call refused.noted one.before.history one.lost one.adds)

pub sees_a_history : EachLookSeesAHistory
sees_a_history table members caller shard tenant told look fresh =
    history_of table members look.0.home.start look.2.0 fresh look.2.1.history

pub told_by_own_steps : OwnStepsDecide → LogsTellByOwnSteps
told_by_own_steps decide section steps =
    let r = decide (new_life section) steps in (
      r.0,
      λ table members entries last log tenant at own. r.1 tenant _ (record {
        lives = opened table members;
        old = log.first.views;
        all_steps = steps_of entries;
        outcomes = outcomes_of entries;
        new = last.views;
        stands = log.fresh.stands;
        runs = log.runs;
        life_is = ap new_life at;
        is_known = refl;
        steps_are = own;
        told_is = refl;
      }),
    )
