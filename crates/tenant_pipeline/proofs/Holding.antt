-- What always holds of a tenant goes on to hold after a timer.
use Rattle.std.proofs.Common.{◌≡◌, ◌≤◌, ◌+◌, ◌^◌, ◌∙◌, ℕ, List, [], ◌∷◌, map, refl, sym, ap, subst, arith, true, false, Option, Some, None}
use Rattle.std.specs.List.{AllByRecursion}
use Rattle.std.proofs.lemmas.Bool.Decides.{nat_tests}
use Rattle.span_batcher.specs.State.{next_due}
use Rattle.span_batcher.specs.Machine.{fired}
use Rattle.span_batcher.specs.Timers.{is_due}
use Rattle.drop_ledger.specs.Ledger.{LedgerData}
use Rattle.send_queue.specs.Sender.{SenderData}
use Rattle.tail_policy.specs.declared.note.TraceNote.{TraceNote}
use Rattle.tail_settings.specs.Section.{section_view}
use Rattle.tail_settings.specs.declared.section.Section.{Section}
use Rattle.tenant_stores.specs.Part.{Part}
use Rattle.tenant_stores.specs.Invariant.{StoreInvariant}
use Rattle.tenant_stores.specs.Counts.{one_decided}
use Rattle.tenant_stores.specs.View.{WaitingRow, View, view}
use Rattle.tenant_rules.specs.Batching.{rules_of}
use Rattle.tenant_rules.specs.Fate.{WaitingData}
use Rattle.tenant_rules.specs.Fronts.{AreInOrder, AllDueBy}
use Rattle.tenant_rules.specs.Ready.{lesser}
use Rattle.tenant_rules.specs.State.{State}
use Rattle.tenant_rules.specs.Timers.{flushed, decide, first_due, next_timer, is_batch, one_run}
use Rattle.tenant_pipeline.specs.declared.pipeline.Pipeline.{Pipeline}
use Rattle.tenant_pipeline.specs.declared.pipeline.RowCounts.{RowCounts}
use Rattle.tenant_pipeline.specs.StateIn.{waiting_of, counts_in, policies_of, written_state_of, view_in}
use Rattle.tenant_pipeline.specs.Invariant.{IsNoted, IsFrom, PipelineInvariantAt, WrittenInvariantBy}
use Rattle.tenant_pipeline.proofs.Timing.{after_one, due_by-later, order_from, order_later, timer_later, from_after}

-- all timers before a moment have run
pub held_later : (own : Pipeline) (p : Part TraceNote) (moment : ℕ) → WrittenInvariantBy own p → own.clock ≤ moment → moment ≤ 2 ^ 62 → is_due (next_timer (written_state_of own p)) moment ≡ false → PipelineInvariantAt moment [] [] own p
held_later own p moment held later fits quiet =
    let wait = own.section.tail_sampling.decision_wait in
    record {
      sound = held.sound;
      first_is = held.first_is;
      noted = held.noted;
      rules_are = held.rules_are;
      order = order_later own.clock moment (next_due own.batcher) (written_state_of own p).waiting quiet held.order;
      due_by = due_by-later (own.clock + wait) (moment + wait) (written_state_of own p).waiting (omega (arith, later)) held.due_by;
      timer = from_after moment (next_due own.batcher) (timer_later moment (next_due own.batcher) (first_due (written_state_of own p).waiting) quiet);
      counted = held.counted;
      within = held.within;
      few = held.few;
      clock_by = later;
      reached_fits = fits;
      unsent_is = held.unsent_is;
    }

-- the batch timer is due by its moment
batch_due : (due : ℕ) (decision : Option ℕ) → is_batch (Some due) decision ≡ true → is_due (lesser (Some due) decision) due ≡ true
batch_due due None first = grind (arith, nat_tests)
batch_due due (Some d) first = grind (arith, nat_tests, first)

-- and a decision by its
decision_due : (timer : Option ℕ) (due : ℕ) → is_batch timer (Some due) ≡ false → is_due (lesser timer (Some due)) due ≡ true
decision_due None due first = grind (arith, nat_tests)
decision_due (Some batch) due first = grind (arith, nat_tests, first)

module _ (own : Pipeline) (p q : Part TraceNote) (held : WrittenInvariantBy own p) where
  abbrev s : State
  s = written_state_of own p

  pub flush_held : (due : ℕ) (sender : SenderData) (ledger : LedgerData) → next_due own.batcher ≡ Some due → due ≤ 2 ^ 62 → is_batch (next_due own.batcher) (first_due s.waiting) ≡ true →
      view (counts_in own) [] q ≡ view (counts_in own) [] p → StoreInvariant (counts_in own) [] [] q →
      written_state_of (record own { batcher = fired own.batcher; sender = sender; ledger = ledger; clock = due }) q ≡ flushed (Some due) s →
      WrittenInvariantBy (record own { batcher = fired own.batcher; sender = sender; ledger = ledger; clock = due }) q
  flush_held due sender ledger due_is fits first shows sound is =
      let new : Pipeline = record own { batcher = fired own.batcher; sender = sender; ledger = ledger; clock = due } in
      let wait = own.section.tail_sampling.decision_wait in
      let first' : is_batch (Some due) (first_due s.waiting) ≡ true = sym (ap (λ (o : Option ℕ). is_batch o (first_due s.waiting)) due_is) ∙ first in
      let now : is_due (next_timer s) due ≡ true = ap (λ (o : Option ℕ). is_due (lesser o (first_due s.waiting)) due) due_is ∙ batch_due due (first_due s.waiting) first' in
      let run : flushed (Some due) s ≡ one_run s = sym (ap (λ (o : Option ℕ). flushed o s) due_is) ∙ sym (rw first refl) in
      let one = after_one s (written_state_of new q) due now (is ∙ run) held.counted held.within in
      let waiting : (written_state_of new q).waiting ≡ s.waiting = ap (λ (v : View TraceNote). map waiting_of v.waiting) shows in
      let clock : own.clock ≤ due = subst (IsFrom own.clock) due_is held.timer in
      record {
        sound = sound;
        first_is = held.first_is;
        noted = subst (λ (v : View TraceNote). AllByRecursion (IsNoted (policies_of own)) v.waiting) (sym shows) held.noted;
        rules_are = held.rules_are;
        order = subst (AreInOrder due) (sym waiting) (order_from own.clock due s.waiting first' held.order);
        due_by = subst (AllDueBy (due + wait)) (sym waiting) (due_by-later (own.clock + wait) (due + wait) s.waiting (omega (arith, clock)) held.due_by);
        timer = tt;
        counted = one.counted;
        within = one.within;
        few = let a = one.accepted in let few = held.few in omega (arith, a, few);
        clock_by = omega arith;
        reached_fits = fits;
        unsent_is = held.unsent_is;
      }

  -- a row was decided
  pub decide_held : (new : Pipeline) (w : WaitingRow TraceNote) (rest : List (WaitingRow TraceNote)) → (view_in own p).waiting ≡ w ∷ rest →
      is_batch (next_due own.batcher) (first_due s.waiting) ≡ false → w.due ≤ 2 ^ 62 →
      new.section ≡ own.section → new.unsent ≡ own.unsent → new.rows ≡ record own.rows { decided = own.rows.decided + 1 } → new.clock ≡ w.due → new.batcher.rules ≡ own.batcher.rules → IsFrom w.due (next_due new.batcher) →
      (view_in new q).waiting ≡ rest → StoreInvariant (one_decided (counts_in own)) new.batcher.spans [] q →
      written_state_of new q ≡ decide s.waiting s → WrittenInvariantBy new q
  decide_held new w rest waiting first fits section unsent rows clock rules timer left sound is =
      let wait = own.section.tail_sampling.decision_wait in
      let rows_are : s.waiting ≡ waiting_of w ∷ map waiting_of rest = ap (λ (ws : List (WaitingRow TraceNote)). map waiting_of ws) waiting in
      let first' : is_batch (next_due own.batcher) (Some w.due) ≡ false = sym (ap (λ (ws : List WaitingData). is_batch (next_due own.batcher) (first_due ws)) rows_are) ∙ first in
      let now : is_due (next_timer s) w.due ≡ true = ap (λ (ws : List WaitingData). is_due (lesser (next_due own.batcher) (first_due ws)) w.due) rows_are ∙ decision_due (next_due own.batcher) w.due first' in
      let run : decide s.waiting s ≡ one_run s = sym (rw first refl) in
      let one = after_one s (written_state_of new q) w.due now (is ∙ run) held.counted held.within in
      let order : AreInOrder own.clock (waiting_of w ∷ map waiting_of rest) = subst (AreInOrder own.clock) rows_are held.order in
      let by : AllDueBy (own.clock + wait) (waiting_of w ∷ map waiting_of rest) = subst (AllDueBy (own.clock + wait)) rows_are held.due_by in
      let noted : AllByRecursion (IsNoted (policies_of own)) (w ∷ rest) = subst (λ (ws : List (WaitingRow TraceNote)). AllByRecursion (IsNoted (policies_of own)) ws) waiting held.noted in
      let now_left : (written_state_of new q).waiting ≡ map waiting_of rest = ap (λ (ws : List (WaitingRow TraceNote)). map waiting_of ws) left in
      let later : own.clock ≤ w.due = order.0 in
      let wait_is : new.section.tail_sampling.decision_wait ≡ wait = ap (λ (x : Section). x.tail_sampling.decision_wait) section in
      let most_is : new.section.tail_sampling.num_traces ≡ own.section.tail_sampling.num_traces = ap (λ (x : Section). x.tail_sampling.num_traces) section in
      let bounds : new.clock + new.section.tail_sampling.decision_wait ≡ w.due + wait = omega (arith, clock, wait_is) in
      record {
        sound = subst (λ (r : RowCounts). StoreInvariant (record { swept = r.swept; first = r.first; decided = r.decided; opened = r.opened }) new.batcher.spans [] q) (sym rows) sound;
        first_is = let f : new.rows.first ≡ own.rows.first = ap (λ (r : RowCounts). r.first) rows in let o : new.rows.opened ≡ own.rows.opened = ap (λ (r : RowCounts). r.opened) rows in let h = held.first_is in omega (arith, f, o, h, most_is);
        noted = subst (λ (x : Section). AllByRecursion (IsNoted (section_view x).tail_sampling.policies) (view_in new q).waiting) (sym section) (subst (λ (ws : List (WaitingRow TraceNote)). AllByRecursion (IsNoted (policies_of own)) ws) (sym left) noted.1);
        rules_are = rules ∙ (held.rules_are ∙ sym (ap (λ (x : Section). rules_of (section_view x)) section));
        order = subst (λ (c : ℕ). AreInOrder c (written_state_of new q).waiting) (sym clock) (subst (AreInOrder w.due) (sym now_left) order.1);
        due_by = subst (λ (c : ℕ). AllDueBy c (written_state_of new q).waiting) (sym bounds) (subst (AllDueBy (w.due + wait)) (sym now_left) (due_by-later (own.clock + wait) (w.due + wait) (map waiting_of rest) (omega (arith, later)) by.1));
        timer = subst (λ (c : ℕ). IsFrom c (next_due new.batcher)) (sym clock) timer;
        counted = one.counted;
        within = one.within;
        few = let a = one.accepted in let f = held.few in let o : new.rows.opened ≡ own.rows.opened = ap (λ (r : RowCounts). r.opened) rows in omega (arith, a, f, o);
        clock_by = omega arith;
        reached_fits = omega (arith, clock, fits);
        unsent_is = unsent ∙ held.unsent_is;
      }
