-- What a step tells of a seat.
use Rattle.std.proofs.Common.{◌≡◌, ℕ, ◌+◌, ◌<◌, List, [], ◌∷◌, ◌++◌, length, Bool, true, false, true≢false, Option, Some, None, refl, sym, ap, ◌∙◌, subst, arith}
use Rattle.std.specs.Prelude.{Result, Ok, Err}
use Rattle.atomic_table.specs.Seated.{TableId}
use Rattle.log_positions.specs.Numbered.{AreBelow, AreRising}
use Rattle.log_positions.proofs.Numbered.{AreBelow-from, AreRising-push}
use Rattle.machine_hub.specs.declared.entry.Entry.{Entry}
use Rattle.machine_hub.specs.declared.view.Home.{Home}
use Rattle.machine_hub.specs.declared.view.SlotView.{SlotView}
use Rattle.machine_hub.specs.declared.view.Standing.{Standing}
use Rattle.machine_hub.specs.declared.told.Told.{Told}
use Rattle.machine_hub.specs.Runs.{entry, IsLossOf, entries_in, lost_in, IsLogged, IsMade}
use Rattle.machine_hub.specs.Slot.{seat_view, with_history, added, added_late, stored, passed, Taken, Stepped, Stopped, IsSteppedBy, IsBackWith, IsStoppedBy, IsReturnedBy}
use Rattle.machine_hub.specs.Seats.{SeatState, if_kept, IsSeatsMachine, IsStepOf, IsRefusalOf, WasTold}

some_same : {X : Type 0} (a b : X) → Some a ≡ Some b → a ≡ b
some_same a b e = cc

module _ {M S O C : Type 0} where
  -- a seat by what its pass knows
  abbrev pub seat_of : TableId → SlotView M S O C → SeatState M S O C
  seat_of slot v = record { slot = slot; home = v.home; calls = v.calls; late = v.late; bare = v.bare; refused = v.refused; lost = v.lost }

  -- what the log says of a step, by whether memory was refused before
  stays_as : (old new : Standing M S O C) (e : Entry S O) (given : Option (ℕ × Entry S O)) → IsLogged old new e given → new.stopped ≡ old.stopped
  stays_as old new e None l = l.1
  stays_as old new e (Some given) l = l.3 ∙ sym l.2

  adds_to : (old new : Standing M S O C) (e : Entry S O) (given : Option (ℕ × Entry S O)) (es : List (Entry S O)) (keeps : Bool) → IsLogged old new e given → old.keeps ≡ keeps → old.entries ≡ stored keeps es
      → new.entries ≡ stored keeps (added new.stopped es e)
  adds_to old new e None es true l same is =
      let off : new.stopped ≡ true = l.1 ∙ l.2 same in
      l.0 ∙ is ∙ ap (λ b. added b es e) (sym off)
  adds_to old new e None es false l same is = l.0 ∙ is
  adds_to old new e (Some given) es true l same is = l.1 ∙ ap (λ l. l ++ e ∷ []) is ∙ ap (λ b. added b es e) (sym l.3)
  adds_to old new e (Some given) es false l same is = absurd (true≢false (sym l.4 ∙ same))

  given_off : (old new : Standing M S O C) (e : Entry S O) (given : Option (ℕ × Entry S O)) (keeps : Bool) → IsLogged old new e given → new.stopped ≡ true → given ≡ if_kept keeps None
  given_off old new e None true l off = refl
  given_off old new e None false l off = refl
  given_off old new e (Some given) keeps l off = absurd (true≢false (sym off ∙ l.3))

  given_on : (old new : Standing M S O C) (e : Entry S O) (given : Option (ℕ × Entry S O)) (es : List (Entry S O)) (keeps : Bool) → IsLogged old new e given → new.stopped ≡ false → old.keeps ≡ keeps → old.entries ≡ stored keeps es
      → given ≡ if_kept keeps (Some (length es, e))
  given_on old new e None es true l on same is = absurd (true≢false (sym (l.2 same) ∙ sym l.1 ∙ on))
  given_on old new e None es false l on same is = refl
  given_on old new e (Some given) es true l on same is = ap Some (l.0 ∙ ap (λ (l : List (Entry S O)). (length l, e)) is)
  given_on old new e (Some given) es false l on same is = absurd (true≢false (sym l.4 ∙ same))

module _ {M S O C : Type 0} (asks : C → S → Type 0) (steps : M → S → O → M → Type 0) (loses : C → M → M → Type 0) where
  -- the seat that takes the machine out has it, and its part
  held_by : (v u : SlotView M S O C) (before : Standing M S O C) (t : Taken asks steps loses v before u) → v.parts ≡ 1 → (0 < u.parts) × (u.held ≡ Some (with_history t.entries t.later before)) × (u.home ≡ v.home)
  held_by v u before t part = (
    subst (λ (y : SlotView M S O C). 0 < y.parts) (sym t.after) (omega (arith, part)),
    ap (λ (y : SlotView M S O C). y.held) t.after,
    ap (λ (y : SlotView M S O C). y.home) t.after,
  )

  kept_by : (v u : SlotView M S O C) (before : Standing M S O C) (t : Taken asks steps loses v before u) → v.parts ≡ 1 → (before.keeps ≡ u.home.keeps) × (before.entries ≡ stored u.home.keeps t.entries)
  kept_by v u before t part =
      let mine : v.home.keeps ≡ u.home.keeps = ap (λ (y : Home M). y.keeps) (sym (held_by v u before t part).2) in
      ((t.home (omega (arith, part))).1 ∙ mine, t.kept (omega (arith, part)) ∙ ap (λ b. stored b t.entries) mine)

  pub stepped_by : (call : C) (v u : SlotView M S O C) (before s : Standing M S O C) (outcome : O) (given : Option (ℕ × Entry S O)) → Taken asks steps loses v before u → v.parts ≡ 1
      → (s.number ≡ before.number) × (s.keeps ≡ before.keeps) → IsMade asks steps call before s outcome given → IsSteppedBy steps u s
  stepped_by call v u before s outcome given t part same made =
      let has = held_by v u before t part in
      let e : Entry S O = entry made.0 outcome in record {
        old = with_history t.entries t.later before;
        step = made.0;
        outcome = outcome;
        part = has.0;
        held = has.1;
        same = same;
        kept = let mine = kept_by v u before t part in adds_to before s e given t.entries u.home.keeps made.4 mine.0 mine.1;
        last = made.3;
        stays = stays_as before s e given made.4;
        stepped = made.2;
      }

  back_with : (v u : SlotView M S O C) (before s : Standing M S O C) (t : Taken asks steps loses v before u) → v.parts ≡ 1
      → (s.number ≡ before.number) × (s.keeps ≡ before.keeps) → s.entries ≡ before.entries → IsBackWith (with_history t.entries t.later before) u s
  back_with v u before s t part same is =
      let has = held_by v u before t part in record {
        part = has.0;
        held = has.1;
        same = same;
        kept = is ∙ (kept_by v u before t part).1;
      }

  pub stopped_by : (call : C) (v u : SlotView M S O C) (before s : Standing M S O C) → Taken asks steps loses v before u → v.parts ≡ 1
      → (s.number ≡ before.number) × (s.keeps ≡ before.keeps) → (s.entries ≡ before.entries) × (s.stopped ≡ true) → s.asked ≡ Some call → IsLossOf asks steps loses call before.machine s.machine → IsStoppedBy asks steps loses u s
  stopped_by call v u before s t part same refused asked loss = (with_history t.entries t.later before, call, back_with v u before s t part same refused.0, refused.1, asked, loss)

  pub returned_by : (v u : SlotView M S O C) (s : Standing M S O C) → Taken asks steps loses v s u → v.parts ≡ 1 → IsReturnedBy u s
  returned_by v u s t part = (with_history t.entries t.later s, back_with v u s s t part (refl, refl) refl, refl, refl)

  -- the machine as the seat that takes it out knows it
  known_by : (slot : TableId) (v u : SlotView M S O C) (s : Standing M S O C) (t : Taken asks steps loses v s u) → v.parts ≡ 1 → IsSeatsMachine asks steps loses (seat_of slot v) (with_history t.entries t.later s)
  known_by slot v u s t part = record {
    home = t.home (omega (arith, part));
    history = t.history (omega (arith, part));
    calls = t.calls;
    late_calls = t.late;
    lost_calls = t.lost;
  }

  pub told_so : {Q A : Type 0} (reads : M → Q → A → Type 0) (question : Q) (slot : TableId) (v u : SlotView M S O C) (seat : SeatState M S O C) (s : Standing M S O C) (told : Told A)
      → seat_of slot v ≡ seat → v.parts ≡ 1 → Taken asks steps loses v s u → reads s.machine question told.answer → told.stopped ≡ s.stopped → WasTold asks steps loses reads seat question told
  told_so reads question slot v u seat s told is part t answer stopped =
      subst (λ (y : SeatState M S O C). WasTold asks steps loses reads y question told) is (with_history t.entries t.later s, known_by slot v u s t part, answer, stopped)

  -- what the seat knows after the step
  after_view : (v u w : SlotView M S O C) (before s : Standing M S O C) (e : Entry S O) (t : Taken asks steps loses v before u) → Stepped u s w → s.last ≡ Some e
      → w ≡ seat_view v.parts v.home None (added s.stopped v.calls (length t.entries, e)) (added_late s.stopped v.late (length (entries_in t.later), e)) (passed s.stopped v.bare) v.refused v.lost
  after_view v u w before s e t stepped last =
      let told = subst (λ (y : SlotView M S O C). Stepped y s w) t.after stepped in
      let same : with_history t.entries t.later before ≡ told.0 = some_same (with_history t.entries t.later before) told.0 told.2 in
      let made : told.1 ≡ e = some_same told.1 e (sym told.3 ∙ last) in
      let here : length told.0.entries ≡ length t.entries = ap (λ (y : Standing M S O C). length y.entries) (sym same) in
      let there : length (entries_in told.0.later) ≡ length (entries_in t.later) = ap (λ (y : Standing M S O C). length (entries_in y.later)) (sym same) in
      told.4 ∙ (λ i. seat_view v.parts v.home None (added s.stopped v.calls (here i, made i)) (added_late s.stopped v.late (there i, made i)) (passed s.stopped v.bare) v.refused v.lost)

  -- what the seat knows after a call was refused memory
  lost_view : (call : C) (v u w : SlotView M S O C) (before s : Standing M S O C) (t : Taken asks steps loses v before u) → Stopped u s w → s.asked ≡ Some call
      → w ≡ seat_view v.parts v.home None v.calls v.late v.bare (v.refused + 1) (v.lost ++ (length (lost_in t.later), call) ∷ [])
  lost_view call v u w before s t stopped asked =
      let told = subst (λ (y : SlotView M S O C). Stopped y s w) t.after stopped in
      let same : with_history t.entries t.later before ≡ told.0 = some_same (with_history t.entries t.later before) told.0 told.2 in
      let mine : told.1 ≡ call = some_same told.1 call (sym told.3 ∙ asked) in
      let here : length (lost_in told.0.later) ≡ length (lost_in t.later) = ap (λ (y : Standing M S O C). length (lost_in y.later)) (sym same) in
      told.4 ∙ (λ i. seat_view v.parts v.home None v.calls v.late v.bare (v.refused + 1) (v.lost ++ (here i, mine i) ∷ []))

  pub seat_remains : (call : C) (v u w : SlotView M S O C) (before s : Standing M S O C) → Taken asks steps loses v before u → Stopped u s w → v.parts ≡ 1 → AreRising v.calls → s.asked ≡ Some call
      → (w.parts ≡ 1) × (w.held ≡ None) × AreRising w.calls
  seat_remains call v u w before s t stopped part rising asked =
      let is = lost_view call v u w before s t stopped asked in (
        ap (λ (y : SlotView M S O C). y.parts) is ∙ part,
        ap (λ (y : SlotView M S O C). y.held) is,
        subst (λ (y : SlotView M S O C). AreRising y.calls) (sym is) rising,
      )

  pub refusal_of : (call : C) (slot slot' : TableId) (v u w : SlotView M S O C) (seat : SeatState M S O C) (before s : Standing M S O C)
      → seat_of slot v ≡ seat → slot' ≡ slot → v.parts ≡ 1 → Taken asks steps loses v before u → Stopped u s w → s.stopped ≡ true → s.asked ≡ Some call → IsLossOf asks steps loses call before.machine s.machine
      → IsRefusalOf asks steps loses seat (seat_of slot' w) call
  refusal_of call slot slot' v u w seat before s is same part t stopped off asked loss =
      let view = lost_view call v u w before s t stopped asked in
      subst (λ (y : SeatState M S O C). IsRefusalOf asks steps loses y (seat_of slot' w) call) is (record {
        noted = (length (lost_in t.later), call);
        lost = record {
          old = with_history t.entries t.later before;
          new = with_history t.entries (t.later ++ Err call ∷ []) s;
          before = known_by slot v u before t part;
          lost = loss;
          adds = (refl, refl, refl, off);
        };
        above = AreBelow-from (lost_in t.later) v.lost t.lost;
        after = λ i. seat_of (same i) (view i);
      })

  rises : (calls : List (ℕ × Entry S O)) (stopped : Bool) (n : ℕ) (e : Entry S O) → AreBelow n calls → AreRising calls → AreRising (added stopped calls (n, e))
  rises calls true n e below rising = rising
  rises calls false n e below rising = AreRising-push calls n e below rising

  pub seat_stands : (call : C) (v u w : SlotView M S O C) (before s : Standing M S O C) (outcome : O) (given : Option (ℕ × Entry S O)) → Taken asks steps loses v before u → Stepped u s w
      → v.parts ≡ 1 → AreRising v.calls → IsMade asks steps call before s outcome given → (w.parts ≡ 1) × (w.held ≡ None) × AreRising w.calls
  seat_stands call v u w before s outcome given t stepped part rising made =
      let e : Entry S O = entry made.0 outcome in
      let is = after_view v u w before s e t stepped made.3 in (
        ap (λ (y : SlotView M S O C). y.parts) is ∙ part,
        ap (λ (y : SlotView M S O C). y.held) is,
        subst (λ (y : SlotView M S O C). AreRising y.calls) (sym is) (rises v.calls s.stopped (length t.entries) e (AreBelow-from t.entries v.calls t.calls) rising),
      )

  pub step_of : (call : C) (slot slot' : TableId) (v u w : SlotView M S O C) (seat : SeatState M S O C) (before s : Standing M S O C) (outcome : O) (given : Option (ℕ × Entry S O))
      → seat_of slot v ≡ seat → slot' ≡ slot → v.parts ≡ 1 → Taken asks steps loses v before u → Stepped u s w → IsMade asks steps call before s outcome given
      → IsStepOf asks steps loses seat (seat_of slot' w) call outcome given
  step_of call slot slot' v u w seat before s outcome given is same part t stepped made =
      subst (λ (y : SeatState M S O C). IsStepOf asks steps loses y (seat_of slot' w) call outcome given) is (by s.stopped refl)
    where
      e : Entry S O
      e = entry made.0 outcome

      old : Standing M S O C
      old = with_history t.entries t.later before

      view : w ≡ seat_view v.parts v.home None (added s.stopped v.calls (length t.entries, e)) (added_late s.stopped v.late (length (entries_in t.later), e)) (passed s.stopped v.bare) v.refused v.lost
      view = after_view v u w before s e t stepped made.3

      view_at : (b : Bool) → s.stopped ≡ b → w ≡ seat_view v.parts v.home None (added b v.calls (length t.entries, e)) (added_late b v.late (length (entries_in t.later), e)) (passed b v.bare) v.refused v.lost
      view_at b at = view ∙ ap (λ c. seat_view v.parts v.home None (added c v.calls (length t.entries, e)) (added_late c v.late (length (entries_in t.later), e)) (passed c v.bare) v.refused v.lost) at

      stays : s.stopped ≡ before.stopped
      stays = stays_as before s e given made.4

      known : IsSeatsMachine asks steps loses (seat_of slot v) old
      known = known_by slot v u before t part

      by : (b : Bool) → s.stopped ≡ b → IsStepOf asks steps loses (seat_of slot v) (seat_of slot' w) call outcome given
      by true off = record {
        late = true;
        noted = (length (entries_in t.later), e);
        made = record {
          old = old;
          new = with_history t.entries (t.later ++ Ok e ∷ []) s;
          before = known;
          step = made.0;
          asked = made.1;
          made = made.2;
          adds = (refl, refl, refl, sym stays ∙ off, off);
        };
        above = AreBelow-from (entries_in t.later) v.late t.late;
        after = λ i. seat_of (same i) (view_at true off i);
        given_is = given_off before s e given v.home.keeps made.4 off;
      }
      by false on = record {
        late = false;
        noted = (length t.entries, e);
        made = record {
          old = old;
          new = with_history (t.entries ++ e ∷ []) t.later s;
          before = known;
          step = made.0;
          asked = made.1;
          made = made.2;
          adds = (refl, refl, refl, sym stays ∙ on, on);
        };
        above = AreBelow-from t.entries v.calls t.calls;
        after = λ i. seat_of (same i) (view_at false on i);
        given_is = given_on before s e given t.entries v.home.keeps made.4 on known.home.1 (t.kept (omega (arith, part)));
      }
