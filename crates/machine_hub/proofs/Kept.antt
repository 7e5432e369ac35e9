-- A run with one entry more.
use Rattle.std.proofs.Common.{◌≡◌, ◌+◌, List, [], ◌∷◌, ◌++◌, Bool, true, false, true≢false, refl, sym, ap, ◌∙◌, subst}
use Rattle.std.specs.Prelude.{Result, Ok, Err}
use Rattle.machine_hub.specs.declared.entry.Entry.{Entry}
use Rattle.machine_hub.specs.Runs.{Runs, RunsFrom, IsLossOf, RunsWithLosses, entries_in, lost_in, losses, IsHistory}

module _ {M S O : Type 0} (steps : M → S → O → M → Type 0) where
  pub runs_push : (start : M) (es : List (Entry S O)) (e : Entry S O) (middle end : M) → Runs steps start es middle → steps middle e.step e.outcome end → Runs steps start (es ++ e ∷ []) end
  runs_push start [] e middle end run step = (end, subst (λ m. steps m e.step e.outcome end) (sym run) step, refl)
  runs_push start (x ∷ es) e middle end run step = (run.0, run.1, runs_push run.0 es e middle end run.2 step)

module _ {M S O C : Type 0} (asks : C → S → Type 0) (steps : M → S → O → M → Type 0) (loses : C → M → M → Type 0) where
  -- a step more, and a call more that was refused memory
  losses_then_step : (start : M) (hs : List (Result (Entry S O) C)) (e : Entry S O) (middle end : M) → RunsWithLosses asks steps loses start hs middle → steps middle e.step e.outcome end → RunsWithLosses asks steps loses start (hs ++ Ok e ∷ []) end
  losses_then_step start [] e middle end later_run step = (end, subst (λ m. steps m e.step e.outcome end) (sym later_run) step, refl)
  losses_then_step start (Err call ∷ hs) e middle end later_run step = (later_run.0, later_run.1, losses_then_step later_run.0 hs e middle end later_run.2 step)
  losses_then_step start (Ok h ∷ hs) e middle end later_run step = (later_run.0, later_run.1, losses_then_step later_run.0 hs e middle end later_run.2 step)

  losses_then_loss : (start : M) (hs : List (Result (Entry S O) C)) (call : C) (middle end : M) → RunsWithLosses asks steps loses start hs middle → IsLossOf asks steps loses call middle end
      → RunsWithLosses asks steps loses start (hs ++ Err call ∷ []) end
  losses_then_loss start [] call middle end later_run loss = (end, subst (λ m. IsLossOf asks steps loses call m end) (sym later_run) loss, refl)
  losses_then_loss start (Err first ∷ hs) call middle end later_run loss = (later_run.0, later_run.1, losses_then_loss later_run.0 hs call middle end later_run.2 loss)
  losses_then_loss start (Ok h ∷ hs) call middle end later_run loss = (later_run.0, later_run.1, losses_then_loss later_run.0 hs call middle end later_run.2 loss)

  -- what the machine is where memory wasn't refused
  pub history_now : (start : M) (es : List (Entry S O)) (hs : List (Result (Entry S O) C)) (is : Bool) (now : M) (s : IsHistory asks steps loses start es hs is now) → is ≡ false → s.middle ≡ now
  history_now start es hs is now s on = subst (λ l. RunsWithLosses asks steps loses s.middle l now) (s.clean on) s.later_run

  pub history_runs : (start : M) (es : List (Entry S O)) (hs : List (Result (Entry S O) C)) (is : Bool) (now : M) → IsHistory asks steps loses start es hs is now → RunsFrom steps start es is now
  history_runs start es hs is now s = record { middle = s.middle; run = s.run; now_is = λ on. history_now start es hs is now s on }

  pub history_none : (start : M) (is : Bool) → IsHistory asks steps loses start [] [] is start
  history_none start is = record { middle = start; run = refl; later_run = refl; clean = λ _. refl }

  pub history_logged : (start : M) (es : List (Entry S O)) (hs : List (Result (Entry S O) C)) (e : Entry S O) (was is : Bool) (old now : M) → IsHistory asks steps loses start es hs was old → was ≡ false → steps old e.step e.outcome now
      → IsHistory asks steps loses start (es ++ e ∷ []) hs is now
  history_logged start es hs e was is old now s on step =
      let none = s.clean on in
      record {
        middle = now;
        run = runs_push steps start es e s.middle now s.run (subst (λ m. steps m e.step e.outcome now) (sym (history_now start es hs was old s on)) step);
        later_run = subst (λ l. RunsWithLosses asks steps loses now l now) (sym none) refl;
        clean = λ _. none;
      }

  pub history_late : (start : M) (es : List (Entry S O)) (hs : List (Result (Entry S O) C)) (e : Entry S O) (was is : Bool) (old now : M) → IsHistory asks steps loses start es hs was old → is ≡ true → steps old e.step e.outcome now
      → IsHistory asks steps loses start es (hs ++ Ok e ∷ []) is now
  history_late start es hs e was is old now s off step = record {
    middle = s.middle;
    run = s.run;
    later_run = losses_then_step s.middle hs e old now s.later_run step;
    clean = λ on. absurd (true≢false (sym off ∙ on));
  }

  pub history_loss : (start : M) (es : List (Entry S O)) (hs : List (Result (Entry S O) C)) (call : C) (was is : Bool) (old now : M) → IsHistory asks steps loses start es hs was old → is ≡ true → IsLossOf asks steps loses call old now
      → IsHistory asks steps loses start es (hs ++ Err call ∷ []) is now
  history_loss start es hs call was is old now s off loss = record {
    middle = s.middle;
    run = s.run;
    later_run = losses_then_loss s.middle hs call old now s.later_run loss;
    clean = λ on. absurd (true≢false (sym off ∙ on));
  }

module _ {E C : Type 0} where
  pub entries_in_push : (hs : List (Result E C)) (e : E) → entries_in (hs ++ Ok e ∷ []) ≡ entries_in hs ++ e ∷ []
  entries_in_push [] e = refl
  entries_in_push (Err call ∷ hs) e = entries_in_push hs e
  entries_in_push (Ok h ∷ hs) e = ap (λ l. h ∷ l) (entries_in_push hs e)

  pub entries_in_loss : (hs : List (Result E C)) (call : C) → entries_in (hs ++ Err call ∷ []) ≡ entries_in hs
  entries_in_loss [] call = refl
  entries_in_loss (Err first ∷ hs) call = entries_in_loss hs call
  entries_in_loss (Ok h ∷ hs) call = ap (λ l. h ∷ l) (entries_in_loss hs call)

  pub lost_in_push : (hs : List (Result E C)) (e : E) → lost_in (hs ++ Ok e ∷ []) ≡ lost_in hs
  lost_in_push [] e = refl
  lost_in_push (Err call ∷ hs) e = ap (λ l. call ∷ l) (lost_in_push hs e)
  lost_in_push (Ok h ∷ hs) e = lost_in_push hs e

  pub lost_in_loss : (hs : List (Result E C)) (call : C) → lost_in (hs ++ Err call ∷ []) ≡ lost_in hs ++ call ∷ []
  lost_in_loss [] call = refl
  lost_in_loss (Err first ∷ hs) call = ap (λ l. first ∷ l) (lost_in_loss hs call)
  lost_in_loss (Ok h ∷ hs) call = lost_in_loss hs call

  pub losses_push : (hs : List (Result E C)) (e : E) → losses (hs ++ Ok e ∷ []) ≡ losses hs
  losses_push [] e = refl
  losses_push (Err call ∷ hs) e = ap (λ n. n + 1) (losses_push hs e)
  losses_push (Ok h ∷ hs) e = losses_push hs e

  pub losses_loss : (hs : List (Result E C)) (call : C) → losses (hs ++ Err call ∷ []) ≡ losses hs + 1
  losses_loss [] call = refl
  losses_loss (Err first ∷ hs) call = ap (λ n. n + 1) (losses_loss hs call)
  losses_loss (Ok h ∷ hs) call = losses_loss hs call
