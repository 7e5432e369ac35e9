-- The laws of lanes.
use Rattle.std.proofs.Common.{◌≡◌, ◌++◌, length, take, sym, ap, ◌∙◌, subst, arith, length-append}
use Rattle.std.proofs.Math.Seq.{take-append_seam}
use Rattle.log_positions.specs.Numbered.{items_of, AreAllOf}
use Rattle.log_positions.proofs.Numbered.{length-AreAllOf, AreFrom-all, AreFrom-longer, Contains-from}
use Rattle.log_positions.proofs.Law.{in_order}
use Rattle.job_lane.specs.Law.{LoneSeatsKnow, PopsWerePushed, FirstInFirstOut, all_pushes, all_pops}

pub lone_seats_know : LoneSeatsKnow
lone_seats_know capacity s one = (
  (λ full.
      let run = full.2.alone one in
      omega (arith, full.1, length-AreAllOf (full.2.gone ++ full.0) s.pushes run.pushed, length-AreAllOf full.2.gone s.pops run.popped, length-append full.2.gone full.0)),
  (λ empty.
      let run = empty.2.alone one in
      omega (arith, empty.1, length-AreAllOf (empty.2.gone ++ empty.0) s.pushes run.pushed, length-AreAllOf empty.2.gone s.pops run.popped, length-append empty.2.gone empty.0)),
)

pub pops_were_pushed : PopsWerePushed
pops_were_pushed seats taken left whole =
    let all = whole.gone ++ whole.held in
    let run = whole.run in (
      Contains-from all (all_pushes seats) (all_pops seats) run.pushed (AreFrom-longer whole.gone whole.held (all_pops seats) (AreFrom-all whole.gone (all_pops seats) run.popped)),
      length-AreAllOf whole.gone (all_pops seats) run.popped ∙ whole.taken_is,
      omega (arith, length-AreAllOf all (all_pushes seats) run.pushed, length-append whole.gone whole.held, whole.taken_is, whole.left_is),
    )

pub first_in_first_out : FirstInFirstOut
first_in_first_out seats taken left from to whole pushes_are pops_are up up' =
    let all = whole.gone ++ whole.held in
    let pushed : items_of from.pushes ≡ all = in_order all from.pushes (subst (AreAllOf all) pushes_are whole.run.pushed) up in
    let popped : items_of to.pops ≡ whole.gone = in_order whole.gone to.pops (subst (AreAllOf whole.gone) pops_are whole.run.popped) up' in
    popped ∙ sym (ap (λ n. take n (items_of from.pushes)) (sym whole.taken_is) ∙ ap (λ l. take (length whole.gone) l) pushed ∙ take-append_seam whole.gone whole.held)
