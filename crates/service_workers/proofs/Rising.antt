-- Moments of turners and senders, none below the one before.
use Rattle.std.proofs.Common.{◌≡◌, ℕ, ◌≤◌, List, [], ◌∷◌, ◌++◌, map, flat_map, false, refl, ap, subst, ◌∙◌}
use Rattle.export_edge.specs.declared.work.TurnResult.{TurnResult}
use Rattle.export_edge.specs.declared.work.TurnResult.TheVariants as turned
use Rattle.export_edge.specs.Work.{Through, BeatCall, looked, gave, paused, moment_of, pause_after, TurnerRound, turn_made, job_pushed, lane_full, turn_in, turner_calls, attempts, refused_calls, SenderRound, job_sent, lane_empty, sent_in, sender_calls}
use Rattle.service_runtime.specs.Moments.{RisesBy, Rises}

-- moments, and then others
rises_on : (xs ys : List ℕ) (a b c : ℕ) → Rises a xs b → Rises b ys c → Rises a (xs ++ ys) c
rises_on [] ys a b c first next = subst (λ n. Rises n ys c) first next
rises_on (x ∷ xs) ys a b c first next = (first.0, rises_on xs ys x b c first.1 next)

-- of a beat whose calls make of its last moment what `RisesBy` says
module _ {B : Type 0} (last : B → ℕ) (calls : B → BeatCall → B → Type 0) (says : (b : B) (call : BeatCall) (next : B) → calls b call next → RisesBy (last b) call (last next)) where
  -- no moment is given behind a turn
  after_turn : (came_to : TurnResult) (rest : List BeatCall) (b end : B) → Through calls b (pause_after came_to ++ rest) end → (mid : B) × (last mid ≡ last b) × Through calls mid rest end
  after_turn (turned.Job job) rest b end runs = (b, refl, runs)
  after_turn turned.Worked rest b end runs = (b, refl, runs)
  after_turn turned.Idle rest b end runs = (runs.0, says b paused runs.0 runs.1, runs.2)

  pub turns_rise : (rounds : List TurnerRound) (b end : B) → Through calls b (flat_map turner_calls rounds) end → Rises (last b) (map moment_of (flat_map turn_in rounds)) (last end)
  turns_rise [] b end runs = ap last runs
  turns_rise (turn_made t ∷ rounds) b end runs =
      let seen : last runs.0 ≡ last b = says b (looked false) runs.0 runs.1 in
      let given : RisesBy (last runs.0) (gave t.now) (last runs.2.0) = says runs.0 (gave t.now) runs.2.0 runs.2.1 in
      let after = after_turn t.came_to (flat_map turner_calls rounds) runs.2.0 end runs.2.2 in
      (subst (λ n. n ≤ t.now) seen given.0, subst (λ n. Rises n (map moment_of (flat_map turn_in rounds)) (last end)) (after.1 ∙ given.1) (turns_rise rounds after.0 end after.2))
  turns_rise (job_pushed pushed ∷ rounds) b end runs =
      subst (λ n. Rises n (map moment_of (flat_map turn_in rounds)) (last end)) (says b (looked false) runs.0 runs.1) (turns_rise rounds runs.0 end runs.2)
  turns_rise (lane_full ∷ rounds) b end runs =
      subst (λ n. Rises n (map moment_of (flat_map turn_in rounds)) (last end)) (says runs.0 paused runs.2.0 runs.2.1 ∙ says b (looked false) runs.0 runs.1) (turns_rise rounds runs.2.0 end runs.2.2)

  -- an answer is handed in
  hands_rise : (refusals : List ℕ) (now : ℕ) (rest : List BeatCall) (b end : B) → Through calls b ((flat_map refused_calls refusals ++ gave now ∷ []) ++ rest) end
      → (mid : B) × Rises (last b) (refusals ++ now ∷ []) (last mid) × Through calls mid rest end
  hands_rise [] now rest b end runs = (runs.0, says b (gave now) runs.0 runs.1, runs.2)
  hands_rise (refusal ∷ refusals) now rest b end runs =
      let given : RisesBy (last b) (gave refusal) (last runs.0) = says b (gave refusal) runs.0 runs.1 in
      let rests : last runs.2.0 ≡ last runs.0 = says runs.0 paused runs.2.0 runs.2.1 in
      let more = hands_rise refusals now rest runs.2.0 end runs.2.2 in
      (more.0, (given.0, subst (λ n. Rises n (refusals ++ now ∷ []) (last more.0)) (rests ∙ given.1) more.1), more.2)

  pub attempts_rise : (rounds : List SenderRound) (b end : B) → Through calls b (flat_map sender_calls rounds) end → Rises (last b) (flat_map attempts (flat_map sent_in rounds)) (last end)
  attempts_rise [] b end runs = ap last runs
  attempts_rise (job_sent h ∷ rounds) b end runs =
      let hand = hands_rise h.refusals h.now (flat_map sender_calls rounds) runs.0 end runs.2 in
      let first = subst (λ n. Rises n (attempts h) (last hand.0)) (says b (looked false) runs.0 runs.1) hand.1 in
      rises_on (attempts h) (flat_map attempts (flat_map sent_in rounds)) (last b) (last hand.0) (last end) first (attempts_rise rounds hand.0 end hand.2)
  attempts_rise (lane_empty ∷ rounds) b end runs =
      subst (λ n. Rises n (flat_map attempts (flat_map sent_in rounds)) (last end)) (says runs.0 paused runs.2.0 runs.2.1 ∙ says b (looked false) runs.0 runs.1) (attempts_rise rounds runs.2.0 end runs.2.2)
