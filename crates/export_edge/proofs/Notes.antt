-- What is noted of a whole work.
use Rattle.std.proofs.Common.{◌≡◌, ℕ, List, [], ◌∷◌, ◌++◌, map, flat_map, refl, ap, ◌∙◌}
use Rattle.std.proofs.lemmas.List.{map-id}
use Rattle.export_edge.specs.declared.work.TurnResult.{TurnResult}
use Rattle.export_edge.specs.declared.work.TurnResult.TheVariants as turned
use Rattle.export_edge.specs.Work.{Through, BeatCall, gave, moments_in, moment_of, pause_after, TurnerRound, turn_made, job_pushed, lane_full, turn_in, turner_calls, Given, given_for, Handed, attempts, taken_of, Hands, refused_calls, SenderRound, job_sent, lane_empty, sent_in, sender_calls}
use Rattle.export_edge.specs.Law.{MomentsAreNoted}
use Rattle.export_edge.proofs.Throughs.{noted_all, noted_through, same_through}

-- where each item is noted as it is
pub noted_whole : {S X : Type 0} (step : S → X → S → Type 0) (noted : S → List X)
    → ((old new : S) (x : X) → step old x new → noted new ≡ noted old ++ x ∷ [])
    → (old new : S) (xs : List X) → Through step old xs new → noted new ≡ noted old ++ xs
noted_whole step noted adds old new xs p = noted_through step (λ x. x) noted adds old new xs p
    ∙ ap (λ v. noted old ++ v) (map-id xs)

-- an answer is handed in, and noted once
handed_in : {S : Type 0} (takes refuses : S → Given → S → Type 0) (noted : S → List Given)
    → ((old new : S) (g : Given) → takes old g new → noted new ≡ noted old ++ g ∷ [])
    → ((old new : S) (g : Given) → refuses old g new → noted new ≡ noted old)
    → (old new : S) (h : Handed) → Hands takes refuses old h new → noted new ≡ noted old ++ taken_of h ∷ []
handed_in takes refuses noted adds same old new h p =
    let before = same_through (λ s now t. refuses s (given_for h.post now) t) noted
    (λ s t now r. same s t (given_for h.post now) r) old p.mid h.refusals p.refused in
    adds p.mid new (taken_of h) p.taken ∙ ap (λ v. v ++ taken_of h ∷ []) before

pub answers_noted : {S : Type 0} (takes refuses : S → Given → S → Type 0) (noted : S → List Given)
    → ((old new : S) (g : Given) → takes old g new → noted new ≡ noted old ++ g ∷ [])
    → ((old new : S) (g : Given) → refuses old g new → noted new ≡ noted old)
    → (old new : S) (sent : List Handed) → Through (Hands takes refuses) old sent new
    → noted new ≡ noted old ++ map taken_of sent
answers_noted takes refuses noted adds same = noted_through (Hands takes refuses) taken_of noted
    (handed_in takes refuses noted adds same)

-- no moment is given behind a turn
pauses_give_none : (came_to : TurnResult) (rest : List BeatCall)
    → flat_map moments_in (pause_after came_to ++ rest) ≡ flat_map moments_in rest
pauses_give_none (turned.Job job) rest = refl
pauses_give_none turned.Worked rest = refl
pauses_give_none turned.Idle rest = refl

-- the moments of a turner's rounds are those of its turns
turner_moments : (rounds : List TurnerRound)
    → flat_map moments_in (flat_map turner_calls rounds) ≡ map moment_of (flat_map turn_in rounds)
turner_moments [] = refl
turner_moments (turn_made t ∷ rounds) =
    ap (λ v. t.now ∷ v) (pauses_give_none t.came_to (flat_map turner_calls rounds) ∙ turner_moments rounds)
turner_moments (job_pushed pushed ∷ rounds) = turner_moments rounds
turner_moments (lane_full ∷ rounds) = turner_moments rounds

-- the moments at which an answer is handed in
hand_moments : (refusals : List ℕ) (now : ℕ) (rest : List BeatCall)
    → flat_map moments_in ((flat_map refused_calls refusals ++ gave now ∷ []) ++ rest)
    ≡ (refusals ++ now ∷ []) ++ flat_map moments_in rest
hand_moments [] now rest = refl
hand_moments (refusal ∷ refusals) now rest = ap (λ v. refusal ∷ v) (hand_moments refusals now rest)

-- the moments of a sender's rounds are those of its attempts
sender_moments : (rounds : List SenderRound)
    → flat_map moments_in (flat_map sender_calls rounds) ≡ flat_map attempts (flat_map sent_in rounds)
sender_moments [] = refl
sender_moments (job_sent h ∷ rounds) = hand_moments h.refusals h.now (flat_map sender_calls rounds)
    ∙ ap (λ v. attempts h ++ v) (sender_moments rounds)
sender_moments (lane_empty ∷ rounds) = sender_moments rounds

pub moments_noted : {B : Type 0} (calls : B → BeatCall → B → Type 0) → MomentsAreNoted calls
moments_noted calls noted adds old new = (
  λ rounds p. noted_all calls moments_in noted adds old new (flat_map turner_calls rounds) p
      ∙ ap (λ v. noted old ++ v) (turner_moments rounds),
  λ rounds p. noted_all calls moments_in noted adds old new (flat_map sender_calls rounds) p
      ∙ ap (λ v. noted old ++ v) (sender_moments rounds),
)
