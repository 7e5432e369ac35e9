-- Laws of turners' and senders' work: who takes notes of what is asked of it has, after a whole work, noted just what
-- the work is said to be. So the steps from a first state to a last are as many as the items, and no others. Laws of
-- this project's own.
use Rattle.std.specs.Prelude.{◌≡◌, ℕ, List, [], ◌∷◌, ◌++◌, map, flat_map}
use Rattle.export_edge.specs.Work.{Through, BeatCall, moments_in, Turn, moment_of, TurnerRound, turn_in, turner_calls, Posted, Given, Handed, attempts, taken_of, Hands, SenderRound, sent_in, sender_calls}

-- a source that notes its turns has noted those that were made, each once and in order
abbrev pub TurnsAreNoted : {S : Type 0} → (S → Turn → S → Type 0) → Type 0
TurnsAreNoted {S} turns = (noted : S → List Turn)
    → ((old new : S) (t : Turn) → turns old t new → noted new ≡ noted old ++ t ∷ [])
    → (old new : S) (made : List Turn) → Through turns old made new → noted new ≡ noted old ++ made

-- a back end that notes its posts has noted those that were made, each once and in order
abbrev pub PostsAreNoted : {B : Type 0} → (B → Posted → B → Type 0) → Type 0
PostsAreNoted {B} posts = (noted : B → List Posted)
    → ((old new : B) (p : Posted) → posts old p new → noted new ≡ noted old ++ p ∷ [])
    → (old new : B) (sent : List Posted) → Through posts old sent new → noted new ≡ noted old ++ sent

-- a sink that notes the answers that it takes, and no others, has noted one to each job, under its tenant and ticket
-- and at the moment at which it was taken, in order
abbrev pub AnswersAreNoted : {S : Type 0} → (S → Given → S → Type 0) → (S → Given → S → Type 0) → Type 0
AnswersAreNoted {S} takes refuses = (noted : S → List Given)
    → ((old new : S) (g : Given) → takes old g new → noted new ≡ noted old ++ g ∷ [])
    → ((old new : S) (g : Given) → refuses old g new → noted new ≡ noted old)
    → (old new : S) (sent : List Handed) → Through (Hands takes refuses) old sent new
    → noted new ≡ noted old ++ map taken_of sent

-- a beat that notes its calls has noted those that were made, each once and in order
abbrev pub CallsAreNoted : {B : Type 0} → (B → BeatCall → B → Type 0) → Type 0
CallsAreNoted {B} calls = (noted : B → List BeatCall)
    → ((old new : B) (c : BeatCall) → calls old c new → noted new ≡ noted old ++ c ∷ [])
    → (old new : B) (made : List BeatCall) → Through calls old made new → noted new ≡ noted old ++ made

-- a beat that notes the moments that it gives, and nothing where it gives none, has noted just those at which a turner
-- made its turns, and those at which a sender handed in its answers
abbrev pub MomentsAreNoted : {B : Type 0} → (B → BeatCall → B → Type 0) → Type 0
MomentsAreNoted {B} calls = (noted : B → List ℕ)
    → ((old new : B) (c : BeatCall) → calls old c new → noted new ≡ noted old ++ moments_in c)
    → (old new : B)
    → ((rounds : List TurnerRound) → Through calls old (flat_map turner_calls rounds) new
    → noted new ≡ noted old ++ map moment_of (flat_map turn_in rounds))
    × ((rounds : List SenderRound) → Through calls old (flat_map sender_calls rounds) new
    → noted new ≡ noted old ++ flat_map attempts (flat_map sent_in rounds))
