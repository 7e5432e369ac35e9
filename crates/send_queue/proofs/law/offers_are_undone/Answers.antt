use Rattle.std.proofs.Common.{◌≡◌, ◌∙◌, ap, refl, Some, ℕ, ◌+◌, ◌-◌, List, [], ◌∷◌, ◌++◌, length, take, arith}
use Rattle.std.proofs.Math.Seq.{take-append_seam}
use Rattle.std.proofs.lemmas.List.{length-append}
use Rattle.send_queue.specs.Sender.{BatchData, SenderData, newest}
use Rattle.send_queue.proofs.law.offers_are_undone.Goals as goal

last_of : (bs : List BatchData) (b : BatchData) → newest (bs ++ b ∷ []) ≡ Some b
last_of [] b = refl
last_of (x ∷ []) b = refl
last_of (x ∷ y ∷ bs) b = last_of (y ∷ bs) b

others_of : (bs : List BatchData) (b : BatchData) → take (length (bs ++ b ∷ []) - 1) (bs ++ b ∷ []) ≡ bs
others_of bs b =
    let all : length (bs ++ b ∷ []) ≡ length bs + 1 = length-append bs (b ∷ []) in
    let n : length (bs ++ b ∷ []) - 1 ≡ length bs = omega (arith, all) in
    ap (λ (n : ℕ). take n (bs ++ b ∷ [])) n ∙ take-append_seam bs (b ∷ [])

pub returns-clause-batch : goal.returns-clause-batch
returns-clause-batch c = λ b s room. rw room (last_of s.queue b)

pub returns-clause-rest : goal.returns-clause-rest
returns-clause-rest c = λ b s room.
    rw room (ap (λ (bs : List BatchData). let z : SenderData = record s { queue = bs } in z) (others_of s.queue b))
