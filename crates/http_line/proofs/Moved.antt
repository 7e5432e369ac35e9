-- One stretch of a line's calls after another.
use Rattle.std.proofs.Common.{◌≡◌, ℕ, List, [], ◌++◌, append_assoc, append-nil}
use Rattle.http_line.specs.Line.{Moves, no_call, one_read, one_write}

pub stays : {L : Type 0} {gives takes : L → L → List ℕ → Type 0} (l : L) → Moves gives takes l l [] []
stays l = no_call

pub then : {L : Type 0} {gives takes : L → L → List ℕ → Type 0} {old mid new : L} {a b x y : List ℕ}
    → Moves gives takes old mid a x → Moves gives takes mid new b y → Moves gives takes old new (a ++ b) (x ++ y)
then {a = a} {x = x} p no_call = rw (append-nil a, append-nil x) p
then {a = a} {x = x} p (one_read now new read written bytes q given) =
    rw (← append_assoc a read bytes) (one_read now new (a ++ read) (x ++ written) bytes (then p q) given)
then {a = a} {x = x} p (one_write now new read written bytes q taken) =
    rw (← append_assoc x written bytes) (one_write now new (a ++ read) (x ++ written) bytes (then p q) taken)

-- the same, where the whole is written in another way
pub then_to : {L : Type 0} {gives takes : L → L → List ℕ → Type 0} {old mid new : L} {a b ab x y xy : List ℕ}
    → Moves gives takes old mid a x → Moves gives takes mid new b y → a ++ b ≡ ab → x ++ y ≡ xy
    → Moves gives takes old new ab xy
then_to p q e f = rw (← e, ← f) (then p q)

-- a call alone
pub by_read : {L : Type 0} {gives takes : L → L → List ℕ → Type 0} {old new : L} {bytes : List ℕ}
    → gives old new bytes → Moves gives takes old new bytes []
by_read {old = old} {new = new} {bytes = bytes} given = one_read old new [] [] bytes no_call given

pub by_write : {L : Type 0} {gives takes : L → L → List ℕ → Type 0} {old new : L} {bytes : List ℕ}
    → takes old new bytes → Moves gives takes old new [] bytes
by_write {old = old} {new = new} {bytes = bytes} taken = one_write old new [] [] bytes no_call taken
