-- What a receiver does with those who come. This project's own rule.
use Rattle.std.specs.Prelude.{◌⊎◌, ℕ, List, Bool, true, false, Option, Some, None}
use Rattle.http_edge.specs.Message.{Request, Response}
use Rattle.http_edge.specs.Talk.{Talk, Begins}
use Rattle.http_edge.specs.declared.message.RefusalForm.{RefusalForm}
use Rattle.http_edge.specs.declared.wire.EdgeFault.{EdgeFault}

-- over a connection these replies were given to the messages in the bytes read, in order, and nothing else was written,
-- by who has refusals in this form, or a fault broke that off
abbrev pub IsTalk : RefusalForm → {H : Type 0} → (H → Request → Response → H → Type 0) → H → H → Type 0
IsTalk form answers old new =
    (read : List ℕ) × (written : List ℕ)
    × (((over : Bool) × Talk form answers old read new written over)
    ⊎ ((fault : EdgeFault) × Begins form fault answers old read new written))

-- the guest was served, where the end was then not seen, and else let go
abbrev pub Served : {D G : Type 0} → (D → Bool → D → Type 0) → (D → G → D → Type 0) → D → G → D → Type 0
Served {D} looks serves came guest new =
    (looks came true new) ⊎ ((seen : D) × looks came false seen × serves seen guest new)

-- Who came was served, or let go where the end was seen; where nobody came there was a pause.
pub data IsRound {D G : Type 0} (looks : D → Bool → D → Type 0) (takes : D → Option G → D → Type 0)
    (serves : D → G → D → Type 0) (rests : D → D → Type 0) (old new : D) : Type 0 where
  somebody : (guest : G) (came : D) → takes old (Some guest) came → Served looks serves came guest new
      → IsRound looks takes serves rests old new
  nobody : (came : D) → takes old None came → rests came new → IsRound looks takes serves rests old new

-- rounds that followed one another, before each of which the end was not seen
pub data Rounds {D G : Type 0} (looks : D → Bool → D → Type 0) (takes : D → Option G → D → Type 0)
    (serves : D → G → D → Type 0) (rests : D → D → Type 0) (old : D) : D → Type 0 where
  no_round : Rounds looks takes serves rests old old
  round_more : (before seen new : D) → Rounds looks takes serves rests old before → looks before false seen
      → IsRound looks takes serves rests seen new → Rounds looks takes serves rests old new

-- What a receiver did: such rounds, until the end was seen.
pub record Receiving {D G : Type 0} (looks : D → Bool → D → Type 0) (takes : D → Option G → D → Type 0)
    (serves : D → G → D → Type 0) (rests : D → D → Type 0) (old new : D) : Type 0 where
  pub last : D
  pub rounds : Rounds looks takes serves rests old last
  pub over : looks last true new
