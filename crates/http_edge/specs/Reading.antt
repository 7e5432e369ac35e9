-- Where what is read settles which messages are answered: everywhere, whoever answers and whatever is answered. Laws of
-- this project's own.
use Rattle.std.specs.Prelude.{◌≡◌, ◌⊎◌, ℕ, Bool, true, false, List, [], ◌∷◌, ◌++◌, map}
use Rattle.http_edge.specs.Message.{Request, Response, Message}
use Rattle.http_edge.specs.Talk.{Exchange, Ends, waits, refuses, closing, Due, reading_head, reading_body, interim, refusing, replying, Lacks, at_front, behind_head, at_refusal, at_body, at_reply, IsDue, breaking, lacking, Talks, Talk}
use Rattle.http_edge.specs.declared.message.RefusalForm.{RefusalForm}
use Rattle.http_edge.specs.declared.wire.EdgeFault.{EdgeFault}

-- the messages of the exchanges
abbrev pub messages : List Exchange → List Message
messages es = map (λ (e : Exchange). e.message) es

-- the message that closes the connection, where one does: it is answered too
abbrev pub closing_message : {form : RefusalForm} {H : Type 0} {answers : H → Request → Response → H → Type 0} {old : H}
    {rest : List ℕ} {new : H} {text : List ℕ} {over : Bool} → Ends form answers old rest new text over → List Message
closing_message (waits text less same) = []
closing_message (refuses text bad same) = []
closing_message (closing e after has shut told) = e.message ∷ []

-- the message whose reply a failed write broke off, where one did
abbrev pub cut_message : {form : RefusalForm} {H : Type 0} {fault : EdgeFault}
    {answers : H → Request → Response → H → Type 0} {old : H} {rest : List ℕ} {new : H} {text : List ℕ}
    → Due form fault answers old rest new text → List Message
cut_message (reading_head failed none same) = []
cut_message (reading_body failed h may none same) = []
cut_message (interim failed h may same) = []
cut_message (refusing failed text bad same) = []
cut_message (replying failed e after has told) = e.message ∷ []

-- the message for whose reply there was no memory, where it was answered
abbrev pub unwritten_message : {H : Type 0} {answers : H → Request → Response → H → Type 0} {old : H} {rest : List ℕ}
    {new : H} {bodiless : Bool} {text : List ℕ} → Lacks answers old rest new bodiless text → List Message
unwritten_message (at_front none same) = []
unwritten_message (behind_head h after has same) = []
unwritten_message (at_refusal bodiless status bad same) = []
unwritten_message (at_body h may same) = []
unwritten_message (at_reply e after has told full) = e.message ∷ []

-- the message that was answered, but whose reply the fault kept from being written whole, where there is one
abbrev pub due_message : {form : RefusalForm} {H : Type 0} {fault : EdgeFault}
    {answers : H → Request → Response → H → Type 0} {old : H} {rest : List ℕ} {new : H} {text : List ℕ}
    → IsDue form fault answers old rest new text → List Message
due_message (breaking text due) = cut_message due
due_message (lacking text bodiless other lacks) = unwritten_message lacks

-- The handler answered these messages, in order, for the bytes read: in a whole talk (true), or in one that a fault
-- broke off (false).
pub data Answered (form : RefusalForm) {H : Type 0} (answers : H → Request → Response → H → Type 0) (read : List ℕ)
    : List Message → Bool → Type 0 where
  whole : (old new : H) (written : List ℕ) (over : Bool) (talk : Talk form answers old read new written over)
      → Answered form answers read (messages talk.exchanges ++ closing_message talk.due) true
  broken_off : (fault : EdgeFault) (old new : H) (written : List ℕ)
      (talk : Talks form answers (IsDue form fault answers) old read new written)
      → Answered form answers read (messages talk.exchanges ++ due_message talk.due) false

-- these messages are the first of those
abbrev pub IsFrontOf : List Message → List Message → Type 0
IsFrontOf front all = (more : List Message) × (front ++ more ≡ all)

-- Two whole talks over the same bytes answer the same messages, whoever answers.
abbrev pub OneReading : RefusalForm → {H : Type 0} → (H → Request → Response → H → Type 0) → RefusalForm → {G : Type 0}
    → (G → Request → Response → G → Type 0) → Type 0
OneReading form answers other replies = (read : List ℕ) (these those : List Message)
    → Answered form answers read these true → Answered other replies read those true → these ≡ those

-- A talk, broken off or not, answers the first of the messages that a whole talk answers over these bytes and any more.
abbrev pub ReadsFront : RefusalForm → {H : Type 0} → (H → Request → Response → H → Type 0) → RefusalForm → {G : Type 0}
    → (G → Request → Response → G → Type 0) → Type 0
ReadsFront form answers other replies = (read more : List ℕ) (these those : List Message) (ended : Bool)
    → Answered form answers read these ended → Answered other replies (read ++ more) those true → IsFrontOf these those

-- Where two talks, broken off or not, each read a beginning of the same bytes, the one answers the first of the
-- messages that the other answers.
abbrev pub ReadsAlike : RefusalForm → {H : Type 0} → (H → Request → Response → H → Type 0) → RefusalForm → {G : Type 0}
    → (G → Request → Response → G → Type 0) → Type 0
ReadsAlike form answers other replies =
    (read more text rest : List ℕ) (these those : List Message) (ended over : Bool) → read ++ more ≡ text ++ rest
    → Answered form answers read these ended → Answered other replies text those over
    → IsFrontOf these those ⊎ IsFrontOf those these
