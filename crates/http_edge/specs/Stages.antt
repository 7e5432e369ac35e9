-- What the private functions find at the front of the buffer, and how far they get. The messages are those of RFC 9112,
-- as Message has them; the stages are this project's own.
use Rattle.std.specs.Prelude.{◌≡◌, ◌≢◌, ℕ, ◌+◌, ◌<◌, ◌≤◌, ◌++◌, Bool, true, false, not, List, [], take, drop, length, Some, None, Option, if◌then◌else◌, ⊤}
use Rattle.httparse.specs.Grammar.{RequestHead, HasNoRequest, MayBecomeRequest, print_request}
use Rattle.httparse.specs.declared.Error.{Error}
use Rattle.httparse.specs.declared.Error.TheVariants.{TooManyHeaders}
use Rattle.http_edge.specs.declared.single.Single.{Single}
use Rattle.http_edge.specs.declared.single.Single.TheVariants as Code
use Rattle.http_edge.specs.Fields.{Single as SingleData, absent, one, repeated}
use Rattle.http_edge.specs.declared.head.Head.{Head}
use Rattle.http_edge.specs.declared.head.HeadProgress.{HeadProgress}
use Rattle.http_edge.specs.declared.head.HeadProgress.TheVariants.{Whole, More, TooMany, Refuse}
use Rattle.http_edge.specs.declared.head.HeadProgress.TheVariants as Progress
use Rattle.http_edge.specs.declared.head.BodyKind.{BodyKind}
use Rattle.http_edge.specs.declared.head.BodyKind.TheVariants.{Sized, Chunks}
use Rattle.http_edge.specs.declared.body.BodyRead.{BodyRead}
use Rattle.http_edge.specs.declared.body.BodyRead.TheVariants as Read
use Rattle.http_edge.specs.declared.body.ChunkedBody.{ChunkedBody}
use Rattle.http_edge.specs.declared.body.Pieces.{Pieces}
use Rattle.http_edge.specs.declared.body.Pieces.TheVariants as Piece
use Rattle.http_edge.specs.declared.wire.EdgeFault.{EdgeFault}
use Rattle.http_edge.specs.declared.wire.Watch.{Watch}
use Rattle.http_edge.specs.declared.wire.EdgeFault.TheVariants.{ReadFailed, OutOfMemory}
use Rattle.http_edge.specs.declared.chunks.ChunkedState.{ChunkedState as PartCode}
use Rattle.http_edge.specs.declared.chunks.ChunkedState.TheVariants.{Line, Bytes, Trailer}
use Rattle.http_edge.specs.declared.chunks.Piece.{Piece as PieceCode}
use Rattle.http_edge.specs.declared.chunks.Piece.TheVariants as Found
use Rattle.http_edge.specs.Chunks.{line_part, bytes_part, trailer_part, has_text, Reaches, FailsAt, LacksAt, HasChunkedBody, StopsAt}
use Rattle.http_edge.specs.Message.{Request, Response, Message, Frame, sized, chunked, headers_of, framing_of, max_fields, max_body, HasHead, HasBody, IsTooLong, IsBroken, LacksBody, HasMessage, request_of, expects, closes, is_bodiless}
use Rattle.http_edge.specs.Talk.{RefusesHead, head_lines, Exchange, exchange_text, Ends, Due, Lacks, Talks}
use Rattle.http_edge.specs.Reply.{reply_text, is_for_no_memory}
use Rattle.http_edge.specs.declared.message.RefusalForm.{RefusalForm}
use Rattle.http_line.specs.Line.{Moves}

-- the status that a parser's error is refused with
abbrev pub error_status : Error → ℕ
error_status TooManyHeaders = 431
error_status _ = 400

-- what the value of a field stands for
abbrev pub single_of : Single → SingleData
single_of Code.Absent = absent
single_of (Code.One value) = one value.now
single_of Code.Repeated = repeated

-- what the kind of a body stands for
abbrev pub frame_by : BodyKind → Frame
frame_by (Sized n) = sized n
frame_by Chunks = chunked

-- the same where there is one
abbrev pub frame_in : Option BodyKind → Option Frame
frame_in None = None
frame_in (Some kind) = Some (frame_by kind)

-- the message of a head and a body
abbrev pub message_with : RequestHead → List ℕ → Message
message_with h body = record { head = h; body = body }

-- the head of the code says what the head of the grammar says
pub record IsHeadOf (head : Head) (h : RequestHead) : Type 0 where
  pub method : head.message.method ≡ h.method
  pub target : head.message.target.items ≡ h.target
  pub headers : head.message.headers ≡ headers_of h
  pub expects : head.expects ≡ expects h
  pub closes : head.closes ≡ closes h
  pub bodiless : head.bodiless ≡ is_bodiless h

-- the head stands in the bytes, and its framing is sound
pub record IsHead (bytes : List ℕ) (head : Head) (h : RequestHead) : Type 0 where
  pub has : HasHead bytes h (drop head.len bytes)
  pub len : head.len ≡ length (print_request h)
  pub framing : framing_of h ≡ Some (frame_by head.kind)
  pub fits : (n : ℕ) → frame_by head.kind ≡ sized n → n ≤ max_body
  pub says : IsHeadOf head h

-- what the bytes begin with
abbrev pub IsHeadProgress : List ℕ → HeadProgress → Type 0
IsHeadProgress bytes (Whole head) = (h : RequestHead) × IsHead bytes head h
IsHeadProgress bytes More = HasNoRequest bytes × MayBecomeRequest bytes
IsHeadProgress bytes TooMany = HasNoRequest bytes × MayBecomeRequest bytes × (max_fields + 1 < head_lines bytes)
IsHeadProgress bytes (Refuse status bodiless) = RefusesHead bytes bodiless status
IsHeadProgress bytes (Progress.OutOfMemory bodiless) =
    (h : RequestHead) × (after : List ℕ) × HasHead bytes h after × (bodiless ≡ is_bodiless h)

-- this holds where a head is whole
abbrev pub IfHead : HeadProgress → Type 0 → Type 0
IfHead (Whole head) fact = fact
IfHead More fact = ⊤
IfHead TooMany fact = ⊤
IfHead (Refuse status bodiless) fact = ⊤
IfHead (Progress.OutOfMemory bodiless) fact = ⊤

-- The bytes that were searched hold none of what is looked for, and only line ends where nothing has begun.
pub record IsWatched (HasNone : List ℕ → Type 0) (bytes : List ℕ) (watch : Watch) : Type 0 where
  pub within : watch.seen ≤ length bytes
  pub none : HasNone (take watch.seen bytes)
  pub blank : watch.is_begun ≡ false → has_text (take watch.seen bytes) ≡ false

-- what is kept of a body: all of it where it is wanted, and nothing where it isn't
abbrev pub kept_if : Bool → List ℕ → List ℕ
kept_if wanted body = if wanted then body else []

-- the message of this head, of whose body this was kept
pub record IsMessageOf (head : Head) (kept : List ℕ) (wanted : Bool) (m : Message) : Type 0 where
  pub says : IsHeadOf head m.head
  pub keeps : kept ≡ kept_if wanted m.body

-- how many bytes of data are still due
abbrev pub bytes_due : PartCode → ℕ
bytes_due Line = 0
bytes_due (Bytes left) = left
bytes_due Trailer = 0

-- the stream comes to the middle of a chunk's data: so many bytes are left of it
pub record IsInData (stream : List ℕ) (left : ℕ) (body rest : List ℕ) : Type 0 where
  pub size : ℕ
  pub before : List ℕ
  pub got : List ℕ
  pub reaches : Reaches stream (bytes_part size) before (got ++ rest)
  pub gives : body ≡ before ++ got
  pub sized : size ≡ length got + left

-- the stream comes to this part with this body so far, and the rest follows
abbrev pub IsAt : List ℕ → PartCode → List ℕ → List ℕ → Type 0
IsAt stream Line body rest = Reaches stream line_part body rest
IsAt stream (Bytes left) body rest = IsInData stream left body rest
IsAt stream Trailer body rest = Reaches stream trailer_part body rest

-- how many bytes a piece has
abbrev pub piece_len : PieceCode → ℕ
piece_len (Found.Passed len next) = len
piece_len (Found.Data len left) = len
piece_len (Found.End len) = len
piece_len Found.More = 0
piece_len Found.Bad = 0

-- a piece after which the body goes on has a byte, and data is what was due
abbrev pub IsStep : PartCode → PieceCode → Type 0
IsStep part (Found.Passed len next) = 0 < len
IsStep part (Found.Data len left) = (0 < len) × (bytes_due part ≡ len + left)
IsStep part (Found.End len) = ⊤
IsStep part Found.More = ⊤
IsStep part Found.Bad = ⊤

-- what the input has of a part that is due after this body
abbrev pub IsPiece : List ℕ → PartCode → List ℕ → List ℕ → PieceCode → Type 0
IsPiece stream part body input (Found.Passed len next) = IsAt stream next body (drop len input)
IsPiece stream part body input (Found.Data len left) =
    IsAt stream (Bytes left) (body ++ take len input) (drop len input)
IsPiece stream part body input (Found.End len) = HasChunkedBody stream body (drop len input)
IsPiece stream part body input Found.More =
    (most : ℕ) → length body + bytes_due part ≤ most → StopsAt LacksAt most stream
IsPiece stream part body input Found.Bad =
    (most : ℕ) → length body + bytes_due part ≤ most → StopsAt FailsAt most stream

-- this body has come so far
pub record Gathers (body : List ℕ) (so_far : ChunkedBody) : Type 0 where
  pub len : so_far.len ≡ length body
  pub bytes : so_far.bytes.items ≡ kept_if so_far.wanted body

-- what was found when the buffer had no more pieces, or wasn't looked at
abbrev pub IsPieces : List ℕ → PartCode → ChunkedBody → List ℕ → Bool → Pieces → Type 0
IsPieces stream part so_far rest looked Piece.End =
    (body : List ℕ) × HasBody chunked stream body rest × Gathers body so_far
IsPieces stream part so_far rest looked Piece.More =
    (body : List ℕ) × IsAt stream part body rest × Gathers body so_far × (looked ≡ true → LacksBody chunked stream)
IsPieces stream part so_far rest looked Piece.Bad = IsBroken stream
IsPieces stream part so_far rest looked Piece.TooLong = IsTooLong chunked stream

-- what came of the reading of a body, which was kept where it was wanted
abbrev pub IsRead : Bool → Frame → List ℕ → List ℕ → BodyRead → Type 0
IsRead wanted frame stream after (Read.Whole kept) = (body : List ℕ) × HasBody frame stream body after
    × (length body ≤ max_body) × (kept.items ≡ kept_if wanted body)
IsRead wanted frame stream after Read.TooLong = (frame ≡ chunked) × IsTooLong chunked stream
IsRead wanted frame stream after Read.Bad = (frame ≡ chunked) × IsBroken stream
IsRead wanted frame stream after Read.Ended = LacksBody frame stream

-- this holds where a body is whole
abbrev pub IfWhole : BodyRead → Type 0 → Type 0
IfWhole (Read.Whole kept) fact = fact
IfWhole Read.TooLong fact = ⊤
IfWhole Read.Bad fact = ⊤
IfWhole Read.Ended fact = ⊤

-- the handler's answer and what is written of it
pub record Replies (form : RefusalForm) {H : Type 0} (answers : H → Request → Response → H
    → Type 0) (old new : H) (m : Message) (written missing : List ℕ) : Type 0 where
  pub reply : Response
  pub answered : answers old (request_of m) reply new
  pub text : reply_text form (is_bodiless m.head) (closes m.head) reply ≡ written ++ missing

-- the message was answered, the reply is written whole, and the connection goes on or not
abbrev pub RepliesWhole : RefusalForm → {H : Type 0} → (H → Request → Response → H → Type 0) → (old new : H)
    → {L : Type 0} → (gives takes : L → L → List ℕ → Type 0) → (first last : L) → Message → Bool → Type 0
RepliesWhole form answers old new gives takes first last m goes = (text : List ℕ)
    × Moves gives takes first last [] text × Replies form answers old new m text [] × (goes ≡ not (closes m.head))

-- the message was answered, and a beginning of the reply is written
abbrev pub RepliesInPart : RefusalForm → {H : Type 0} → (H → Request → Response → H → Type 0) → (old new : H)
    → {L : Type 0} → (gives takes : L → L → List ℕ → Type 0) → (first last : L) → Message → Type 0
RepliesInPart form answers old new gives takes first last m = (text : List ℕ)
    × Moves gives takes first last [] text × (missing : List ℕ) × Replies form answers old new m text missing

-- the message was answered, by no reply for want of memory, and nothing is written of the reply
abbrev pub RepliesUnwritten : RefusalForm → {H : Type 0} → (H → Request → Response → H → Type 0) → (old new : H)
    → {L : Type 0} → (gives takes : L → L → List ℕ → Type 0) → (first last : L) → Message → Type 0
RepliesUnwritten form answers old new gives takes first last m = Moves gives takes first last [] []
    × (missing : List ℕ) × (told : Replies form answers old new m [] missing) × (is_for_no_memory told.reply ≡ false)

-- a message was answered, and the connection goes on
pub record StaysOpen (form : RefusalForm) {H : Type 0} (answers : H → Request → Response → H
    → Type 0) (old new : H) {L : Type 0} (gives takes : L → L → List ℕ → Type 0) (first last : L)
    (before after : List ℕ) : Type 0 where
  pub read : List ℕ
  pub exchange : Exchange
  pub moves : Moves gives takes first last read (exchange_text form exchange)
  pub has : HasMessage (before ++ read) exchange.message after
  pub stays : closes exchange.message.head ≡ false
  pub answered : answers old (request_of exchange.message) exchange.reply new

-- the talk has come to its end
pub record IsOver (form : RefusalForm) {H : Type 0} (answers : H → Request → Response → H
    → Type 0) (old new : H) {L : Type 0} (gives takes : L → L → List ℕ → Type 0) (first last : L) (ended : Type 0)
    (before : List ℕ) : Type 0 where
  pub read : List ℕ
  pub text : List ℕ
  pub over : Bool
  pub moves : Moves gives takes first last read text
  pub ends : Ends form answers old (before ++ read) new text over
  pub end : over ≡ false → ended

-- a failed call of the line broke it off, a read only once all that was due was written
pub record IsBrokenOff (form : RefusalForm) {H : Type 0} (fault : EdgeFault) (answers : H → Request → Response → H
    → Type 0) (old new : H) {L : Type 0} (gives takes : L → L → List ℕ → Type 0) (first last : L) (before : List ℕ)
    : Type 0 where
  pub read : List ℕ
  pub written : List ℕ
  pub moves : Moves gives takes first last read written
  pub missing : List ℕ
  pub due : Due form fault answers old (before ++ read) new (written ++ missing)
  pub whole : fault ≡ ReadFailed → missing ≡ []

-- the same of a whole talk
abbrev pub BreaksOff : RefusalForm → {H : Type 0} → EdgeFault → (H → Request → Response → H → Type 0) → (old new : H)
    → {L : Type 0} → (gives takes : L → L → List ℕ → Type 0) → (first last : L) → Type 0
BreaksOff form fault answers old new gives takes first last = (read : List ℕ) × (written : List ℕ)
    × Moves gives takes first last read written
    × (missing : List ℕ) × Talks form answers (Due form fault answers) old read new (written ++ missing)
    × (fault ≡ ReadFailed → missing ≡ [])

-- want of memory ended it, nothing was said of that, and what says it has a body or not
pub record IsShort {H : Type 0} (bodiless : Bool) (answers : H → Request → Response → H
    → Type 0) (old new : H) {L : Type 0} (gives takes : L → L → List ℕ → Type 0) (first last : L) (before : List ℕ)
    : Type 0 where
  pub read : List ℕ
  pub written : List ℕ
  pub moves : Moves gives takes first last read written
  pub lacks : Lacks answers old (before ++ read) new bodiless written

-- the same of a whole talk
abbrev pub StopsShort : RefusalForm → Bool → {H : Type 0} → (H → Request → Response → H → Type 0) → (old new : H)
    → {L : Type 0} → (gives takes : L → L → List ℕ → Type 0) → (first last : L) → Type 0
StopsShort form bodiless answers old new gives takes first last = (read : List ℕ) × (written : List ℕ)
    × Moves gives takes first last read written
    × Talks form answers (λ mid rest last_state text. Lacks answers mid rest last_state bodiless text)
    old read new written

-- this fault ended it
pub record IsCut (form : RefusalForm) {H : Type 0} (fault : EdgeFault) (bodiless : Bool)
    (answers : H → Request → Response → H → Type 0) (old new : H) {L : Type 0} (gives takes : L → L → List ℕ → Type 0)
    (first last : L) (before : List ℕ) : Type 0 where
  pub broken : fault ≢ OutOfMemory → IsBrokenOff form fault answers old new gives takes first last before
  pub short : fault ≡ OutOfMemory → IsShort bodiless answers old new gives takes first last before
