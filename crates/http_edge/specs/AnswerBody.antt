-- How far the body of an answer has come. How a body's end is found is RFC 9112's, section 6.3; how much of it is kept
-- is this project's own rule.
use Rattle.std.specs.Prelude.{◌≡◌, ℕ, ◌≢◌, ◌≤◌, ◌⊎◌, ⊤, nat_lt, Bool, true, drop, Option, Some, None, List, [], ◌++◌, length}
use Rattle.http1.specs.declared.framing.Framing.{Framing}
use Rattle.http1.specs.declared.conn.Limits.{Limits}
use Rattle.http1.specs.declared.decode.Decoder.{Decoder}
use Rattle.http1.specs.Body.{Body, body_of, ReadsBody}
use Rattle.http1.specs.Decoder.{decoder_for, Completes, with_front}
use Rattle.http1.specs.declared.framing.Framing.TheVariants as Framed
use Rattle.http1.specs.declared.decode.Decoder.TheVariants.{UntilClose}
use Rattle.http_line.specs.Line.{Moves}
use Rattle.http_edge.specs.Message.{max_fields}
use Rattle.http_edge.specs.Chunks.{HasChunkedBody}
use Rattle.http_edge.specs.Stages.{IsAt}
use Rattle.httparse.specs.Grammar.{Field, ResponseHead, print_response, HasNoResponse, status_code}
use Rattle.send_retry.specs.Class.{AnswerData, Failed}
use Rattle.http_edge.specs.Post.{HasAnswerHead, HasAnswerBody, HasFinalHead, RefusesAnswerHead, Tells, LacksAnswer, answer_framing_of, retry_after_of, kept_of, max_kept}
use Rattle.http_edge.specs.declared.chunks.ChunkedState.{ChunkedState as PartCode}
use Rattle.http_edge.specs.declared.answer_head.AnswerHead.{AnswerHead}
use Rattle.http_edge.specs.declared.answer_head.AnswerHeadProgress.{AnswerHeadProgress}
use Rattle.http_edge.specs.declared.answer_head.AnswerHeadProgress.TheVariants as Begin
use Rattle.http_edge.specs.declared.answer_body.AnswerBody.{AnswerBody}
use Rattle.http_edge.specs.declared.answer_body.AnswerPieces.{AnswerPieces}
use Rattle.http_edge.specs.declared.answer_body.AnswerPieces.TheVariants.{End, More, Bad}

-- what is kept of a body: its bytes, and none where it is above the limit
pub record Keeps (body : List ℕ) (kept : AnswerBody) : Type 0 where
  pub bytes : kept.bytes.items ≡ kept_of body
  pub is_over : kept.is_over ≡ nat_lt max_kept (length body)

-- the bounds that http1's decoder is given, of which bodies that aren't in chunks have no use
abbrev pub limits : Limits
limits = record { max_head_len = 65536; max_extensions_len = 65536; max_trailers_len = 65536 }

-- the stream begins with a body in that framing, by http1's rules, which those for bodies in chunks are not
abbrev pub HasPlainBody : Framing → List ℕ → List ℕ → List ℕ → Type 0
HasPlainBody framing stream body after =
    (trailers : List Field) × (length trailers ≤ max_fields) × ReadsBody limits framing stream (body_of body trailers)
    after

-- The decoder has taken the stream up to the buffer, and this is the body so far.
pub record HasCome (framing : Framing) (stream : List ℕ) (decoder : Decoder) (body buffer : List ℕ) : Type 0 where
  pub back : (more : List ℕ) (b : Body) (rest : List ℕ) → Completes decoder (buffer ++ more) b rest
      → Completes (decoder_for limits framing) (stream ++ more) (with_front body b) rest
  pub forth : (more : List ℕ) (whole : Body) (rest : List ℕ) → Completes (decoder_for limits framing) (stream
      ++ more) whole rest → (b : Body) × (whole ≡ with_front body b) × Completes decoder (buffer ++ more) b rest
  pub to_end : (framing ≡ Framed.UntilClose → decoder ≡ UntilClose) × (decoder ≡ UntilClose
      → framing ≡ Framed.UntilClose)

-- what was found when the buffer had no more pieces
abbrev pub IsPlainPieces : Framing → List ℕ → Decoder → AnswerBody → List ℕ → AnswerPieces → Type 0
IsPlainPieces framing stream decoder kept rest End = (body : List ℕ) × HasPlainBody framing stream body rest
    × Keeps body kept × (framing ≢ Framed.UntilClose)
IsPlainPieces framing stream decoder kept rest More =
    (body : List ℕ) × HasCome framing stream decoder body rest × Keeps body kept
    × (framing ≢ Framed.UntilClose → (b left : List ℕ) → ¬ (HasPlainBody framing stream b left))
    × (framing ≡ Framed.UntilClose → rest ≡ [])
IsPlainPieces framing stream decoder kept rest Bad = (more b left : List ℕ)
    → ¬ (HasPlainBody framing (stream ++ more) b left)

-- the same of a body in chunks, and that the buffer may not have been looked at
abbrev pub IsChunkPieces : List ℕ → PartCode → AnswerBody → List ℕ → Bool → AnswerPieces → Type 0
IsChunkPieces stream part kept rest looked End =
    (body : List ℕ) × HasChunkedBody stream body rest × Keeps body kept
IsChunkPieces stream part kept rest looked More =
    (body : List ℕ) × IsAt stream part body rest × Keeps body kept
    × (looked ≡ true → (b left : List ℕ) → ¬ (HasChunkedBody stream b left))
IsChunkPieces stream part kept rest looked Bad = (more b left : List ℕ) → ¬ (HasChunkedBody (stream ++ more) b left)

-- what came of the reading of an answer's body, which stands so in the stream: with one that states its end that of the
-- input isn't met
abbrev pub IsBodyIn : (List ℕ → List ℕ → List ℕ → Type 0) → Framing → List ℕ → Type 0 → Option (List ℕ) → Type 0
IsBodyIn Has framing stream ended (Some bytes) =
    (body : List ℕ) × (left : List ℕ) × Has stream body left × (framing ≡ Framed.UntilClose → ended)
    × (framing ≢ Framed.UntilClose → ¬ ended) × (bytes ≡ kept_of body)
IsBodyIn Has framing stream ended None =
    ((more b left : List ℕ) → ¬ (Has (stream ++ more) b left))
    ⊎ (((b left : List ℕ) → ¬ (Has stream b left)) × ended)

-- what came of the reading of an answer's body
abbrev pub IsAnswerBody : Framing → List ℕ → Type 0 → Option (List ℕ) → Type 0
IsAnswerBody framing = IsBodyIn (HasAnswerBody framing) framing

-- the same by http1's rules
abbrev pub IsPlainBody : Framing → List ℕ → Type 0 → Option (List ℕ) → Type 0
IsPlainBody framing = IsBodyIn (HasPlainBody framing) framing

-- no whole body that states its end stands so at the stream's front
abbrev pub HasNone : (List ℕ → List ℕ → List ℕ → Type 0) → Framing → List ℕ → Type 0
HasNone Has framing stream = framing ≢ Framed.UntilClose → (b left : List ℕ) → ¬ (Has stream b left)

-- no whole body of an answer that states its end
abbrev pub LacksAnswerBody : Framing → List ℕ → Type 0
LacksAnswerBody framing = HasNone (HasAnswerBody framing) framing

-- the same by http1's rules
abbrev pub LacksPlainBody : Framing → List ℕ → Type 0
LacksPlainBody framing = HasNone (HasPlainBody framing) framing

-- the head of the code says what the head of the grammar says, which stands in the bytes
pub record IsAnswerHead (bytes : List ℕ) (head : AnswerHead) (h : ResponseHead) : Type 0 where
  pub has : HasAnswerHead bytes h (drop head.len bytes)
  pub len : head.len ≡ length (print_response h)
  pub status : head.status ≡ status_code h
  pub framing : head.framing ≡ answer_framing_of h
  pub retry_after : head.retry_after ≡ retry_after_of h

-- whatever head of the grammar stands so at the front of the buffer: what was read behind it tells this answer
abbrev pub TellsBehind : {L : Type 0} → (gives takes : L → L → List ℕ → Type 0) → (first last : L) → Bool
    → List ℕ → AnswerHead → AnswerData → Type 0
TellsBehind gives takes first last ended buffer head answer = (h : ResponseHead) → IsAnswerHead buffer head h
    → (read : List ℕ) × Moves gives takes first last read []
    × ((before : List ℕ) → HasFinalHead before h (drop head.len buffer) → Tells (before ++ read) ended answer)

-- the same where a read failed: with what was read behind the head no whole answer has come
abbrev pub LacksBehind : {L : Type 0} → (gives takes : L → L → List ℕ → Type 0) → (first last : L) → List ℕ
    → AnswerHead → Type 0
LacksBehind gives takes first last buffer head = (h : ResponseHead) → IsAnswerHead buffer head h
    → (read : List ℕ) × Moves gives takes first last read []
    × ((before : List ℕ) → HasFinalHead before h (drop head.len buffer) → LacksAnswer (before ++ read))

-- what the bytes of an answer begin with
abbrev pub IsAnswerHeadProgress : List ℕ → AnswerHeadProgress → Type 0
IsAnswerHeadProgress bytes (Begin.Whole head) = (h : ResponseHead) × IsAnswerHead bytes head h
IsAnswerHeadProgress bytes Begin.More = HasNoResponse bytes
IsAnswerHeadProgress bytes Begin.Bad = RefusesAnswerHead bytes

-- this holds where an answer's head is whole
abbrev pub IfAnswerHead : AnswerHeadProgress → Type 0 → Type 0
IfAnswerHead (Begin.Whole head) fact = fact
IfAnswerHead Begin.More fact = ⊤
IfAnswerHead Begin.Bad fact = ⊤

-- what the bytes read have after the interim heads: a head at the front of the buffer, or why no answer comes
abbrev pub IsFinal : List ℕ → Bool → List ℕ → Option AnswerHead → Type 0
IsFinal read ended buffer (Some head) =
    (h : ResponseHead) × HasFinalHead read h (drop head.len buffer) × IsAnswerHead buffer head h
IsFinal read ended buffer None = Tells read ended Failed
