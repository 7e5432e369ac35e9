-- A post and what a back end answers to it, on the wire. (OTLP/HTTP Request and OTLP/HTTP Response; RFC 9112, sections
-- 3 and 4.) What is kept of an answer is this project's own rule.
use Rattle.std.specs.Prelude.{◌≡◌, ◌≢◌, ℕ, zero, suc, ◌/◌, ◌≤◌, ◌==◌, ◌&&◌, ◌||◌, not, nat_le, min, Bool, true, false, List, [], ◌++◌, length, map, take, Option, Some, None, if◌then◌else◌, codes, decimal, ◌^◌, ◌-◌}
use Rattle.httparse.specs.Ascii.{crlf_bytes}
use Rattle.httparse.specs.Grammar.{ResponseHead, IsResponseHead, print_response, HasNoResponse, NeverHasResponse, status_code}
use Rattle.httparse.specs.Spans.{name_and_value, ResponseExceeds, ResponseOverflows}
use Rattle.http1.specs.declared.framing.Framing.{Framing}
use Rattle.http1.specs.declared.framing.Framing.TheVariants.{NoBody, Length, Chunked, UntilClose}
use Rattle.send_retry.specs.Class.{AnswerData, Http, Failed}
use Rattle.http_edge.specs.Fields.{Single, absent, one, repeated, field, number_of, framing_in}
use Rattle.http_edge.specs.Message.{Header, max_fields, max_head}
use Rattle.http_edge.specs.Chunks.{HasChunkedBody}

-- the head of a post of so many bytes, in parts
abbrev pub before_host : List ℕ
before_host = codes "POST /v1/traces HTTP/1.1" ++ crlf_bytes ++ codes "Host: "

-- what stands between the host and the length
abbrev pub before_length : List ℕ
before_length = crlf_bytes ++ codes "Content-Type: application/x-protobuf" ++ crlf_bytes ++ codes "Content-Length: "

-- what stands after the length
abbrev pub after_length : List ℕ
after_length = crlf_bytes ++ codes "Connection: close" ++ crlf_bytes ++ crlf_bytes

-- the head of a post to this host of so many bytes (RFC 9112, section 3)
unfoldable pub post_head : List ℕ → ℕ → List ℕ
post_head host len = before_host ++ (host ++ (before_length ++ (decimal len ++ after_length)))

-- a post of a payload, whole
abbrev pub post_text : List ℕ → List ℕ → List ℕ
post_text host payload = post_head host (length payload) ++ payload

-- the bytes begin with an answer's head that has room
pub record HasAnswerHead (bytes : List ℕ) (h : ResponseHead) (after : List ℕ) : Type 0 where
  pub valid : IsResponseHead h
  pub whole : bytes ≡ print_response h ++ after
  pub fields : length h.fields ≤ max_fields
  pub size : length (print_response h) ≤ max_head

-- they begin with none: none comes, or it is too large
pub data RefusesAnswerHead (bytes : List ℕ) : Type 0 where
  bad : NeverHasResponse bytes → RefusesAnswerHead bytes
  many : ResponseExceeds max_fields bytes → ResponseOverflows max_fields bytes → RefusesAnswerHead bytes
  long : max_head ≤ length bytes → HasNoResponse (take max_head bytes) → RefusesAnswerHead bytes

-- a head that another head follows (RFC 9110, section 15.2)
abbrev pub is_interim : ResponseHead → Bool
is_interim h = (status_code h / 100 == 1) && not (status_code h == 101)

-- the bytes begin with so many interim heads
abbrev pub SkipsInterims : ℕ → List ℕ → List ℕ → Type 0
SkipsInterims zero bytes rest = bytes ≡ rest
SkipsInterims (suc n) bytes rest =
    (h : ResponseHead) × (after : List ℕ) × HasAnswerHead bytes h after × (is_interim h ≡ true)
    × SkipsInterims n after rest

-- the fields of an answer's head
abbrev pub answer_fields : ResponseHead → List Header
answer_fields h = map name_and_value h.fields

-- 101, 204 and 304 have no body (RFC 9110, section 15), and of another status the fields say where it ends
abbrev pub is_bodiless_status : ℕ → Bool
is_bodiless_status status = (status == 101) || ((status == 204) || (status == 304))

-- how the end of an answer's body is found, from its status and its fields (RFC 9112, section 6.3)
abbrev pub answer_framing_in : ℕ → List Header → Option Framing
answer_framing_in status headers = if is_bodiless_status status then Some NoBody else framing_in UntilClose headers

-- the same from its head
unfoldable pub answer_framing_of : ResponseHead → Option Framing
answer_framing_of h = answer_framing_in (status_code h) (answer_fields h)

-- the stream begins with a body in that framing
abbrev pub HasAnswerBody : Framing → List ℕ → List ℕ → List ℕ → Type 0
HasAnswerBody NoBody stream body after = (length body ≡ 0) × (stream ≡ body ++ after)
HasAnswerBody (Length n) stream body after = (length body ≡ n) × (stream ≡ body ++ after)
HasAnswerBody Chunked stream body after = HasChunkedBody stream body after
HasAnswerBody UntilClose stream body after = (body ≡ stream) × (after ≡ [])

-- a body above 4 MiB counts as empty
abbrev pub max_kept : ℕ
max_kept = 4194304

-- what is kept of a body
abbrev pub kept_of : List ℕ → List ℕ
kept_of body = if nat_le (length body) max_kept then body else []

-- seconds, of which no more than 2 ^ 32 - 1 are heeded
abbrev pub seconds_of : Option ℕ → Option ℕ
seconds_of None = None
seconds_of (Some n) = Some (min n (2 ^ 32 - 1))

-- `Retry-After` with 1 to 10 digits, where it stands once; as a date it counts for nothing (RFC 9110, section 10.2.3)
abbrev pub seconds_in : Single → Option ℕ
seconds_in absent = None
seconds_in (one text) = seconds_of (number_of 10 text)
seconds_in repeated = None

-- the seconds to wait, from all fields
abbrev pub retry_after_in : List Header → Option ℕ
retry_after_in headers = seconds_in (field (codes "retry-after") headers)

-- the same from an answer's head
unfoldable pub retry_after_of : ResponseHead → Option ℕ
retry_after_of h = retry_after_in (answer_fields h)

-- after at most 16 interim heads stands this head, with this after it
pub record HasFinalHead (read : List ℕ) (h : ResponseHead) (after : List ℕ) : Type 0 where
  pub interims : ℕ
  pub few : interims ≤ 16
  pub rest : List ℕ
  pub skips : SkipsInterims interims read rest
  pub head : HasAnswerHead rest h after
  pub final : is_interim h ≡ false

-- What the bytes read tell, where the input has ended or not. No whole answer is `Failed`.
pub data Tells (read : List ℕ) (ended : Bool) : AnswerData → Type 0 where
  -- a whole answer: a body without a stated end goes up to the end of the input, and with any other that isn't met
  whole : (h : ResponseHead) (after body left : List ℕ) (framing : Framing) → HasFinalHead read h after
      → answer_framing_of h ≡ Some framing
      → HasAnswerBody framing after body left → (framing ≡ UntilClose → ended ≡ true)
      → (framing ≢ UntilClose → ended ≡ false)
      → Tells read ended (Http (status_code h) (retry_after_of h) (kept_of body))
  many_interims : (rest : List ℕ) → SkipsInterims 17 read rest → Tells read ended Failed
  bad_head : (n : ℕ) (rest : List ℕ) → n ≤ 16 → SkipsInterims n read rest → RefusesAnswerHead rest
      → Tells read ended Failed
  bad_framing : (h : ResponseHead) (after : List ℕ) → HasFinalHead read h after → answer_framing_of h ≡ None
      → Tells read ended Failed
  bad_body : (h : ResponseHead) (after : List ℕ) (framing : Framing) → HasFinalHead read h after
      → answer_framing_of h ≡ Some framing
      → ((more body left : List ℕ) → ¬ (HasAnswerBody framing (after ++ more) body left)) → Tells read ended Failed
  cut_head : (n : ℕ) (rest : List ℕ) → n ≤ 16 → SkipsInterims n read rest → HasNoResponse rest → ended ≡ true
      → Tells read ended Failed
  cut_body : (h : ResponseHead) (after : List ℕ) (framing : Framing) → HasFinalHead read h after
      → answer_framing_of h ≡ Some framing
      → ((body left : List ℕ) → ¬ (HasAnswerBody framing after body left)) → ended ≡ true → Tells read ended Failed

-- no whole answer that states its end has come
abbrev pub LacksAnswer : List ℕ → Type 0
LacksAnswer read = (status : ℕ) (retry_after : Option ℕ) (body : List ℕ)
    → ¬ (Tells read false (Http status retry_after body))

-- the same bytes tell one answer, whether the input has ended or not
abbrev pub OneAnswer : Type 0
OneAnswer = (read : List ℕ) (ended over : Bool) (a b : AnswerData) → Tells read ended a → Tells read over b → a ≡ b
