-- What a sender is told without a step of a shard (OTLP/HTTP).
use Rattle.std.specs.Prelude.{◌≡◌, ℕ, ◌<◌, List, [], ◌⊎◌, codes, length}
use Rattle.http_edge.specs.Message.{Response}
use Rattle.http_edge.specs.Reply.{status_body}
use Rattle.http_edge.specs.declared.message.Allow.TheVariants as methods
use Rattle.http_edge.specs.declared.message.MediaType.TheVariants.{Protobuf}
use Rattle.otlp_trace.specs.Text.{refusal_text}

-- an answer of this status and content
abbrev pub answer : ℕ → List ℕ → Response
answer status body = record { status = status; media = Protobuf; allow = methods.Post; body = body }

-- the body has no value: a `google.rpc.Status` with this message alone
abbrev pub bad_request : Response
bad_request = answer 400 (refusal_text (codes "bad protobuf"))

-- a `google.rpc.Status` with its message alone is spelled alike before a body is looked at and behind that; messages of
-- no byte, and of 128 bytes and more, aren't told before
abbrev pub StatusesAgree : Type 0
StatusesAgree =
    (message : List ℕ) → 0 < length message → length message < 128 → status_body message ≡ refusal_text message

-- memory was refused
abbrev pub no_memory : Response
no_memory = answer 503 []

-- the sender is told so, or that memory was refused
abbrev pub MayTell : Response → Response → Type 0
MayTell due told = (told ≡ due) ⊎ (told ≡ no_memory)
