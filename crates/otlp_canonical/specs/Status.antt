-- A span's status that stands several times is merged (the Protocol Buffers encoding guide, "Last One Wins").
use Rattle.std.specs.Prelude.{◌≡◌, ◌+◌, if◌then◌else◌, ℕ, suc, Bool, List, [], ◌∷◌, ◌++◌, Ok}
use Rattle.pb_wire.specs.Grammar.{Bytes}
use Rattle.otlp_trace.specs.Data.{StatusData, SpanData}
use Rattle.otlp_trace.specs.Text.{number_field, bytes_field}
use Rattle.otlp_read.specs.Numbers.{int32}
use Rattle.otlp_read.specs.Value.{status_step, span_step}
use Rattle.otlp_read.specs.Walk.{Piece, Pieces, fold_fields, numbered}
use Rattle.otlp_canonical.specs.Order.{between}

-- at depth d the text is fields
pub record AreFields (d : ℕ) (text : List ℕ) : Type 0 where
  pub pieces : List Piece
  pub are : Pieces d text pieces

-- a status that holds these bytes, so spelled
abbrev pub status_piece : List ℕ → List ℕ → Piece
status_piece held spelled = record { field = numbered 15 (Bytes held); spelled = spelled }

-- one status that holds these bytes makes of a span what these fields make
abbrev pub MakeOne : ℕ → List Piece → List ℕ → Type 0
MakeOne d pieces held =
    (room : ℕ) (s : SpanData) (spelled : List ℕ) (rest : List Piece) → d + room ≡ 100
    → fold_fields (span_step room) s (pieces ++ rest)
    ≡ fold_fields (span_step room) s (status_piece held spelled ∷ rest)

-- behind what stood there, bytes that in one status make what all statuses of the text make
pub record StatusesHeld (d : ℕ) (text old new : List ℕ) : Type 0 where
  pub pieces : List Piece
  pub are : Pieces d text pieces
  pub put : List ℕ
  pub copied : new ≡ old ++ put
  pub same : MakeOne d (between 15 16 pieces) put

-- a status with the last message and the last code of others, where these have any
abbrev pub with_parts : List ℕ → Bool → ℕ → Bool → StatusData → StatusData
with_parts message has_message code has_code s = record s {
  message = if has_message then message else s.message;
  code = if has_code then int32 code else s.code;
}

-- the field of a message, where there is one
abbrev pub message_text : List ℕ → Bool → List ℕ
message_text message has_message = if has_message then bytes_field 2 message else []

-- the field of a code
abbrev pub code_text : ℕ → Bool → List ℕ
code_text code has_code = if has_code then number_field 3 code else []

-- at depth d the text is fields that make the one of the other
pub record StatusMakes (d : ℕ) (text : List ℕ) (before after : StatusData → StatusData) : Type 0 where
  pub pieces : List Piece
  pub are : Pieces d text pieces
  pub made : (room : ℕ) (s : StatusData) → fold_fields (status_step room) (before s) pieces ≡ Ok (after s)

-- all that the statuses of the text hold makes that of a status
pub record PartsHeld (d : ℕ) (text : List ℕ) (after : StatusData → StatusData) : Type 0 where
  pub held : List ℕ
  pub all : StatusesHeld d text [] held
  pub makes : StatusMakes (suc d) held (λ s. s) after
