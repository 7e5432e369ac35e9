-- The commands of a script, and which line says which. This project's own rule (docs/SCRIPT.md).
use Rattle.std.specs.Prelude.{ℕ, Bool, true, false, ◌&&◌, if◌then◌else◌, List, [], ◌∷◌, codes, Option, Some, None, option_map}
use Rattle.std.specs.Str.{bytes_eq}
use Rattle.send_retry.specs.Class.{AnswerData, Http, Failed}
use Rattle.replay_script.specs.Word.{words_of, name_of, number_of, body_of, bytes_of, random_word_of, status_of, seconds_of}

-- what a line asks for
pub data CommandData : Type 0 where
  -- a body arrives: the tenant's name, the moment and the bytes
  Post : List ℕ → ℕ → List ℕ → CommandData
  -- a worker's turn: the shard and the moment
  Turn : ℕ → ℕ → CommandData
  -- a back end answers a job: the tenant's name, the moment, the job's ticket, the random word that spreads the next
  -- attempt, and the answer
  Answer : List ℕ → ℕ → ℕ → ℕ → AnswerData → CommandData
  -- a tenant is to be reported: its name and the moment
  Report : List ℕ → ℕ → CommandData
  -- a tenant is to be drained: its name and the moment
  Drain : List ℕ → ℕ → CommandData
  -- a tenant comes: the bytes of its document
  Add : List ℕ → CommandData
  -- a tenant is to leave: its name and the moment
  Retire : List ℕ → ℕ → CommandData

-- a post from what its three words spell, where each of them spells something
abbrev pub post_from : Option (List ℕ) → Option ℕ → Option (List ℕ) → Option CommandData
post_from (Some name) (Some moment) (Some body) = Some (Post name moment body)
post_from (Some name) (Some moment) None = None
post_from (Some name) None body = None
post_from None moment body = None

-- `NAME MOMENT HEX`
unfoldable pub post_of : List (List ℕ) → Option CommandData
post_of (name ∷ moment ∷ body ∷ []) = post_from (name_of name) (number_of moment) (body_of body)
post_of (name ∷ moment ∷ body ∷ word ∷ words) = None
post_of (name ∷ moment ∷ []) = None
post_of (name ∷ []) = None
post_of [] = None

-- a turn from what its two words spell, where both spell a number
abbrev pub turn_from : Option ℕ → Option ℕ → Option CommandData
turn_from (Some shard) (Some moment) = Some (Turn shard moment)
turn_from (Some shard) None = None
turn_from None moment = None

-- `SHARD MOMENT`
unfoldable pub turn_of : List (List ℕ) → Option CommandData
turn_of (shard ∷ moment ∷ []) = turn_from (number_of shard) (number_of moment)
turn_of (shard ∷ moment ∷ word ∷ words) = None
turn_of (shard ∷ []) = None
turn_of [] = None

-- an answer over HTTP, from what its three words spell
abbrev pub http_from : Option ℕ → Option (Option ℕ) → Option (List ℕ) → Option AnswerData
http_from (Some status) (Some retry_after) (Some body) = Some (Http status retry_after body)
http_from (Some status) (Some retry_after) None = None
http_from (Some status) None body = None
http_from None retry_after body = None

-- `failed - -`: no whole answer came
abbrev pub failed_from : Bool → Option AnswerData
failed_from true = Some Failed
failed_from false = None

-- `STATUS RETRY HEX`, the status a number or `failed`
unfoldable pub back_end_answer_of : List ℕ → List ℕ → List ℕ → Option AnswerData
back_end_answer_of status retry_after body =
    if bytes_eq status (codes "failed")
    then failed_from (bytes_eq retry_after (codes "-") && bytes_eq body (codes "-"))
    else http_from (status_of status) (seconds_of retry_after) (bytes_of body)

-- the same from the words
unfoldable pub back_end_answer_from : List (List ℕ) → Option AnswerData
back_end_answer_from (status ∷ retry_after ∷ body ∷ []) = back_end_answer_of status retry_after body
back_end_answer_from (status ∷ retry_after ∷ body ∷ word ∷ words) = None
back_end_answer_from (status ∷ retry_after ∷ []) = None
back_end_answer_from (status ∷ []) = None
back_end_answer_from [] = None

-- an answer from what its first four words spell, and the answer that its last three say
abbrev pub answer_from : Option (List ℕ) → Option ℕ → Option ℕ → Option ℕ → Option AnswerData → Option CommandData
answer_from (Some name) (Some moment) (Some ticket) (Some word) (Some answer) =
    Some (Answer name moment ticket word answer)
answer_from (Some name) (Some moment) (Some ticket) (Some word) None = None
answer_from (Some name) (Some moment) (Some ticket) None answer = None
answer_from (Some name) (Some moment) None word answer = None
answer_from (Some name) None ticket word answer = None
answer_from None moment ticket word answer = None

-- `NAME MOMENT TICKET WORD STATUS RETRY HEX`
unfoldable pub answer_of : List (List ℕ) → Option CommandData
answer_of (name ∷ moment ∷ ticket ∷ word ∷ words) =
    answer_from (name_of name) (number_of moment) (number_of ticket) (random_word_of word)
    (back_end_answer_from words)
answer_of (name ∷ moment ∷ ticket ∷ []) = None
answer_of (name ∷ moment ∷ []) = None
answer_of (name ∷ []) = None
answer_of [] = None

-- a tenant and a moment from what two words spell, where both spell one
abbrev pub tenant_from : Option (List ℕ) → Option ℕ → Option (List ℕ × ℕ)
tenant_from (Some name) (Some moment) = Some (name, moment)
tenant_from (Some name) None = None
tenant_from None moment = None

-- `NAME MOMENT`
unfoldable pub tenant_of : List (List ℕ) → Option (List ℕ × ℕ)
tenant_of (name ∷ moment ∷ []) = tenant_from (name_of name) (number_of moment)
tenant_of (name ∷ moment ∷ word ∷ words) = None
tenant_of (name ∷ []) = None
tenant_of [] = None

-- a report from the same words
abbrev pub report_of : List (List ℕ) → Option CommandData
report_of words = option_map (λ found. Report found.0 found.1) (tenant_of words)

-- a drain from the same words
abbrev pub drain_of : List (List ℕ) → Option CommandData
drain_of words = option_map (λ found. Drain found.0 found.1) (tenant_of words)

-- a retirement from the same words
abbrev pub retire_of : List (List ℕ) → Option CommandData
retire_of words = option_map (λ found. Retire found.0 found.1) (tenant_of words)

-- `HEX`: a document, of so many bytes at most as a body
unfoldable pub add_of : List (List ℕ) → Option CommandData
add_of (document ∷ []) = option_map Add (body_of document)
add_of (document ∷ word ∷ words) = None
add_of [] = None

-- by its first word a line is one of these commands or none
unfoldable pub command_from : List (List ℕ) → Option CommandData
command_from [] = None
command_from (verb ∷ words) =
    if bytes_eq verb (codes "post") then post_of words
    else if bytes_eq verb (codes "turn") then turn_of words
    else if bytes_eq verb (codes "answer") then answer_of words
    else if bytes_eq verb (codes "report") then report_of words
    else if bytes_eq verb (codes "drain") then drain_of words
    else if bytes_eq verb (codes "add") then add_of words
    else if bytes_eq verb (codes "retire") then retire_of words
    else None

-- the command that a line says, without its line end; none where it is no command
unfoldable pub command_of : List ℕ → Option CommandData
command_of line = command_from (words_of line)
