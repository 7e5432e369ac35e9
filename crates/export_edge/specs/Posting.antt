-- What a post over a line comes to. The bytes of a post and the meaning of an answer's bytes are those of `http_edge`
-- (`post_text`, `Tells`), after OTLP's specification (OTLP/HTTP Request and Response) and RFC 9112.
use Rattle.std.specs.Prelude.{◌≡◌, ◌≢◌, ℕ, nat_lt, List, [], ◌++◌}
use Rattle.send_retry.specs.Class.{AnswerData, Failed}
use Rattle.http_line.specs.Line.{Moves}
use Rattle.http_edge.specs.Steps.{HasFailed}
use Rattle.http_edge.specs.Post.{Tells, LacksAnswer}
use Rattle.http_edge.specs.declared.wire.EdgeFault.{EdgeFault}
use Rattle.http_edge.specs.declared.wire.EdgeFault.TheVariants.{OutOfMemory, ReadFailed, WriteFailed}

-- Between two states of a line first the post was written, whole, and nothing read, and then bytes were read, and
-- nothing written: these tell the answer, where the input had ended or not. No call of the line has failed.
pub record Exchanges {L : Type 0} (gives takes : L → L → List ℕ → Type 0) (ends failed : L → ℕ) (post : List ℕ)
    (old new : L) (answer : AnswerData) : Type 0 where
  pub between : L
  pub writes : Moves gives takes old between [] post
  pub read : List ℕ
  pub reads : Moves gives takes between new read []
  pub tells : Tells read (nat_lt (ends between) (ends new)) answer
  pub kept : failed new ≡ failed old

-- Between two states of a line the same began, and this fault broke it off.
pub data BreaksOff {L : Type 0} (gives takes : L → L → List ℕ → Type 0) (failed : L → ℕ) (post : List ℕ) (old new : L)
    (fault : EdgeFault) : Type 0 where
  -- a beginning of the post was written, and a write failed; or memory was refused: then nothing of the post was
  -- written, and no call of the line has failed
  in_post : (front missing : List ℕ) → post ≡ front ++ missing
      → Moves gives takes old new [] front → fault ≢ ReadFailed
      → (fault ≡ OutOfMemory → Moves gives takes old new [] [])
      → (fault ≡ OutOfMemory → failed new ≡ failed old)
      → (fault ≡ WriteFailed → HasFailed (failed old) (failed new)) → BreaksOff gives takes failed post old new fault
  -- the post was written, by calls of which none failed; then a read failed, before which no whole answer that states
  -- its end had come, or memory was refused, and no call of the line has failed
  in_answer : (between : L) (read : List ℕ)
      → Moves gives takes old between [] post → failed between ≡ failed old
      → Moves gives takes between new read [] → fault ≢ WriteFailed
      → (fault ≡ ReadFailed → HasFailed (failed between) (failed new))
      → (fault ≡ OutOfMemory → failed new ≡ failed between)
      → (fault ≡ ReadFailed → LacksAnswer read)
      → BreaksOff gives takes failed post old new fault

-- What a post over a line comes to: what the bytes read tell, or no whole answer, where a fault broke it off.
pub data ComesTo {L : Type 0} (gives takes : L → L → List ℕ → Type 0) (ends failed : L → ℕ) (post : List ℕ)
    (old new : L) : AnswerData → Type 0 where
  answered : (answer : AnswerData) → Exchanges gives takes ends failed post old new answer
      → ComesTo gives takes ends failed post old new answer
  broken : (fault : EdgeFault) → BreaksOff gives takes failed post old new fault
      → ComesTo gives takes ends failed post old new Failed
