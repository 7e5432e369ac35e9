-- What is told where a document that is to be read has no text. This project's own rule.
use Rattle.std.specs.Prelude.{◌≡◌, ◌≢◌, ℕ, List, Ok, Err, IsUtf8}
use Rattle.std.specs.declared.io.ErrorKind.{ErrorKind}
use Rattle.std.specs.declared.io.ErrorKind.TheVariants as kinds
use Rattle.service_runtime.specs.Documents.{Reads}
use Rattle.tenant_registry.specs.declared.documents.NotAdded.{NotAdded}
use Rattle.tenant_registry.specs.declared.documents.NotAdded.TheVariants.{Refused, OutOfMemory}

-- the number that is told where a file can't be read, or has no text: it has no document
abbrev pub not_read : ℕ
not_read = 10

-- of a failure only the want of memory is told apart
pub record IsOfReading (kind : ErrorKind) (why : NotAdded) : Type 0 where
  pub memory : kind ≡ kinds.OutOfMemory → why ≡ OutOfMemory
  pub other : kind ≢ kinds.OutOfMemory → why ≡ Refused not_read

-- Why no text was read at this path: the path is no text, its file couldn't be read, or what was read is no text.
pub data IsUnread (reads : Reads) (path : List ℕ) : NotAdded → Type 0 where
  no_path : ¬ (IsUtf8 path) → IsUnread reads path (Refused not_read)
  failed : (kind : ErrorKind) (why : NotAdded) → reads path (Err kind) → IsOfReading kind why
      → IsUnread reads path why
  no_text : (bytes : List ℕ) → reads path (Ok bytes) → ¬ (IsUtf8 bytes) → IsUnread reads path (Refused not_read)
