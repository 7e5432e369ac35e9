-- Bodies in chunks (RFC 9112, section 7.1): lines with sizes and data, and a trailer. Lines and trailers are those of
-- httparse's grammar, of which so much is taken.
use Rattle.std.specs.Prelude.{◌≡◌, ℕ, ◌+◌, ◌<◌, ◌≤◌, ◌⊎◌, ◌==◌, not, Bool, List, [], ◌∷◌, ◌++◌, length, take, drop, count_by}
use Rattle.std.specs.List.{concat, list_any}
use Rattle.httparse.specs.Ascii.{line_feed, carriage_return, crlf_bytes}
use Rattle.httparse.specs.Pieces.{is_newline}
use Rattle.httparse.specs.Grammar.{ChunkLine, print_chunk_line, chunk_size, ReadsChunkLine, HasNoChunkLine, NeverHasChunkLine, MayBecomeChunkLine, Field, LineEnd, print_section, ReadsSection, HasNoSection, NeverHasSection, MayBecomeSection}
use Rattle.httparse.specs.Spans.{SectionExceeds, SectionOverflows}
use Rattle.http_edge.specs.Limits.{max_fields, max_part}

-- the stream begins with the line of a chunk
pub record HasLine (stream : List ℕ) (line : ChunkLine) (after : List ℕ) : Type 0 where
  pub reads : ReadsChunkLine stream line after
  pub short : length (print_chunk_line line) ≤ max_part

-- It begins with none.
pub data BadLine (stream : List ℕ) : Type 0 where
  -- no line begins so
  faulty_line : NeverHasChunkLine stream → BadLine stream
  -- so many bytes without the line's end
  long_line : max_part ≤ length stream → HasNoChunkLine (take max_part stream) → BadLine stream

-- it is less than a line
pub record LacksLine (stream : List ℕ) : Type 0 where
  pub none : HasNoChunkLine stream
  pub may : MayBecomeChunkLine stream
  pub short : length stream < max_part

-- how many lines have ended
abbrev pub line_ends : List ℕ → ℕ
line_ends stream = count_by (λ b. b == line_feed) stream

-- a line has ended
abbrev pub has_line_end : List ℕ → Bool
has_line_end stream = list_any (λ b. b == line_feed) stream

-- a byte came that isn't of a line's end
abbrev pub has_text : List ℕ → Bool
has_text stream = list_any (λ b. not (is_newline b)) stream

-- the stream begins with a trailer: fields and an empty line
pub record HasTrailer (stream after : List ℕ) : Type 0 where
  pub fields : List Field
  pub last : LineEnd
  pub reads : ReadsSection stream fields last after
  pub few : length fields ≤ max_fields
  pub short : length (print_section fields last) ≤ max_part

-- It begins with none.
pub data BadTrailer (stream : List ℕ) : Type 0 where
  -- no trailer begins so
  faulty_trailer : NeverHasSection stream → BadTrailer stream
  -- more fields than are taken
  many_trailers : SectionExceeds max_fields stream → SectionOverflows max_fields stream → BadTrailer stream
  -- so many lines without the trailer's end
  many_trailer_lines : (front more : List ℕ) → stream ≡ front ++ more → HasNoSection front
      → max_fields < line_ends front → BadTrailer stream
  -- so many bytes without the trailer's end
  long_trailer : max_part ≤ length stream → HasNoSection (take max_part stream) → BadTrailer stream

-- it is less than a trailer
pub record LacksTrailer (stream : List ℕ) : Type 0 where
  pub none : HasNoSection stream
  pub may : MayBecomeSection stream
  pub few : line_ends stream ≤ max_fields
  pub short : length stream < max_part

-- the stream begins with a chunk of these bytes
pub record HasChunk (stream bytes after : List ℕ) : Type 0 where
  pub line : ChunkLine
  pub follows : List ℕ
  pub has : HasLine stream line follows
  pub some : 0 < length bytes
  pub sized : chunk_size line ≡ length bytes
  pub whole : follows ≡ bytes ++ (crlf_bytes ++ after)

-- it begins with chunks of these bytes, one after another
abbrev pub HasChunks : List (List ℕ) → List ℕ → List ℕ → Type 0
HasChunks [] stream after = stream ≡ after
HasChunks (bytes ∷ chunks) stream after =
    (next : List ℕ) × HasChunk stream bytes next × HasChunks chunks next after

-- What is due next in a body in chunks.
pub data Part : Type 0 where
  -- the line of a chunk
  line_part : Part
  -- so many bytes, and the end of their line
  bytes_part : ℕ → Part
  -- the trailer
  trailer_part : Part

-- the stream begins with what says that this is due, and the rest follows
abbrev pub Opens : List ℕ → Part → List ℕ → Type 0
Opens stream line_part rest = stream ≡ rest
Opens stream (bytes_part n) rest = (line : ChunkLine) × HasLine stream line rest × (chunk_size line ≡ n) × (0 < n)
Opens stream trailer_part rest = (line : ChunkLine) × HasLine stream line rest × (chunk_size line ≡ 0)

-- after chunks with this body the stream comes to where this is due, and the rest follows
pub record Reaches (stream : List ℕ) (part : Part) (body rest : List ℕ) : Type 0 where
  pub chunks : List (List ℕ)
  pub after : List ℕ
  pub whole : HasChunks chunks stream after
  pub gives : body ≡ concat chunks
  pub opens : Opens after part rest

-- the sizes that the lines have stated, together, where so many bytes of data have come
abbrev pub stated_by : Part → ℕ → ℕ
stated_by line_part sum = sum
stated_by (bytes_part n) sum = sum + n
stated_by trailer_part sum = sum

-- what stands here isn't what is due, whatever follows
abbrev pub FailsAt : Part → List ℕ → Type 0
FailsAt line_part rest = BadLine rest
FailsAt (bytes_part n) rest = (more after : List ℕ) → ¬ (drop n rest ++ more ≡ crlf_bytes ++ after)
FailsAt trailer_part rest = BadTrailer rest

-- it is less than what is due
abbrev pub LacksAt : Part → List ℕ → Type 0
LacksAt line_part rest = LacksLine rest
LacksAt (bytes_part n) rest = (drop n rest ≡ []) ⊎ (drop n rest ≡ carriage_return ∷ [])
LacksAt trailer_part rest = LacksTrailer rest

-- the stream begins with a whole body in chunks, and the rest follows its trailer
pub record HasChunkedBody (stream body after : List ℕ) : Type 0 where
  pub rest : List ℕ
  pub reaches : Reaches stream trailer_part body rest
  pub trailer : HasTrailer rest after

-- a line states more, with those before it, than is taken
pub record StatesMore (most : ℕ) (stream : List ℕ) : Type 0 where
  pub size : ℕ
  pub body : List ℕ
  pub rest : List ℕ
  pub reaches : Reaches stream (bytes_part size) body rest
  pub before : length body ≤ most
  pub over : most < length body + size

-- before that, the stream comes to where this holds of what is due and of what stands there
pub record StopsAt (Fact : Part → List ℕ → Type 0) (most : ℕ) (stream : List ℕ) : Type 0 where
  pub part : Part
  pub body : List ℕ
  pub rest : List ℕ
  pub reaches : Reaches stream part body rest
  pub within : stated_by part (length body) ≤ most
  pub fact : Fact part rest
