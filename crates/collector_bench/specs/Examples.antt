-- What the definitions give for small requests, numbers and arguments, worked out by hand. This project's own rule.
use Rattle.std.specs.Prelude.{◌≡◌, codes, ℕ, ◌-◌, ◌^◌, List, [], ◌∷◌, map, replicate, None}
use Rattle.otlp_trace.specs.Data.{ScopeSpansData, ResourceSpansData, RequestData}
use Rattle.otlp_read.specs.declared.fault.ReadFault.TheVariants as read
use Rattle.otlp_trace.specs.Defaults.{no_span}
use Rattle.otlp_prepare.specs.declared.refusal.Refusal.TheVariants as refusal
use Rattle.tail_settings.specs.declared.fault.SettingsFault.TheVariants as settings
use Rattle.http_edge.specs.declared.wire.EdgeFault.TheVariants as edges
use Rattle.collector_bench.specs.declared.fault.BenchFault.TheVariants.{Usage, Body, NotCanonical, NotPosted, Settings, InputOutput, OutOfMemory}
use Rattle.collector_bench.specs.Round.{spans_of, in_64_bits, IsWrittenAgain}
use Rattle.collector_bench.specs.Repeated.{repeated}
use Rattle.collector_bench.specs.Faults.{body_fault, refusal_fault, settings_fault, edge_fault}
use Rattle.collector_bench.specs.Status.{status_of}
use Rattle.collector_bench.specs.Task.{TaskData, check_stored, codec, prepare, edge, Asks}

-- ---- requests

-- a scope spans with so many empty spans
abbrev pub scope : ℕ → ScopeSpansData
scope n = record { scope = None; spans = replicate n no_span; schema_url = [] }

-- a resource spans with so many in each scope
abbrev pub resource : List ℕ → ResourceSpansData
resource counts = record { resource = None; scope_spans = map scope counts; schema_url = [] }

abbrev pub request : List (List ℕ) → RequestData
request counts = record { resource_spans = map resource counts }

pub record Counts : Type 0 where
  pub none : spans_of (request []) ≡ 0
  -- a resource without scopes, and a scope without spans
  pub empty : spans_of (request ([] ∷ (0 ∷ []) ∷ [])) ≡ 0
  -- 2 + 1 spans of one resource, and 3 + 0 + 4 of another
  pub ten : spans_of (request ((2 ∷ 1 ∷ []) ∷ (3 ∷ 0 ∷ 4 ∷ []) ∷ [])) ≡ 10
  -- 2^64 - 1 is the greatest number of 64 bits
  pub greatest : in_64_bits (2 ^ 64 - 1) ≡ 18446744073709551615
  pub too_great : in_64_bits (2 ^ 64) ≡ 18446744073709551615
  pub small : in_64_bits 7 ≡ 7

-- a request without any resource spans has no bytes; in 0A 00, field 1 of length 0, there is one
pub record Written : Type 0 where
  pub nothing : IsWrittenAgain [] (request [])
  pub other : IsWrittenAgain (10 ∷ 0 ∷ []) (request []) → ⊥

-- a message of two bytes thrice, and never
pub record Copies : Type 0 where
  pub thrice : repeated (7 ∷ 8 ∷ []) 3 ≡ 7 ∷ 8 ∷ 7 ∷ 8 ∷ 7 ∷ 8 ∷ []
  pub never : repeated (7 ∷ 8 ∷ []) 0 ≡ []

-- ---- arguments

abbrev pub path : List ℕ
path = codes "request.pb"

abbrev pub codec_words : List ℕ → List (List ℕ)
codec_words rounds = codes "codec" ∷ path ∷ rounds ∷ []

abbrev pub prepare_words : List ℕ → List ℕ → List (List ℕ)
prepare_words rounds policies = codes "prepare" ∷ path ∷ rounds ∷ policies ∷ []

-- these words ask for no task
abbrev pub AsksNothing : List (List ℕ) → Type 0
AsksNothing words = (task : TaskData) → Asks words task → ⊥

pub record Arguments : Type 0 where
  pub none : Asks [] check_stored
  pub rounds : Asks (codec_words (codes "20")) (codec path 20)
  pub plus : Asks (codec_words (codes "+7")) (codec path 7)
  pub zeros : Asks (codec_words (codes "007")) (codec path 7)
  -- 2^32 - 1
  pub most : Asks (codec_words (codes "4294967295")) (codec path 4294967295)
  pub served : Asks (codes "edge" ∷ path ∷ codes "20" ∷ []) (edge path 20)
  pub one_policy : Asks (prepare_words (codes "20") (codes "1")) (prepare path 20 1)
  pub most_policies : Asks (prepare_words (codes "20") (codes "64")) (prepare path 20 64)

-- words that ask for no task
pub record Refused : Type 0 where
  pub too_many : AsksNothing (codec_words (codes "4294967296"))
  pub no_rounds : AsksNothing (codec_words (codes "0"))
  pub minus : AsksNothing (codec_words (codes "-7"))
  pub no_number : AsksNothing (codec_words [])
  pub too_many_policies : AsksNothing (prepare_words (codes "20") (codes "65"))
  pub no_policies : AsksNothing (prepare_words (codes "20") (codes "0"))
  pub none_made_ready : AsksNothing (prepare_words (codes "0") (codes "1"))
  pub name_alone : AsksNothing (codes "codec" ∷ [])
  -- a path and rounds, and nothing that is named
  pub no_name : AsksNothing (path ∷ codes "7" ∷ [])
  pub other_name : AsksNothing (codes "codecs" ∷ path ∷ codes "7" ∷ [])
  -- policies where none are asked for, and none where they are
  pub policies : AsksNothing (codes "codec" ∷ path ∷ codes "7" ∷ codes "8" ∷ [])
  pub policies_left_out : AsksNothing (codes "prepare" ∷ path ∷ codes "7" ∷ [])
  pub five : AsksNothing (codes "prepare" ∷ path ∷ codes "7" ∷ codes "8" ∷ codes "9" ∷ [])

-- ---- faults

pub record Faults : Type 0 where
  pub statuses :
      map status_of (Usage ∷ Body read.Truncated ∷ NotCanonical ∷ NotPosted ∷ Settings ∷ InputOutput ∷ OutOfMemory ∷ [])
      ≡ 2 ∷ 1 ∷ 1 ∷ 1 ∷ 1 ∷ 1 ∷ 3 ∷ []
  pub of_memory : body_fault read.OutOfMemory ∷ refusal_fault refusal.OutOfMemory ∷ settings_fault settings.OutOfMemory
      ∷ edge_fault edges.OutOfMemory ∷ []
      ≡ OutOfMemory ∷ OutOfMemory ∷ OutOfMemory ∷ OutOfMemory ∷ []
  pub of_the_body : map body_fault (read.Truncated ∷ read.NotUtf8 ∷ [])
      ≡ Body read.Truncated ∷ Body read.NotUtf8 ∷ []
  pub of_others : refusal_fault (refusal.Bad read.Truncated) ∷ settings_fault settings.TooMany
      ∷ edge_fault edges.ReadFailed ∷ edge_fault edges.WriteFailed ∷ []
      ≡ Body read.Truncated ∷ Settings ∷ InputOutput ∷ InputOutput ∷ []
