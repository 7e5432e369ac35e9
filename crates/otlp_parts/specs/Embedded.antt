-- A message that is the first field of another, its holder, and is merged where it stands again (the proto3 encoding
-- guide, "Last One Wins"): a resource in a resource spans and an instrumentation scope in a scope spans (OTLP 1.x's
-- trace.proto). How deep they stand in a body is this project's own rule.
use Rattle.std.specs.Prelude.{◌≡◌, ℕ, true, List, Option, Some, None, unwrap_or, is_ok, Result, Ok, Err}
use Rattle.otlp_trace.specs.Data.{ResourceData, ScopeData}
use Rattle.otlp_trace.specs.Defaults.{no_resource, no_scope}
use Rattle.otlp_trace.specs.Text.{scope_text, resource_text}
use Rattle.otlp_read.specs.declared.fault.ReadFault.{ReadFault}
use Rattle.otlp_read.specs.Value.{resource_step, scope_step}
use Rattle.otlp_read.specs.Walk.{◌>>=◌, Step, read_with}
use Rattle.otlp_parts.specs.ReadAs.{value_or}

-- How such a message is read, where there is room for so many levels, its own among them, and what its canonical text
-- is.
pub record Embedding (A : Type 0) : Type 0 where
  pub step : ℕ → Step A
  pub none : A
  pub room : ℕ
  pub text : A → List ℕ

-- a scope in a scope spans
abbrev pub scope_embedding : Embedding ScopeData
scope_embedding = record {
  step = scope_step;
  none = no_scope;
  room = 98;
  text = scope_text;
}

-- a resource in a resource spans
abbrev pub resource_embedding : Embedding ResourceData
resource_embedding = record {
  step = resource_step;
  none = no_resource;
  room = 99;
  text = resource_text;
}

-- a message's canonical text
abbrev pub text_of : {A : Type 0} → Embedding A → A → List ℕ
text_of e = e.text

-- what a message's bytes are read to
abbrev pub message_in : {A : Type 0} → Embedding A → List ℕ → Result A ReadFault
message_in e bytes = read_with e.step e.room e.none bytes

-- the message that such bytes are
abbrev pub message_of : {A : Type 0} → Embedding A → List ℕ → A
message_of e bytes = value_or e.none (message_in e bytes)

-- a message's bytes, merged into what stands before them
abbrev pub another : {A : Type 0} → Embedding A → Option A → List ℕ → Result (Option A) ReadFault
another e before bytes = read_with e.step e.room (unwrap_or before e.none) bytes >>= λ x. Ok (Some x)

-- the bytes are a message, whose canonical text is this
pub record HasText {A : Type 0} (e : Embedding A) (bytes text : List ℕ) : Type 0 where
  pub sound : is_ok (message_in e bytes) ≡ true
  pub written : e.text (message_of e bytes) ≡ text

-- the fault of a reading, none where it gives a value
abbrev pub fault_of : {A : Type 0} → Result A ReadFault → Option ReadFault
fault_of (Ok a) = None
fault_of (Err fault) = Some fault

-- Whether it can be read, and its fault, doesn't depend on what it is merged into.
pub record MergeLaws {A : Type 0} (e : Embedding A) : Type 0 where
  pub same_fault : (before : Option A) (bytes : List ℕ)
      → fault_of (another e before bytes) ≡ fault_of (message_in e bytes)
