-- A text that is written of a sound value is read as that value.
use Rattle.std.proofs.Common.{◌≡◌, ℕ, List, Option, Some, None, IfSome, sym, ap, subst, ◌∙◌}
use Rattle.otlp_trace.specs.Data.{ResourceData, ScopeData, SpanData, RequestData}
use Rattle.otlp_trace.specs.Text.{resource_text, scope_text, span_text, request_text}
use Rattle.otlp_read.specs.RoundTrip.{IsShort, RequestReadsBack, SpanReadsBack, ResourceReadsBack, ScopeReadsBack}
use Rattle.otlp_read.specs.Typed.{TypedResource, TypedScope, TypedSpan, TypedRequest}
use Rattle.otlp_trace.specs.Defaults.{no_resource, no_scope, no_span}
use Rattle.otlp_read.specs.Value.{resource_step, scope_step, span_step, IsValue}
use Rattle.otlp_read.specs.Walk.{read_with}
use Rattle.otlp_canonical.specs.Canonical.{CanonicalCopy, CanonicalSpan, CanonicalResource, CanonicalScope, CanonicalRequest}
use Rattle.otlp_canonical.specs.Parts.{Whole}
use Rattle.otlp_canonical.specs.Sound.{SoundResource, SoundScope, SoundSpan, SoundRequest}

pub span_canonical : (room : ℕ) (text : List ℕ) → Whole span_text (SoundSpan room) text → IsShort text → ((v : SpanData) (room : ℕ) → TypedSpan v → SpanReadsBack room v) → CanonicalSpan room text
span_canonical room text w short law =
    let fits : IsShort (span_text w.value) = subst IsShort w.same short in
    record {
      value = w.value;
      read = ap (read_with span_step room no_span) w.same ∙ law w.value room w.sound.typed w.sound.nested fits;
      written = sym w.same;
      typed = w.sound.typed;
      nested = w.sound.nested;
    }

pub resource_canonical : (room : ℕ) (text : List ℕ) → Whole resource_text (SoundResource room) text → IsShort text → ((v : ResourceData) (room : ℕ) → TypedResource v → ResourceReadsBack room v) → CanonicalResource room text
resource_canonical room text w short law =
    let fits : IsShort (resource_text w.value) = subst IsShort w.same short in
    record {
      value = w.value;
      read = ap (read_with resource_step room no_resource) w.same ∙ law w.value room w.sound.typed w.sound.nested fits;
      written = sym w.same;
      typed = w.sound.typed;
      nested = w.sound.nested;
    }

pub scope_canonical : (room : ℕ) (text : List ℕ) → Whole scope_text (SoundScope room) text → IsShort text → ((v : ScopeData) (room : ℕ) → TypedScope v → ScopeReadsBack room v) → CanonicalScope room text
scope_canonical room text w short law =
    let fits : IsShort (scope_text w.value) = subst IsShort w.same short in
    record {
      value = w.value;
      read = ap (read_with scope_step room no_scope) w.same ∙ law w.value room w.sound.typed w.sound.nested fits;
      written = sym w.same;
      typed = w.sound.typed;
      nested = w.sound.nested;
    }

pub request_canonical : (text : List ℕ) → Whole request_text SoundRequest text → IsShort text → ((v : RequestData) → TypedRequest v → RequestReadsBack v) → CanonicalRequest text
request_canonical text w short law =
    let fits : IsShort (request_text w.value) = subst IsShort w.same short in
    record {
      value = w.value;
      read = subst (λ (t : List ℕ). IsValue t w.value) (sym w.same) (law w.value w.sound.typed w.sound.nested fits);
      written = sym w.same;
      typed = w.sound.typed;
      nested = w.sound.nested;
    }

-- a canonical copy of a text of which a reader makes the same
pub copy_of_same : (room : ℕ) (text same copy : List ℕ) → read_with span_step room no_span text ≡ read_with span_step room no_span same → CanonicalCopy room same copy → CanonicalCopy room text copy
copy_of_same room text same copy is c = record { canonical = c.canonical; same = is ∙ c.same }

pub some_copy : {V : Type 0} (items : V → List ℕ) (room : ℕ) (text same : List ℕ) (found : Option V) → read_with span_step room no_span text ≡ read_with span_step room no_span same → IfSome found (λ v. CanonicalCopy room same (items v))
    → IfSome found (λ v. CanonicalCopy room text (items v))
some_copy items room text same None is c = tt
some_copy items room text same (Some v) is c = copy_of_same room text same (items v) is c
