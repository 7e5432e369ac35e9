-- What the code follows: the arrivals of a body by the texts of its parts, and the spans as they are found among these.
-- The valid spans are those of Arrivals; the way to them is this project's own.
use Rattle.std.specs.Prelude.{◌≡◌, ◌<◌, ◌≤◌, ◌+◌, ◌++◌, ℕ, true, length, List, [], Option, option_map, map, flat_map, IfSome}
use Rattle.std.specs.List.{AllByRecursion}
use Rattle.otlp_trace.specs.Data.{SpanData, ResourceData}
use Rattle.otlp_trace.specs.Text.{span_text, resource_text}
use Rattle.otlp_read.specs.Nested.{NestedSpan, NestedResource}
use Rattle.otlp_read.specs.RoundTrip.{IsShort}
use Rattle.otlp_read.specs.Typed.{TypedSpan, TypedResource}
use Rattle.otlp_parts.specs.declared.parts.ScopeParts.{ScopeParts}
use Rattle.otlp_parts.specs.Parts.{scope_parts_view}
use Rattle.otlp_parts.specs.Texts.{is_valid_span, ScopeTexts, ResourceTexts, BodyTexts}
use Rattle.span_view.specs.Reading.{facts_of}
use Rattle.span_pool.specs.Stored.{Origin as OriginData, bytes_of}
use Rattle.tail_settings.specs.Policy.{PolicyData}
use Rattle.tail_policy.specs.declared.note.ResourceBits.{ResourceBits}
use Rattle.tail_policy.specs.declared.note.TraceNote.{TraceNote}
use Rattle.tail_policy.specs.Note.{note_of}
use Rattle.tail_policy.specs.Parts.{resource_bits_of, with_resource}
use Rattle.tenant_rules.specs.Arrivals.{Arrival, is_valid}
use Rattle.prepared_body.specs.Origin.{OriginTexts}
use Rattle.prepared_body.specs.declared.noted.NotedSpan.{NotedSpan}
use Rattle.prepared_body.specs.Arrivals.{arrival_with, origin_at, AreGrouped}

-- ---- a body by its texts

-- of the spans of a scope, in this resource spans
abbrev pub origin_in : ResourceTexts → ScopeTexts → OriginData
origin_in resource scope = record {
  resource = resource.resource;
  resource_schema_url = resource.schema_url;
  scope = scope.scope;
  scope_schema_url = scope.schema_url;
}

-- the spans of one scope spans
abbrev pub arrivals_in_scope : ResourceTexts → ScopeTexts → List Arrival
arrivals_in_scope resource scope = map (arrival_with (origin_in resource scope)) scope.spans

-- the same by what stands round it
abbrev pub arrivals_around : Option (List ℕ) → Option (List ℕ) → ScopeTexts → List Arrival
arrivals_around resource schema_url scope =
    arrivals_in_scope (record { resource = resource; schema_url = bytes_of schema_url; scopes = [] }) scope

-- of one resource spans
abbrev pub arrivals_in_resource : ResourceTexts → List Arrival
arrivals_in_resource resource = flat_map (arrivals_in_scope resource) resource.scopes

-- the spans of several scope spans, by what stands round them
abbrev pub arrivals_around_all : Option (List ℕ) → Option (List ℕ) → List ScopeParts → List Arrival
arrivals_around_all resource schema_url scopes = arrivals_in_resource (record {
  resource = resource;
  schema_url = bytes_of schema_url;
  scopes = map scope_parts_view scopes;
})

-- and of a body
abbrev pub arrivals_in_body : BodyTexts → List Arrival
arrivals_in_body body = flat_map arrivals_in_resource body.resources

-- ---- spans without their notes

-- a span: its trace id, its text, which origin is its, and what its resource tells the policies
pub record UnnotedSpanData : Type 0 where
  pub trace : List ℕ
  pub text : List ℕ
  pub origin : ℕ
  pub bits : ResourceBits

-- a span of this text
abbrev pub part_with : ResourceBits → ℕ → List ℕ → UnnotedSpanData
part_with bits origin text = record { trace = (facts_of text []).trace_id; text = text; origin = origin; bits = bits }

-- what arrived of a span
abbrev pub part_arrival : List OriginTexts → UnnotedSpanData → Arrival
part_arrival origins part = arrival_with (origin_at origins part.origin) part.text

-- what arrived of several
abbrev pub part_arrivals : List OriginTexts → List UnnotedSpanData → List Arrival
part_arrivals origins parts = map (part_arrival origins) parts

-- the note of a span by itself
abbrev pub own_note : List PolicyData → UnnotedSpanData → TraceNote
own_note policies part = note_of policies (facts_of part.text [])

-- the span with its note, by the note that it has by itself
abbrev pub with_note : UnnotedSpanData → TraceNote → NotedSpan
with_note part own = record {
  trace = part.trace;
  text = part.text;
  origin = part.origin;
  note = with_resource part.bits own;
}

-- the span with its note for these policies
abbrev pub noted : List PolicyData → UnnotedSpanData → NotedSpan
noted policies part = with_note part (own_note policies part)

-- what a resource of this text tells
abbrev pub bits_in : List PolicyData → Option (List ℕ) → ResourceBits
bits_in policies resource = resource_bits_of policies (facts_of [] (bytes_of resource)).attributes

-- a span is valid, its origin is one of these, and it has what its resource tells
pub record IsFound (policies : List PolicyData) (origins : List OriginTexts) (part : UnnotedSpanData) : Type 0 where
  pub trace : part.trace ≡ (facts_of part.text []).trace_id
  pub valid : is_valid (part_arrival origins part) ≡ true
  pub bits : part.bits ≡ bits_in policies (origin_at origins part.origin).resource
  pub within : part.origin < length origins
  pub short : IsShort part.text
  pub around : IsShort (bytes_of (origin_at origins part.origin).resource)

-- each of them is
abbrev pub AreFound : List PolicyData → List OriginTexts → List UnnotedSpanData → Type 0
AreFound policies origins parts = AllByRecursion (IsFound policies origins) parts

-- these arrivals were found behind those that had been, with no more origins than spans
pub record Adds (policies : List PolicyData) (arrivals : List Arrival) (origins : List OriginTexts)
    (parts : List UnnotedSpanData)
    (origins' : List OriginTexts) (parts' : List UnnotedSpanData) : Type 0 where
  pub found : AreFound policies origins' parts'
  pub whole : part_arrivals origins' parts' ≡ part_arrivals origins parts ++ arrivals
  pub sparing : length origins' + length parts ≤ length origins + length parts'

-- ---- origins of one resource spans

-- each origin has the resource of the first one of its resource spans, and where the one at this index is there, it has
-- this resource
pub record IsGroupOf (first : ℕ) (resource schema_url : Option (List ℕ)) (origins : List OriginTexts) : Type 0 where
  pub grouped : AreGrouped origins
  pub by : first ≤ length origins
  pub resource_is : first < length origins → (origin_at origins first).resource ≡ resource
  pub schema_url_is : first < length origins → (origin_at origins first).resource_schema_url ≡ bytes_of schema_url

-- it still holds of the origins that there are now
abbrev pub KeepsGroup : (first : ℕ) → (resource schema_url : Option (List ℕ)) → List OriginTexts → List OriginTexts
    → Type 0
KeepsGroup first resource schema_url origins origins' =
    IsGroupOf first resource schema_url origins → IsGroupOf first resource schema_url origins'

-- the origins of one resource spans had the same resource, and still have
abbrev pub KeepsGrouped : List OriginTexts → List OriginTexts → Type 0
KeepsGrouped origins origins' = AreGrouped origins → AreGrouped origins'

-- ---- texts that were read

-- the text is that of a span that was read
pub record IsSpanRead (text : List ℕ) : Type 0 where
  pub span : SpanData
  pub typed : TypedSpan span
  pub nested : NestedSpan 98 span
  pub same : text ≡ span_text span

-- and that is valid
pub record IsValidRead (text : List ℕ) : Type 0 where
  pub read : IsSpanRead text
  pub valid : is_valid_span read.span ≡ true

-- the same of a resource, which may be missing
pub record IsResourceRead (text : Option (List ℕ)) : Type 0 where
  pub resource : Option ResourceData
  pub typed : IfSome resource TypedResource
  pub nested : IfSome resource (NestedResource 99)
  pub same : text ≡ option_map resource_text resource

-- of a scope's spans
abbrev pub IsScopeRead : ScopeTexts → Type 0
IsScopeRead scope = AllByRecursion IsValidRead scope.spans

-- of a resource spans
pub record IsGroupRead (group : ResourceTexts) : Type 0 where
  pub resource : IsResourceRead group.resource
  pub scopes : AllByRecursion IsScopeRead group.scopes

-- of a body
abbrev pub AreRead : BodyTexts → Type 0
AreRead body = AllByRecursion IsGroupRead body.resources

-- a resource that was read, with what it tells
pub record IsAround (policies : List PolicyData) (resource : Option (List ℕ)) (bits : ResourceBits) : Type 0 where
  pub read : IsResourceRead resource
  pub short : IsShort (bytes_of resource)
  pub told : bits ≡ bits_in policies resource

-- whatever the policies that are told these bits of the resource: these arrivals of it were found behind those that had
-- been
abbrev pub AddsAround : Option (List ℕ) → ResourceBits → List Arrival
    → (origins : List OriginTexts) → (parts : List UnnotedSpanData)
    → (origins' : List OriginTexts) → (parts' : List UnnotedSpanData) → Type 0
AddsAround resource bits arrivals origins parts origins' parts' = (policies : List PolicyData)
    → IsAround policies resource bits → AreFound policies origins parts
    → Adds policies arrivals origins parts origins' parts'
