-- Texts that were read, and what views over them ask and tell.
use Rattle.std.proofs.Common.{◌≡◌, ◌∙◌, ℕ, true, List, [], length, Option, Some, None, refl, sym, ap, subst, arith}
use Rattle.std.specs.Prelude.{option_map, IfSome, not, ◌==◌}
use Rattle.std.specs.List.{list_all}
use Rattle.std.proofs.lemmas.Bool.{and_parts, eqb-true}
use Rattle.otlp_trace.specs.Data.{ResourceData, SpanData}
use Rattle.otlp_trace.specs.Text.{resource_text, span_text}
use Rattle.otlp_read.specs.Nested.{NestedResource}
use Rattle.otlp_read.specs.Typed.{TypedResource}
use Rattle.otlp_read.specs.RoundTrip.{IsShort}
use Rattle.otlp_parts.specs.Texts.{is_valid_span}
use Rattle.span_view.specs.Facts.{AreText, SpanFacts, facts}
use Rattle.span_view.specs.Reading.{facts_of}
use Rattle.span_pool.specs.Ids.{is_id}
use Rattle.span_pool.specs.Stored.{bytes_of}
use Rattle.span_pool.specs.Read.{IsReadSpan, IsReadResource}
use Rattle.otlp_prepare.specs.BodySpans.{IsSpanRead, IsValidRead, IsResourceRead}

-- a view over the texts of any span and resource that were read has keys and strings in UTF-8
abbrev pub AllViewed : Type 0
AllViewed = (s : SpanData) (r : Option ResourceData) → IsReadSpan s → IfSome r IsReadResource
    → AreText (facts_of (span_text s) (bytes_of (option_map resource_text r))).attributes

-- and tells what they are
abbrev pub AllTold : Type 0
AllTold = (s : SpanData) (r : Option ResourceData) → IsReadSpan s → IfSome r IsReadResource
    → facts_of (span_text s) (bytes_of (option_map resource_text r)) ≡ facts s r

span_fits : (text : List ℕ) (is : IsSpanRead text) → IsShort text → IsReadSpan is.span
span_fits text is short = record {
  typed = is.typed;
  room = 98;
  nested = is.nested;
  short = subst IsShort is.same short;
}

resource_fits_by : (r : Option ResourceData) → IfSome r TypedResource → IfSome r (NestedResource 99)
    → IsShort (bytes_of (option_map resource_text r)) → IfSome r IsReadResource
resource_fits_by None typed nested short = tt
resource_fits_by (Some r) typed nested short = record { typed = typed; room = 99; nested = nested; short = short }

resource_fits : (text : Option (List ℕ)) (is : IsResourceRead text) → IsShort (bytes_of text)
    → IfSome is.resource IsReadResource
resource_fits text is short = resource_fits_by is.resource is.typed is.nested
    (subst (λ (bs : Option (List ℕ)). IsShort (bytes_of bs)) is.same short)

-- so it does over these texts
pub viewed : (text : List ℕ) (resource : Option (List ℕ)) → AllViewed → IsSpanRead text → IsResourceRead resource
    → IsShort text → IsShort (bytes_of resource) → AreText (facts_of text (bytes_of resource)).attributes
viewed text resource all span outer short around =
    subst (λ (bs : List ℕ). AreText (facts_of bs (bytes_of resource)).attributes) (sym span.same)
    (subst (λ (o : Option (List ℕ)). AreText (facts_of (span_text span.span) (bytes_of o)).attributes) (sym outer.same)
    (all span.span outer.resource (span_fits text span short) (resource_fits resource outer around)))

pub told : (text : List ℕ) (resource : Option (List ℕ)) → AllTold → (span : IsSpanRead text)
    → (outer : IsResourceRead resource) → IsShort text → IsShort (bytes_of resource)
    → facts_of text (bytes_of resource) ≡ facts span.span outer.resource
told text resource all span outer short around =
    ap (λ (bs : List ℕ). facts_of bs (bytes_of resource)) span.same
    ∙ (ap (λ (o : Option (List ℕ)). facts_of (span_text span.span) (bytes_of o)) outer.same
    ∙ all span.span outer.resource (span_fits text span short) (resource_fits resource outer around))

-- ---- a span without its resource

none_read : IsResourceRead None
none_read = record { resource = None; typed = tt; nested = tt; same = refl }

none_short : IsShort (bytes_of None)
none_short = omega arith

pub alone_viewed : (text : List ℕ) → AllViewed → IsSpanRead text → IsShort text → AreText (facts_of text []).attributes
alone_viewed text all span short = viewed text None all span none_read short none_short

trace_size : (s : SpanData) → is_valid_span s ≡ true → length s.trace_id ≡ 16
trace_size s valid =
    let id = (and_parts (is_id 16 s.trace_id) (is_id 8 s.span_id) valid).0 in
    eqb-true (length s.trace_id) 16 (and_parts (length s.trace_id == 16) (not (list_all (λ byte. byte == 0) s.trace_id)) id).0

-- the trace id of a valid span has its size
pub alone_sized : (text : List ℕ) → AllTold → IsValidRead text → IsShort text → length (facts_of text []).trace_id ≡ 16
alone_sized text all valid short =
    ap (λ (f : SpanFacts). length f.trace_id) (told text None all valid.read none_read short none_short)
    ∙ trace_size valid.read.span valid.valid
