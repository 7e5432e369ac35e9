-- Spans with their notes.
use Rattle.std.proofs.Common.{◌≡◌, ◌∙◌, List, [], ◌∷◌, map, refl, ap, sym, subst}
use Rattle.std.specs.Prelude.{zip}
use Rattle.std.specs.List.{AllByRecursion}
use Rattle.otlp_read.specs.RoundTrip.{IsShort}
use Rattle.span_pool.specs.Stored.{bytes_of}
use Rattle.tail_settings.specs.Policy.{PolicyData}
use Rattle.tail_policy.specs.declared.note.TraceNote.{TraceNote}
use Rattle.tail_policy.specs.Apart.{notes_of_texts}
use Rattle.tail_policy.specs.Note.{note_of}
use Rattle.tail_policy.specs.Parts.{resource_bits_of, with_resource, by_parts}
use Rattle.tenant_rules.specs.Arrivals.{Arrival}
use Rattle.prepared_body.specs.Origin.{OriginTexts}
use Rattle.prepared_body.specs.declared.noted.NotedSpan.{NotedSpan}
use Rattle.prepared_body.specs.Arrivals.{origin_at, arrivals_in, AreGrouped}
use Rattle.prepared_body.specs.Prepared.{IsReady, AreReady}
use Rattle.otlp_prepare.specs.BodySpans.{UnnotedSpanData, part_arrival, part_arrivals, own_note, with_note, noted, IsFound, AreFound}
use Rattle.otlp_prepare.proofs.Grouped.{is_grouped}
use Rattle.otlp_prepare.proofs.Lists.{every_mapped}

-- a span with the note that it has by itself
abbrev pub both_parts : UnnotedSpanData × TraceNote → NotedSpan
both_parts p = with_note p.0 p.1

pub joined : (policies : List PolicyData) (parts : List UnnotedSpanData) (own : List TraceNote) → own ≡ map (own_note policies) parts
    → map both_parts (zip parts own) ≡ map (noted policies) parts
joined policies [] own is = ap (λ (ns : List TraceNote). map both_parts (zip [] ns)) is
joined policies (part ∷ parts) own is =
    ap (λ (ns : List TraceNote). map both_parts (zip (part ∷ parts) ns)) is
    ∙ ap (λ (spans : List NotedSpan). noted policies part ∷ spans) (joined policies parts (map (own_note policies) parts) refl)

ready : (policies : List PolicyData) (origins : List OriginTexts) (part : UnnotedSpanData) → AreGrouped origins → IsFound policies origins part
    → IsReady policies origins (noted policies part)
ready policies origins part grouped is = record {
  note = notes_of_texts (note_of policies) (resource_bits_of policies) with_resource (by_parts policies) part.text (bytes_of (origin_at origins part.origin).resource) part.bits is.bits;
  trace = is.trace;
  valid = is.valid;
  within = is.within;
  grouped = is_grouped origins part.origin grouped is.within;
  short = is.short;
}

all_ready : (policies : List PolicyData) (origins : List OriginTexts) (parts : List UnnotedSpanData) → AreGrouped origins → AreFound policies origins parts
    → AreReady policies origins (map (noted policies) parts)
all_ready policies origins parts grouped are =
    every_mapped (IsFound policies origins) (IsReady policies origins) (noted policies) (λ part is. ready policies origins part grouped is) parts are

-- the spans that were noted are ready
pub are_ready : (policies : List PolicyData) (origins : List OriginTexts) (parts : List UnnotedSpanData) (spans : List NotedSpan)
    → spans ≡ map (noted policies) parts → AreGrouped origins → AreFound policies origins parts → AreReady policies origins spans
are_ready policies origins parts spans is grouped are =
    subst (AreReady policies origins) (sym is) (all_ready policies origins parts grouped are)

-- and have arrived as they were found
pub noted_arrivals : (policies : List PolicyData) (origins : List OriginTexts) (parts : List UnnotedSpanData)
    → arrivals_in origins (map (noted policies) parts) ≡ part_arrivals origins parts
noted_arrivals policies origins [] = refl
noted_arrivals policies origins (part ∷ parts) =
    ap (λ (rest : List Arrival). part_arrival origins part ∷ rest) (noted_arrivals policies origins parts)

-- the texts of a span and its resource have lengths that can be spelled
abbrev pub IsShortArrival : Arrival → Type 0
IsShortArrival arrival = IsShort arrival.text × IsShort (bytes_of arrival.origin.resource)

pub short_arrivals : (policies : List PolicyData) (origins : List OriginTexts) (parts : List UnnotedSpanData) → AreFound policies origins parts
    → AllByRecursion IsShortArrival (part_arrivals origins parts)
short_arrivals policies origins parts are =
    every_mapped (IsFound policies origins) IsShortArrival (part_arrival origins) (λ part is. (is.short, is.around)) parts are
