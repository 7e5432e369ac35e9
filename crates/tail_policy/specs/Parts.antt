-- The note of a span with its resource, made of what the span tells by itself and of what the resource tells by itself.
-- This project's own rule.
use Rattle.std.proofs.Common.{◌≡◌, ◌∙◌, false, ◌||◌, List, [], ◌∷◌, refl, sym, ap}
use Rattle.std.proofs.Math.Bool.{or-false}
use Rattle.std.proofs.lemmas.List.Folds.{list_any-append}
use Rattle.std.specs.Prelude.{bit_or}
use Rattle.std.specs.List.{list_any}
use Rattle.tail_settings.specs.Policy.{LeafData, PolicyData}
use Rattle.tail_settings.specs.Policy.{always_sample, latency, status_code, string_attribute, numeric_attribute}
use Rattle.span_view.specs.Facts.{AttributeFact, SpanFacts}
use Rattle.tail_policy.specs.declared.note.ResourceBits.{ResourceBits}
use Rattle.tail_policy.specs.declared.note.TraceNote.{TraceNote}
use Rattle.tail_policy.specs.Apart.{with_attributes}
use Rattle.tail_policy.specs.Meaning.{has_status}
use Rattle.tail_policy.specs.Note.{leaves_in, bits_of, attributes_meet, span_meets, note_of}
use Rattle.tail_policy.specs.NoteBits.{or_bits, same_bits}

-- what a resource tells by its attributes: one bit a policy that holds no other, whether one of them meets it
unfoldable pub resource_bits_of : List PolicyData → List AttributeFact → ResourceBits
resource_bits_of policies attributes = record { met = bits_of (attributes_meet attributes) (leaves_in policies) }

-- the note of a span with its resource, by its note without one
unfoldable pub with_resource : ResourceBits → TraceNote → TraceNote
with_resource resource note = record {
  met = bit_or note.met resource.met;
  start = note.start;
  end = note.end;
}

-- no attribute meets what no attribute can meet
pub none_any : (attributes : List AttributeFact) → list_any (λ a. false) attributes ≡ false
none_any [] = refl
none_any (a ∷ attributes) = none_any attributes

meets_by_parts : (span : SpanFacts) (attributes : List AttributeFact) (l : LeafData)
    → (span_meets span l || attributes_meet attributes l) ≡ span_meets (with_attributes span attributes) l
meets_by_parts span attributes always_sample = none_any attributes
meets_by_parts span attributes (latency threshold) = none_any attributes
meets_by_parts span attributes (status_code codes) =
    ap (λ b. has_status codes span || b) (none_any attributes) ∙ or-false (has_status codes span)
meets_by_parts span attributes (string_attribute key values) = sym (list_any-append _ span.attributes attributes)
meets_by_parts span attributes (numeric_attribute key low high) = sym (list_any-append _ span.attributes attributes)

-- the note of both parts is the note of the span with its resource
pub by_parts : (policies : List PolicyData) (span : SpanFacts) (attributes : List AttributeFact)
    → with_resource (resource_bits_of policies attributes) (note_of policies span)
    ≡ note_of policies (with_attributes span attributes)
unfolding with_resource resource_bits_of note_of
by_parts policies span attributes =
    let ls : List LeafData = leaves_in policies in
    let bits : bit_or (bits_of (span_meets span) ls) (bits_of (attributes_meet attributes) ls)
    ≡ bits_of (span_meets (with_attributes span attributes)) ls =
    or_bits (span_meets span) (attributes_meet attributes) ls
    ∙ same_bits _ (span_meets (with_attributes span attributes)) (meets_by_parts span attributes) ls in
    rw bits refl
