-- What is kept of a trace's spans so that its policies decide without them: of one size, however many there are. A note
-- has one bit for each policy that holds no other, the first policy's lowest, the earliest start and the latest end.
-- This project's own rule.
use Rattle.std.specs.Prelude.{ℕ, ℤ, ◌+◌, ◌-◌, ◌*◌, ◌/◌, ◌%◌, ◌^◌, Bool, true, false, ◌&&◌, ◌||◌, List, [], ◌∷◌, ◌++◌, length, min, max, nat_le, nat_eq, bit_or}
use Rattle.std.specs.List.{list_any}
use Rattle.std.specs.Ordering.{int_eq}
use Rattle.std.specs.Str.{bytes_eq}
use Rattle.tail_settings.specs.Policy.{LeafData, PolicyData, leaf, and}
use Rattle.tail_settings.specs.Policy.{always_sample, latency, status_code, string_attribute, numeric_attribute}
use Rattle.span_view.specs.Facts.{AttributeFact, SpanFacts}
use Rattle.tail_policy.specs.declared.note.TraceNote.{TraceNote}
use Rattle.tail_policy.specs.Meaning.{number_of, has_status, has_attribute, is_one_of, is_within, nanoseconds}

-- the policies that hold no other, in order
abbrev pub leaves_in : List PolicyData → List LeafData
leaves_in [] = []
leaves_in (leaf l ∷ policies) = l ∷ leaves_in policies
leaves_in (and ls ∷ policies) = ls ++ leaves_in policies

-- the lowest bit of a number whose other bits are this number
abbrev pub with_bit : Bool → ℕ → ℕ
with_bit true above = above * 2 + 1
with_bit false above = above * 2

-- one bit a leaf, below the bits of another number
abbrev pub bits_below : (LeafData → Bool) → List LeafData → ℕ → ℕ
bits_below is_met [] above = above
bits_below is_met (l ∷ ls) above = with_bit (is_met l) (bits_below is_met ls above)

-- one bit a leaf
abbrev pub bits_of : (LeafData → Bool) → List LeafData → ℕ
bits_of is_met ls = bits_below is_met ls 0

-- a span meets a leaf that one span can meet by itself
abbrev pub span_meets : SpanFacts → LeafData → Bool
span_meets span always_sample = false
span_meets span (latency threshold) = false
span_meets span (status_code codes) = has_status codes span
span_meets span (string_attribute key values) = has_attribute key (is_one_of values) span
span_meets span (numeric_attribute key low high) = has_attribute key (is_within low high) span

-- one of the facts by which a span meets such a leaf: its status, or an attribute of the span or its resource
pub data FactData : Type 0 where
  status : ℤ → FactData
  attribute : AttributeFact → FactData

-- the fact alone meets the leaf
abbrev pub fact_meets : FactData → LeafData → Bool
fact_meets (status code) (status_code codes) = list_any (λ listed. int_eq code (number_of listed)) codes
fact_meets (attribute a) (string_attribute key values) = bytes_eq a.key key && is_one_of values a.value
fact_meets (attribute a) (numeric_attribute key low high) = bytes_eq a.key key && is_within low high a.value
fact_meets fact l = false

-- one of the attributes meets the leaf
abbrev pub attributes_meet : List AttributeFact → LeafData → Bool
attributes_meet attributes l = list_any (λ a. fact_meets (attribute a) l) attributes

-- the note of one span
unfoldable pub note_of : List PolicyData → SpanFacts → TraceNote
note_of policies span = record {
  met = bits_of (span_meets span) (leaves_in policies);
  start = span.start_time_unix_nano;
  end = span.end_time_unix_nano;
}

-- the note of the spans of both
unfoldable pub joined : TraceNote → TraceNote → TraceNote
joined first second = record {
  met = bit_or first.met second.met;
  start = min first.start second.start;
  end = max first.end second.end;
}

-- a leaf samples the trace, by its bit or by the trace's times
abbrev pub leaf_verdict : TraceNote → LeafData → Bool → Bool
leaf_verdict note always_sample is_met = true
leaf_verdict note (latency threshold) is_met = nat_le threshold ((note.end - note.start) / nanoseconds)
leaf_verdict note (status_code codes) is_met = is_met
leaf_verdict note (string_attribute key values) is_met = is_met
leaf_verdict note (numeric_attribute key low high) is_met = is_met

-- the lowest bit is set
abbrev pub is_set : ℕ → Bool
is_set bits = nat_eq (bits % 2) 1

-- each of the leaves samples the trace, their bits being the lowest
abbrev pub all_verdict : TraceNote → List LeafData → ℕ → Bool
all_verdict note [] bits = true
all_verdict note (l ∷ ls) bits = leaf_verdict note l (is_set bits) && all_verdict note ls (bits / 2)

-- one of the policies samples the trace, their leaves' bits being the lowest
abbrev pub any_verdict : TraceNote → List PolicyData → ℕ → Bool
any_verdict note [] bits = false
any_verdict note (leaf l ∷ policies) bits = leaf_verdict note l (is_set bits) || any_verdict note policies (bits / 2)
any_verdict note (and ls ∷ policies) bits = all_verdict note ls bits || any_verdict note policies (bits / 2 ^ length ls)

-- a trace with this note is sampled
unfoldable pub verdict_of : List PolicyData → TraceNote → Bool
verdict_of policies note = any_verdict note policies note.met
