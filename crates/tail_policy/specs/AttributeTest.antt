-- What a policy wants of an attribute's value, and what it is asked about a span, as the code hands them on (the
-- policies `string_attribute` and `numeric_attribute` of the Collector's tailsamplingprocessor).
use Rattle.std.specs.Prelude.{Bool, map, string_bytes}
use Rattle.span_view.specs.Facts.{ValueFact}
use Rattle.tail_policy.specs.declared.attribute.AttributeTest.{AttributeTest}
use Rattle.tail_policy.specs.declared.attribute.AttributeTest.TheVariants as wanted
use Rattle.tail_policy.specs.declared.bits.Fact.{Fact}
use Rattle.tail_policy.specs.declared.bits.Fact.TheVariants as facts
use Rattle.span_view.specs.Shown.{value_shown}
use Rattle.tail_policy.specs.Meaning.{is_one_of, is_within}
use Rattle.tail_policy.specs.Note.{FactData, status, attribute}

-- one of these texts, or a whole number between these bounds, both included
abbrev pub is_wanted : AttributeTest → ValueFact → Bool
is_wanted (wanted.OneOf texts) = is_one_of (map string_bytes texts.now)
is_wanted (wanted.Within low high) = is_within low high

-- a fact of a span, by its status or by an attribute
abbrev pub fact_view : Fact → FactData
fact_view (facts.Status code) = status code
fact_view (facts.Attribute key value) = attribute (record { key = key.now; value = value_shown value })
