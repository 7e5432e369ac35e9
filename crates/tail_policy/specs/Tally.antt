-- What the fields of a span and its resource tell policies together. What policies ask is of the Collector's
-- tailsamplingprocessor, as Meaning has it.
use Rattle.std.specs.Prelude.{List}
use Rattle.span_view.specs.Fields.{FieldFact, first_start, first_end, first_status, attributes_told}
use Rattle.tail_settings.specs.Policy.{PolicyData}
use Rattle.tail_policy.specs.declared.tally.SpanFacts.{SpanFacts}
use Rattle.tail_policy.specs.Note.{leaves_in, bits_of, attributes_meet}

-- which policies the attributes meet, and the first of all else
abbrev pub tally_of : List PolicyData → List FieldFact → SpanFacts
tally_of policies facts = record {
  met = bits_of (attributes_meet (attributes_told facts)) (leaves_in policies);
  start = first_start facts;
  end = first_end facts;
  status = first_status facts;
}
