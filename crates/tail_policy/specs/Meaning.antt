-- Which traces policies sample, as the README of the OpenTelemetry Collector's tail_sampling processor has it
-- (https://github.com/open-telemetry/opentelemetry-collector-contrib/tree/main/processor/tailsamplingprocessor): a
-- predicate on the spans of a trace, each with its resource.
use Rattle.std.specs.Prelude.{ℕ, ℤ, pos, ◌-◌, ◌/◌, Bool, true, false, ◌&&◌, List, [], ◌∷◌, min, max, nat_le, int_le}
use Rattle.std.specs.List.{list_all, list_any}
use Rattle.std.specs.Ordering.{int_eq}
use Rattle.std.specs.Str.{bytes_eq}
use Rattle.tail_settings.specs.Policy.{StatusData, LeafData, PolicyData, leaf, and}
use Rattle.tail_settings.specs.Policy.{always_sample, latency, status_code, string_attribute, numeric_attribute}
use Rattle.tail_settings.specs.Policy as settings
use Rattle.span_view.specs.Facts.{ValueFact, string, int, SpanFacts}

-- ---- how long a trace lasts

-- the earliest start of one span and others, in nanoseconds
abbrev pub earliest_start : SpanFacts → List SpanFacts → ℕ
earliest_start span [] = span.start_time_unix_nano
earliest_start span (other ∷ others) = min span.start_time_unix_nano (earliest_start other others)

-- their latest end
abbrev pub latest_end : SpanFacts → List SpanFacts → ℕ
latest_end span [] = span.end_time_unix_nano
latest_end span (other ∷ others) = max span.end_time_unix_nano (latest_end other others)

-- how many nanoseconds a millisecond has
abbrev pub nanoseconds : ℕ
nanoseconds = 1000000

-- what the policy `latency` compares: from the earliest start to the latest end in whole milliseconds, rounded down; 0
-- where that end is before that start
abbrev pub duration : List SpanFacts → ℕ
duration [] = 0
duration (span ∷ spans) = (latest_end span spans - earliest_start span spans) / nanoseconds

-- ---- what a span and its resource have

-- the number of a code in trace.proto's Status.StatusCode (OTLP 1.x)
abbrev pub number_of : StatusData → ℤ
number_of settings.unset = pos 0
number_of settings.ok = pos 1
number_of settings.error = pos 2

-- the span's status is one of these; a missing one counts as UNSET
abbrev pub has_status : List StatusData → SpanFacts → Bool
has_status codes span = list_any (λ code. int_eq span.status (number_of code)) codes

-- a text that is one of these, byte for byte
abbrev pub is_one_of : List (List ℕ) → ValueFact → Bool
is_one_of texts (string text) = list_any (bytes_eq text) texts
is_one_of texts _ = false

-- a whole number from low to high, both included
abbrev pub is_within : ℤ → ℤ → ValueFact → Bool
is_within low high (int number) = int_le low number && int_le number high
is_within low high _ = false

-- the span or its resource has an attribute of this key whose value is such a one; each occurrence of the key counts
abbrev pub has_attribute : List ℕ → (ValueFact → Bool) → SpanFacts → Bool
has_attribute key is_such span =
    list_any (λ attribute. bytes_eq attribute.key key && is_such attribute.value) span.attributes

-- ---- policies

-- a policy that holds no other samples the trace of these spans: always, by how long the trace lasts, or by one of its
-- spans
abbrev pub leaf_samples : LeafData → List SpanFacts → Bool
leaf_samples always_sample spans = true
leaf_samples (latency threshold) spans = nat_le threshold (duration spans)
leaf_samples (status_code codes) spans = list_any (has_status codes) spans
leaf_samples (string_attribute key values) spans = list_any (has_attribute key (is_one_of values)) spans
leaf_samples (numeric_attribute key low high) spans = list_any (has_attribute key (is_within low high)) spans

-- of policies that are joined by `and` each has to sample the trace, possibly by different spans
abbrev pub policy_samples : PolicyData → List SpanFacts → Bool
policy_samples (leaf l) spans = leaf_samples l spans
policy_samples (and ls) spans = list_all (λ l. leaf_samples l spans) ls

-- a trace is sampled where one of the tenant's policies samples it
unfoldable pub keeps : List PolicyData → List SpanFacts → Bool
keeps policies spans = list_any (λ policy. policy_samples policy spans) policies
