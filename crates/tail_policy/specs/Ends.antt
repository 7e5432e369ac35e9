-- The earliest start and the latest end, span by span (the policy `latency` of the Collector's tailsamplingprocessor).
use Rattle.std.proofs.Common.{◌≡◌, ℕ, min, max, List, [], ◌∷◌, refl, ap, ◌∙◌, arith}
use Rattle.span_view.specs.Facts.{SpanFacts}
use Rattle.tail_policy.specs.Meaning.{earliest_start, latest_end}

-- the least of a number and the starts of spans
abbrev pub least : ℕ → List SpanFacts → ℕ
least n [] = n
least n (span ∷ spans) = least (min n span.start_time_unix_nano) spans

-- the greatest of a number and their ends
abbrev pub greatest : ℕ → List SpanFacts → ℕ
greatest n [] = n
greatest n (span ∷ spans) = greatest (max n span.end_time_unix_nano) spans

min_assoc : (a b c : ℕ) → min (min a b) c ≡ min a (min b c)
min_assoc a b c = omega arith

max_assoc : (a b c : ℕ) → max (max a b) c ≡ max a (max b c)
max_assoc a b c = omega arith

least-min : (a b : ℕ) (spans : List SpanFacts) → least (min a b) spans ≡ min a (least b spans)
least-min a b [] = refl
least-min a b (span ∷ spans) =
    ap (λ n. least n spans) (min_assoc a b span.start_time_unix_nano)
    ∙ least-min a (min b span.start_time_unix_nano) spans

greatest-max : (a b : ℕ) (spans : List SpanFacts) → greatest (max a b) spans ≡ max a (greatest b spans)
greatest-max a b [] = refl
greatest-max a b (span ∷ spans) =
    ap (λ n. greatest n spans) (max_assoc a b span.end_time_unix_nano)
    ∙ greatest-max a (max b span.end_time_unix_nano) spans

-- from the first start on, the least is the earliest start
pub least-starts : (span : SpanFacts) (others : List SpanFacts)
    → least span.start_time_unix_nano others ≡ earliest_start span others
least-starts span [] = refl
least-starts span (other ∷ others) =
    least-min span.start_time_unix_nano other.start_time_unix_nano others
    ∙ ap (λ n. min span.start_time_unix_nano n) (least-starts other others)

-- from the first end on, the greatest is the latest end
pub greatest-ends : (span : SpanFacts) (others : List SpanFacts)
    → greatest span.end_time_unix_nano others ≡ latest_end span others
greatest-ends span [] = refl
greatest-ends span (other ∷ others) =
    greatest-max span.end_time_unix_nano other.end_time_unix_nano others
    ∙ ap (λ n. max span.end_time_unix_nano n) (greatest-ends other others)
