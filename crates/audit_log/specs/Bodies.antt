-- Prepared bodies whose spans' texts are kept as one. This project's own rule.
use Rattle.std.specs.Prelude.{ℕ, ◌+◌, List, [], ◌∷◌, take, drop, length}
use Rattle.prepared_body.specs.declared.noted.NotedSpan.{NotedSpan}
use Rattle.audit_log.specs.declared.body.PackedSpan.{PackedSpan}

-- a span but for its text, of which the length is kept
abbrev pub without_text : NotedSpan → PackedSpan
without_text s = record { trace = s.trace; note = s.note; origin = s.origin; length = length s.text }

-- the span, whose text stands first among these
abbrev pub span_from : List ℕ → PackedSpan → NotedSpan
span_from texts s = record { trace = s.trace; text = take s.length texts; origin = s.origin; note = s.note }

-- the spans, whose texts follow one another
abbrev pub spans_from : List ℕ → List PackedSpan → List NotedSpan
spans_from texts [] = []
spans_from texts (s ∷ ss) = span_from texts s ∷ spans_from (drop s.length texts) ss

-- how long their texts are together
abbrev pub texts_size : List PackedSpan → ℕ
texts_size [] = 0
texts_size (s ∷ ss) = s.length + texts_size ss
