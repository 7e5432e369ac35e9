-- The texts of spans that are kept with keys, where a pool has what they share. This project's own rule.
use Rattle.std.specs.Prelude.{ℕ, List, Option, map}
use Rattle.std.specs.Borrow.{Bor}
use Rattle.slab.specs.Slab.{Slab}
use Rattle.text_pool.specs.Part.{part, text_of}
use Rattle.text_pool.specs.declared.pool.CountedText.{CountedText}
use Rattle.span_pool.specs.Stored.{StoredData, SpanTexts, texts_of}

-- a tenant's texts, by key
abbrev pub texts_in : Slab CountedText → ℕ → ℕ → Option (List ℕ)
texts_in texts tenant key = text_of (part tenant texts key)

-- a span, by the texts that its tenant has at its keys
abbrev pub span_in : Slab CountedText → StoredData → SpanTexts
span_in texts span = texts_of (texts_in texts span.owner) span

-- each of these spans, which are borrowed
abbrev pub spans_in : Slab CountedText → List (Bor StoredData) → List SpanTexts
spans_in texts spans = map (λ span. span_in texts span.now) spans
