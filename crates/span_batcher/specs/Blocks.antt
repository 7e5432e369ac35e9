-- Spans of a batch that follow each other with the same keys, as one block: this project's own rule. It is written by
-- the texts of its first span, and nothing of it is compared again.
use Rattle.std.specs.Prelude.{ℕ, ◌+◌, ◌-◌, ◌^◌, Bool, List, ◌∷◌, length, map, flat_map, min}
use Rattle.slab.specs.Slab.{Slab}
use Rattle.text_pool.specs.declared.pool.CountedText.{CountedText}
use Rattle.pb_wire.specs.Text.{varint_text}
use Rattle.otlp_trace.specs.Text.{repeated, scope_spans_of, resource_spans_of}
use Rattle.span_pool.specs.Stored.{StoredData, SpanTexts}
use Rattle.span_batcher.specs.ExportText.{runs, same_scope, scope_spans_field}
use Rattle.span_batcher.specs.Texts.{span_in}

-- the first of the spans, and the texts of the others
pub record BlockData : Type 0 where
  pub first : StoredData
  pub others : List (List ℕ)

-- a span with the keys of another
abbrev pub with_text : StoredData → List ℕ → StoredData
with_text span text = record { owner = span.owner; keys = span.keys; text = text }

-- the spans of a block
abbrev pub spread : BlockData → List StoredData
spread block = block.first ∷ map (with_text block.first) block.others

-- and their texts
abbrev pub own_texts : BlockData → List (List ℕ)
own_texts block = block.first.text ∷ block.others

-- the spans of blocks, by their texts
abbrev pub placed : Slab CountedText → List BlockData → List SpanTexts
placed texts blocks = flat_map (λ block. map (span_in texts) (spread block)) blocks

-- whether blocks are the same, by the first of each
abbrev pub alike : Slab CountedText → (SpanTexts → SpanTexts → Bool) → BlockData → BlockData → Bool
alike texts same one other = same (span_in texts one.first) (span_in texts other.first)

-- what is written of blocks, run by run
abbrev pub fields_in :
    Slab CountedText → (SpanTexts → SpanTexts → Bool) → (List SpanTexts → List ℕ) → List BlockData → List ℕ
fields_in texts same field blocks = flat_map (λ run. field (placed texts run)) (runs (alike texts same) blocks)

-- what a scope spans with this scope holds
abbrev pub scope_content : SpanTexts → List SpanTexts → List ℕ
scope_content first spans =
    scope_spans_of first.origin.scope (repeated 2 (λ a. a.text) spans) first.origin.scope_schema_url

-- what a resource spans with this resource holds
abbrev pub resource_content : SpanTexts → List SpanTexts → List ℕ
resource_content first spans = resource_spans_of first.origin.resource
    (flat_map scope_spans_field (runs same_scope spans)) first.origin.resource_schema_url

-- a number of bytes, of which so many that 64 bits don't hold it count as the most that they hold
abbrev pub capped : ℕ → ℕ
capped n = min n (2 ^ 64 - 1)

-- how many bytes a field takes that holds so many, its number being below 16
abbrev pub field_size : ℕ → ℕ
field_size held = 1 + (length (varint_text held) + held)
