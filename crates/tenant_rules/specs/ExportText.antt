-- What a batch of spans that arrived is sent as (OTLP 1.x's trace.proto, as `span_batcher` has it).
use Rattle.std.specs.Prelude.{ℕ, List, map}
use Rattle.span_pool.specs.Stored.{SpanTexts}
use Rattle.span_batcher.specs.ExportText as batches
use Rattle.tenant_rules.specs.Arrivals.{Arrival}

-- the texts of a span
abbrev pub texts_of : Arrival → SpanTexts
texts_of arrival = record { origin = arrival.origin; text = arrival.text }

-- the canonical text of the request that they make
unfoldable pub export_text : List Arrival → List ℕ
export_text spans = batches.export_text (map texts_of spans)
