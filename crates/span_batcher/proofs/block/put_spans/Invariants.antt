use Rattle.std.proofs.Common.{◌≡◌, ◌++◌, drop}
use Rattle.std.specs.Borrow.{Bor}
use Rattle.otlp_trace.specs.Text.{repeated}
use Rattle.span_pool.specs.Stored.{StoredData}
use Rattle.span_batcher.proofs.block.put_spans.Given as goal

-- what is written and what is left give the whole
abbrev pub invariant-loop-span : goal.invariant-loop-span
invariant-loop-span l = l.out.items ++ repeated 2 (λ (span : Bor StoredData). span.now.text) (drop l.span-index l.spans) ≡ l.fn.out.items ++ repeated 2 (λ (span : Bor StoredData). span.now.text) l.spans
