use Rattle.std.proofs.Common.{◌≡◌, ℕ, List, Option, length, option_copied, sym, ap, ◌∙◌, arith}
use Rattle.std.specs.Borrow.{Bor}
use Rattle.otlp_trace.specs.Text.{embedded}
use Rattle.span_batcher.specs.Blocks.{capped, field_size}
use Rattle.span_batcher.proofs.Sizes.{field_length}
use Rattle.span_batcher.proofs.size.embedded_size.Goals as goal

pub returns-in-Some : goal.returns-in-Some
returns-in-Some c =
    let bytes = c.in-Some.text.now in
    let text : c.field_size.result ≡ capped (field_size (length bytes)) = c.field_size.ensures ∙ ap (λ (bs : List ℕ). capped (field_size (length bs))) c.as_slice.ensures in
    text ∙ (ap capped (sym (field_length 1 bytes (omega arith))) ∙ ap (λ (t : Option (Bor (List ℕ))). capped (length (embedded 1 (option_copied t)))) (sym c.in-Some.is))
