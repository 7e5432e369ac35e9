use Rattle.std.proofs.Common.{ℕ, List, [], sym, subst}
use Rattle.otlp_trace.specs.Text.{span_text}
use Rattle.otlp_trace.specs.Defaults.{no_span}
use Rattle.span_view.specs.Facts.{AreText}
use Rattle.span_view.specs.Reading.{facts_of}
use Rattle.span_pool.specs.Stored.{bytes_of}
use Rattle.otlp_prepare.proofs.Read.{viewed}
use Rattle.otlp_prepare.proofs.Empty.{empty_read, empty_short}
use Rattle.otlp_prepare.proofs.body_spans.resource_told.Goals as goal

pub resource_note-requires : goal.resource_note-requires
resource_note-requires c =
    let whole = viewed (span_text no_span) c.args.resource.now c.read_spans_are_viewed.ensures.text empty_read c.requires empty_short c.bytes_in.ensures.short in
    let both = (c.views_of_parts.ensures.text (span_text no_span) (bytes_of c.args.resource.now)).0 whole in
    record { text = subst (λ (bs : List ℕ). AreText (facts_of [] bs).attributes) (sym c.bytes_in.ensures.same) both.1 }
