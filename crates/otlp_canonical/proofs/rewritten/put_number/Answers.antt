use Rattle.std.proofs.Common.{rules, arith, ◌≡◌, ◌<◌, ℕ, true, is_some, refl, ◌∙◌}
use Rattle.std.proofs.lemmas.Bool.Decides.{nat_tests}
use Rattle.pb_wire.specs.Grammar.{entry}
use Rattle.otlp_trace.specs.Data.{SpanData}
use Rattle.otlp_trace.specs.Defaults.{no_span}
use Rattle.otlp_read.specs.Value.{span_known, span_step}
use Rattle.otlp_canonical.specs.Defaults.{DefaultsAbove, holds_default}
use Rattle.otlp_canonical.proofs.Respelled.{spelled_put, span_spelled}
use Rattle.otlp_canonical.proofs.Inside.{nothing_put}
use Rattle.otlp_canonical.proofs.InnerDefaults.{span_laws}
use Rattle.otlp_canonical.proofs.LowBits.{put_as}
use Rattle.otlp_canonical.proofs.rewritten.put_number.Goals as goal

pub returns-then-is_default : goal.returns-then-is_default
returns-then-is_default c room d whole =
    let low = entry c.with_low_bits-low.result in
    let old = c.args.copy.now.items in
    let is : holds_default low ≡ true = search rules in
    let above : c.args.most < low.number = grind (arith, nat_tests, whole) in
    put_as span_step DefaultsAbove room d c.args.most low (entry c.args.field) old old (c.with_low_bits-low.ensures room)
    (nothing_put span_step no_span holds_default DefaultsAbove span_laws room d c.args.most low old old is above refl)

pub returns : goal.returns
returns c room d whole =
    let low = entry c.with_low_bits-low.result in
    let old = c.args.copy.now.items in
    let new = c.put_short.new.copy.items in
    let known : (room : ℕ) (s : SpanData) → is_some (span_known room s low.number low.value) ≡ true = λ room s. c.knows.ensures room s ∙ search rules in
    put_as span_step DefaultsAbove room d c.args.most low (entry c.args.field) old new (c.with_low_bits-low.ensures room)
    (spelled_put span_step DefaultsAbove room d c.args.most low old new (span_spelled room low known) (c.in_ok-whole.ensures whole))
