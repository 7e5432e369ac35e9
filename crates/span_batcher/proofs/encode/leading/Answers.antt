use Rattle.std.proofs.Common.{◌≡◌, ◌+◌, ◌<◌, ◌∷◌, true, false, length, take, drop, sym, ◌∙◌, arith}
use Rattle.span_batcher.specs.ExportText.{runs}
use Rattle.span_batcher.specs.Texts.{span_in}
use Rattle.span_batcher.specs.Blocks.{alike}
use Rattle.span_batcher.proofs.Runs.{after, starts, goes_on, ends, stops}
use Rattle.span_batcher.proofs.encode.leading.Goals.{then-loop-last-test+else-is_same, else-loop-last-test}
use Rattle.span_batcher.proofs.encode.leading.Goals as goal

pub loop-last-init : goal.loop-last-init
loop-last-init g c = record { within = c.requires; first = starts (alike c.args.texts.now g.L.Level.same) c.args.blocks.now c.requires }

pub loop-last-preserved : goal.loop-last-preserved
loop-last-preserved g c =
    let texts = c.args.texts.now in
    let within : c.loop-last.last + 1 < length c.args.blocks.now = omega arith in
    let told : alike texts g.L.Level.same c.index-blocks-last.result c.index-blocks-last-in-loop-last.result ≡ true =
    (λ i. g.L.Level.same (span_in texts (sym c.first_span.ensures i)) (span_in texts (sym c.first_span-in-loop-last.ensures i))) ∙ (sym c.is_same.ensures ∙ c.if-is_same.true) in
    record {
      within = within;
      first = goes_on (alike texts g.L.Level.same) c.args.blocks.now c.loop-last.last c.index-blocks-last.result c.index-blocks-last-in-loop-last.result within c.index-blocks-last.is c.index-blocks-last-in-loop-last.is told ∙ c.loop-last.invariant.first;
    }

pub returns-clause-first : goal.returns-clause-first
returns-clause-first g c =
    let texts = c.args.texts.now in
    let blocks = c.args.blocks.now in
    let same = alike texts g.L.Level.same in
    let last = c.loop-last.last in
    let first : after (take last blocks) (runs same (drop last blocks)) ≡ take (last + 1) blocks ∷ runs same (drop (last + 1) blocks) = elim c.loop-last-test.branch [
      | then-loop-last-test+else-is_same w ↦
          let told : same w.index-blocks-last.result w.index-blocks-last-in-loop-last.result ≡ false =
          (λ i. g.L.Level.same (span_in texts (sym w.first_span.ensures i)) (span_in texts (sym w.first_span-in-loop-last.ensures i))) ∙ (sym w.is_same.ensures ∙ w.if-is_same.false) in
          stops same blocks last w.index-blocks-last.result w.index-blocks-last-in-loop-last.result w.loop-last-test.true w.index-blocks-last.is w.index-blocks-last-in-loop-last.is told
      | else-loop-last-test w ↦ ends same blocks last c.loop-last.invariant.within (omega (arith, w.loop-last-test.false))
    ] in
    sym c.loop-last.invariant.first ∙ first
