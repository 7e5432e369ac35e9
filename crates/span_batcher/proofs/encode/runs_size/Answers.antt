use Rattle.std.proofs.Common.{◌≡◌, ℕ, ◌+◌, List, [], ◌∷◌, length, drop, flat_map, sym, ap, ◌∙◌, arith, length-append}
use Rattle.span_batcher.specs.ExportText.{runs}
use Rattle.span_batcher.specs.Blocks.{BlockData, placed, alike, capped}
use Rattle.span_batcher.proofs.Runs.{next_run, none_left}
use Rattle.span_batcher.proofs.Sizes.{part_more}
use Rattle.span_batcher.proofs.encode.runs_size.Goals as goal

pub loop-start-preserved : goal.loop-start-preserved
loop-start-preserved g c =
    let texts = c.args.texts.now in
    let same = alike texts g.L.Level.same in
    let field : List BlockData → List ℕ = λ run. g.L.Level.field (placed texts run) in
    let blocks = c.args.blocks.now in
    let start = c.loop-start.start in
    let count = c.leading-count.result in
    let left = c.split_at.result.1.now in
    let run = c.split_at-in-loop-start.result.0.now in
    let size = c.loop-start.size in
    let others = flat_map field (runs same (drop (start + count) blocks)) in
    let first : runs same (drop start blocks) ≡ run ∷ runs same (drop (start + count) blocks) = next_run same blocks left run start count c.split_at.ensures.back c.split_at-in-loop-start.ensures.front c.leading-count.ensures.first in
    let parts : length (flat_map field (runs same (drop start blocks))) ≡ length (field run) + length others = ap (λ (rs : List (List BlockData)). length (flat_map field rs)) first ∙ length-append (field run) others in
    record {
      within = omega (arith, c.leading-count.ensures.within, c.split_at.ensures.back_len);
      fits = omega (arith, c.saturating_add-size.ensures);
      whole = part_more size c.size-more.result c.saturating_add-size.result (length (field run)) (length others) c.size-more.ensures c.saturating_add-size.ensures ∙ (ap (λ (n : ℕ). capped (size + n)) (sym parts) ∙ c.loop-start.invariant.whole);
    }

pub returns : goal.returns
returns g c =
    let texts = c.args.texts.now in
    let same = alike texts g.L.Level.same in
    let field : List BlockData → List ℕ = λ run. g.L.Level.field (placed texts run) in
    let none : runs same (drop c.loop-start.start c.args.blocks.now) ≡ [] = none_left same c.args.blocks.now c.loop-start.start c.loop-start-test.false in
    let left : length (flat_map field (runs same (drop c.loop-start.start c.args.blocks.now))) ≡ 0 = ap (λ (rs : List (List BlockData)). length (flat_map field rs)) none in
    let so_far : c.loop-start.size ≡ capped (c.loop-start.size + length (flat_map field (runs same (drop c.loop-start.start c.args.blocks.now)))) = omega arith in
    so_far ∙ c.loop-start.invariant.whole
