use Rattle.std.proofs.Common.{◌≡◌, ℕ, ◌+◌, List, [], ◌∷◌, ◌++◌, drop, flat_map, sym, ap, ◌∙◌, arith, append-nil, append_assoc}
use Rattle.span_batcher.specs.ExportText.{runs}
use Rattle.span_batcher.specs.Blocks.{BlockData, placed, alike}
use Rattle.span_batcher.proofs.Runs.{next_run, none_left}
use Rattle.span_batcher.proofs.encode.put_runs.Goals as goal

pub loop-start-preserved : goal.loop-start-preserved
loop-start-preserved g c =
    let texts = c.args.texts.now in
    let same = alike texts g.L.Level.same in
    let field : List BlockData → List ℕ = λ run. g.L.Level.field (placed texts run) in
    let blocks = c.args.blocks.now in
    let start = c.loop-start.start in
    let count = c.leading-count.result in
    let left = c.split_at.result.1.now in
    let run = c.split_at-in-loop-start.result.0.now in
    let out = c.loop-start.out.items in
    let others = flat_map field (runs same (drop (start + count) blocks)) in
    let first : runs same (drop start blocks) ≡ run ∷ runs same (drop (start + count) blocks) = next_run same blocks left run start count c.split_at.ensures.back c.split_at-in-loop-start.ensures.front c.leading-count.ensures.first in
    record {
      within = omega (arith, c.leading-count.ensures.within, c.split_at.ensures.back_len);
      whole = ap (λ (bs : List ℕ). bs ++ others) c.in_ok-put.ensures ∙ (append_assoc out (field run) others ∙ (ap (λ (rs : List (List BlockData)). out ++ flat_map field rs) (sym first) ∙ c.loop-start.invariant.whole));
    }

pub returns : goal.returns
returns g c =
    let texts = c.args.texts.now in
    let same = alike texts g.L.Level.same in
    let field : List BlockData → List ℕ = λ run. g.L.Level.field (placed texts run) in
    let out = c.loop-start.out.items in
    let none : runs same (drop c.loop-start.start c.args.blocks.now) ≡ [] = none_left same c.args.blocks.now c.loop-start.start c.loop-start-test.false in
    sym (ap (λ (rs : List (List BlockData)). out ++ flat_map field rs) none ∙ append-nil out) ∙ c.loop-start.invariant.whole
