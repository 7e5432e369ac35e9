use Rattle.std.proofs.Common.{◌≡◌, ℕ, ◌+◌, List, ◌∷◌, map, drop, sym, ap, ◌∙◌, arith}
use Rattle.std.specs.Borrow.{Bor}
use Rattle.std.proofs.lemmas.List.{drop-drop}
use Rattle.span_pool.specs.Stored.{StoredData}
use Rattle.span_batcher.proofs.Alike.{block_more}
use Rattle.span_batcher.proofs.Written.{next_part}
use Rattle.span_batcher.proofs.block.blocks_of.Goals as goal

pub loop-start-preserved : goal.loop-start-preserved
loop-start-preserved c =
    let spans = c.args.spans.now in
    let start = c.loop-start.start in
    let first = c.index-spans-start.result in
    let behind = c.split_at.result.1.now in
    let others = c.split_at-in-loop-start.result.0.now in
    let count = c.like-count.result in
    let back : behind ≡ drop (start + 1) spans = c.split_at.ensures.back in
    let left : drop start spans ≡ first ∷ behind = next_part (λ (xs : List (Bor StoredData)). xs) spans start first c.loop-start-test.true c.index-spans-start.is ∙ ap (λ (xs : List (Bor StoredData)). first ∷ xs) (sym back) in
    let counted : start + (1 + count) ≡ (start + 1) + count = omega arith in
    let rest : drop (start + (1 + count)) spans ≡ drop count behind = ap (λ (n : ℕ). drop n spans) counted ∙ (sym (drop-drop count (start + 1) spans) ∙ ap (drop count) (sym back)) in
    record {
      within = omega (arith, c.like-count.ensures.within, c.split_at.ensures.back_len);
      whole = block_more _ c.push.new.self.items c.of.result first (drop start spans) behind others (drop (start + (1 + count)) spans) (map (λ (span : Bor StoredData). span.now) spans) count left c.split_at-in-loop-start.ensures.front rest c.like-count.ensures.alike c.of.ensures.first c.of.ensures.others c.in_ok-push.ensures.items c.loop-start.invariant.whole;
    }
