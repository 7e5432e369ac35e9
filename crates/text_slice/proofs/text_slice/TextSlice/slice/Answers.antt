use Rattle.std.proofs.Common.{◌≡◌, ◌+◌, ◌-◌, ◌≤◌, ℕ, List, length, length-take-le, length-drop, drop, arith, rules, sym, ap, ◌∙◌, slice_range}
use Rattle.bytes.proofs.Ranges.{slice_range-slice_range}
use Rattle.text_slice.specs.Block.{bytes_in}
use Rattle.text_slice.specs.declared.block.Block.{Block}
use Rattle.text_slice.proofs.text_slice.TextSlice.slice.Goals as goal

-- a place in a text lies before its end in the block
inside : (block text : List ℕ) (start end at : ℕ) → slice_range block start end ≡ text → start ≤ end → end ≤ length block → at ≤ length text → start + at ≤ end
inside block text start end at is order within before =
    let left = length-drop start block in
    let fits : end - start ≤ length (drop start block) = omega (arith, left, within) in
    let long : end - start ≡ length text = sym (length-take-le (end - start) (drop start block) fits) ∙ ap length is in
    omega (arith, long, order, before)

pub overflow_cast-result : goal.overflow_cast-result
overflow_cast-result c =
    let at = inside _ _ _ _ c.args.end c.self.view_is c.self.invariant.0 c.self.invariant.1 c.requires.within in
    omega (arith, at, c.self.invariant.2, c.requires.order)

pub overflow_add-result : goal.overflow_add-result
overflow_add-result c =
    let at = inside _ _ _ _ c.args.end c.self.view_is c.self.invariant.0 c.self.invariant.1 c.requires.within in
    omega (arith, at, c.self.invariant.2, c.requires.order)

pub overflow_cast-result-2 : goal.overflow_cast-result-2
overflow_cast-result-2 c =
    let at = inside _ _ _ _ c.args.end c.self.view_is c.self.invariant.0 c.self.invariant.1 c.requires.within in
    omega (arith, at, c.self.invariant.2)

pub overflow_add-result-2 : goal.overflow_add-result-2
overflow_add-result-2 c =
    let at = inside _ _ _ _ c.args.end c.self.view_is c.self.invariant.0 c.self.invariant.1 c.requires.within in
    omega (arith, at, c.self.invariant.2)

pub returns : goal.returns
returns c =
    let at = inside _ _ _ _ c.args.end c.self.view_is c.self.invariant.0 c.self.invariant.1 c.requires.within in
    let block : c.in_ok-block.block.value ≡ c.self.inside.block.value = search rules in
    let cut = slice_range-slice_range (bytes_in c.self.inside.block.value) c.self.inside.start c.self.inside.end c.args.start c.args.end c.requires.order at in
    ap (λ (b : Block). slice_range (bytes_in b) (c.self.inside.start + c.args.start) (c.self.inside.start + c.args.end)) block ∙ sym cut
    ∙ ap (λ (text : List ℕ). slice_range text c.args.start c.args.end) c.self.view_is
