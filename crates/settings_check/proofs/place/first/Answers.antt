use Rattle.std.proofs.Common.{◌≡◌, ◌+◌, Some, get_or, sym, arith}
use Rattle.toml.specs.View.{view}
use Rattle.settings_check.proofs.Alone.{first_found, next_found}
use Rattle.settings_check.proofs.place.first.Goals as goal

pub loop-value-preserved : goal.loop-value-preserved
loop-value-preserved c =
    let xs = c.args.values.now in
    let i = c.loop-value.value-index in
    let x = c.value-item.result in
    let at : get_or xs i x ≡ x = sym c.value-item.is in
    record {
      count = omega arith;
      found = λ seen found is rest. c.loop-value.invariant.found seen found is
          (next_found c.args.level seen xs i x c.loop-value-test.true at (c.loop-value.number + 1) found
          (λ w. rw c.if-branch.false at (c.in_ok-has_alone.ensures seen is w)) rest);
    }

pub returns-then-branch : goal.returns-then-branch
returns-then-branch c =
    let xs = c.args.values.now in
    let i = c.loop-value.value-index in
    let x = c.value-item.result in
    let n = c.loop-value.number + 1 in
    let at : get_or xs i x ≡ x = sym c.value-item.is in
    λ seen is. c.loop-value.invariant.found seen (Some (n, view x)) is
    (first_found c.args.level seen xs i x c.loop-value-test.true at n (λ w. rw c.if-branch.true at (c.in_ok-has_alone.ensures seen is w)))
