use Rattle.std.proofs.Common.{rules, arith, ◌≡◌, ◌-◌, suc, length}
use Rattle.otlp_read.specs.Nested.{known_of_any}
use Rattle.otlp_canonical.proofs.Others.{none_kept}
use Rattle.otlp_canonical.proofs.Parts.{nothing}
use Rattle.otlp_canonical.proofs.Values.{any_whole}
use Rattle.otlp_canonical.proofs.value.scalar_pair.Goals as goal

pub returns-then-is_utf8-clause-value : goal.returns-then-is_utf8-clause-value
returns-then-is_utf8-clause-value c room some =
    let is : room ≡ suc (room - 1) = omega (arith, some) in
    let no_more : length c.in_ok-rest.rest.now ≡ 0 = search rules in
    any_whole room (room - 1) _ _ is (c.in_ok-rest.ensures (room - 1)) (none_kept known_of_any (room - 1) _ (nothing _ no_more))
