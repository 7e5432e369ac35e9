use Rattle.std.proofs.Common.{map, ap, ◌∙◌}
use Rattle.prepared_body.specs.Origin.{OriginTexts}
use Rattle.std.specs.Prelude.{List}
use Rattle.audit_log.specs.Origins.{around}
use Rattle.audit_log.proofs.Around.{first_has}
use Rattle.audit_log.proofs.origins.copies_of.Goals as goal

pub copy_of-requires : goal.copy_of-requires
copy_of-requires c =
    let so_far = ap (λ (os : List OriginTexts). map around os) c.as_slice.ensures.value ∙ c.loop-origin.invariant in
    record { first = first_has c.as_slice.result.now c.args.origins.now c.loop-origin.origin-index c.origin-item.result c.requires.grouped c.loop-origin-test.true c.origin-item.is so_far }
