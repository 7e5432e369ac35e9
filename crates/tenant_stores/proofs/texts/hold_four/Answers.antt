use Rattle.std.proofs.Common.{◌≡◌, ◌∙◌}
use Rattle.span_pool.specs.declared.keys.TextKeys.{TextKeys}
use Rattle.text_pool.specs.Part.{part}
use Rattle.tenant_stores.specs.HeldTexts.{AreKept, IsKnown}
use Rattle.tenant_stores.proofs.Held.{on_err, four_held, four_origin, four_refused}
use Rattle.tenant_stores.proofs.texts.hold_four.Goals as goal

pub returns-in-Ok-clause-keys_held : goal.returns-in-Ok-clause-keys_held
returns-in-Ok-clause-keys_held c = λ kept one two three four.
    let old = part c.args.tenant c.args.texts.now in
    let middle = part c.args.tenant c.hold_two.new.texts in
    let new = part c.args.tenant c.hold_two-2.new.texts in
    let keys : TextKeys = record { resource = c.in-Ok.upper.0; resource_schema_url = c.in-Ok.upper.1; scope = c.in_ok-lower.lower.0; scope_schema_url = c.in_ok-lower.lower.1 } in
    four_held c.args.resource c.args.resource_schema_url c.args.scope c.args.scope_schema_url keys old middle new (c.in_ok-lower.ensures.keys_held kept three four) c.in-Ok.ensures.keys_held one two

pub returns-in-Ok-clause-origin : goal.returns-in-Ok-clause-origin
returns-in-Ok-clause-origin c = λ kept one two three four.
    let old = part c.args.tenant c.args.texts.now in
    let middle = part c.args.tenant c.hold_two.new.texts in
    let new = part c.args.tenant c.hold_two-2.new.texts in
    let keys : TextKeys = record { resource = c.in-Ok.upper.0; resource_schema_url = c.in-Ok.upper.1; scope = c.in_ok-lower.lower.0; scope_schema_url = c.in_ok-lower.lower.1 } in
    four_origin c.args.resource c.args.resource_schema_url c.args.scope c.args.scope_schema_url keys old middle new (c.in_ok-lower.ensures.keys_held kept three four) c.in-Ok.ensures.keys_held one two
    c.in-Ok.ensures.first c.in-Ok.ensures.second (c.in_ok-lower.ensures.first kept three four) (c.in_ok-lower.ensures.second kept three four)

pub returns-in-Err-clause-on_refusal : goal.returns-in-Err-clause-on_refusal
returns-in-Err-clause-on_refusal c = λ kept one two three four.
    four_refused c.args.resource_schema_url c.in_ok-lower.lower.0 c.in_ok-lower.lower.1 (part c.args.tenant c.args.texts.now) (part c.args.tenant c.hold_two.new.texts) (part c.args.tenant c.hold_two-2.new.texts)
    (part c.args.tenant c.release.new.texts) (part c.args.tenant c.release-in-Err.new.texts) (c.in_ok-lower.ensures.keys_held kept three four) c.in-Err.ensures.on_refusal two c.release.ensures.uses_removed c.release-in-Err.ensures.uses_removed

pub returns-in-Ok-clause-others_unchanged : goal.returns-in-Ok-clause-others_unchanged
returns-in-Ok-clause-others_unchanged c = λ other ne. c.in-Ok.ensures.others_unchanged other ne ∙ c.in_ok-lower.ensures.others_unchanged other ne

pub returns-in-Err-clause-others_unchanged : goal.returns-in-Err-clause-others_unchanged
returns-in-Err-clause-others_unchanged c = λ other ne. c.release-in-Err.ensures.others_unchanged other ne ∙ (c.release.ensures.others_unchanged other ne ∙ (c.in-Err.ensures.others_unchanged other ne ∙ c.in_ok-lower.ensures.others_unchanged other ne))

pub returns-in_err-lower-clause-on_refusal : goal.returns-in_err-lower-clause-on_refusal
returns-in_err-lower-clause-on_refusal c =
    let old = part c.args.tenant c.args.texts.now in
    let same : AreKept old → IsKnown c.args.resource old → IsKnown c.args.resource_schema_url old → IsKnown c.args.scope old → IsKnown c.args.scope_schema_url old → part c.args.tenant c.hold_two.new.texts ≡ old =
    λ kept one two three four. c.in_err-lower.ensures.on_refusal kept four in
    on_err c.from_residual.result same
