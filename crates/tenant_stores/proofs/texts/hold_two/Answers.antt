use Rattle.std.proofs.Common.{◌≡◌, ◌∙◌, ap}
use Rattle.std.specs.Prelude.{option_to_list}
use Rattle.text_pool.specs.Part.{part}
use Rattle.tenant_stores.specs.Changes.{all_released}
use Rattle.tenant_stores.specs.HeldTexts.{AreKept, IsKnown}
use Rattle.tenant_stores.proofs.Held.{on_err, two_held, two_first, two_last}
use Rattle.tenant_stores.proofs.texts.hold_two.Goals as goal

pub returns-in-Ok-clause-keys_held : goal.returns-in-Ok-clause-keys_held
returns-in-Ok-clause-keys_held c = λ kept one two.
    let old = part c.args.tenant c.args.texts.now in
    let middle = part c.args.tenant c.hold_one.new.texts in
    let new = part c.args.tenant c.hold_one-2.new.texts in
    two_held c.args.first c.args.second c.in-Ok.key c.in_ok-last.last old middle new (c.in_ok-last.ensures.keys_held kept two) c.in-Ok.ensures.keys_held one

pub returns-in-Ok-clause-first : goal.returns-in-Ok-clause-first
returns-in-Ok-clause-first c = λ kept one two.
    let old = part c.args.tenant c.args.texts.now in
    let middle = part c.args.tenant c.hold_one.new.texts in
    let new = part c.args.tenant c.hold_one-2.new.texts in
    two_first c.args.first c.in-Ok.key c.in_ok-last.last old middle new (c.in_ok-last.ensures.keys_held kept two) c.in-Ok.ensures.text one

pub returns-in-Ok-clause-second : goal.returns-in-Ok-clause-second
returns-in-Ok-clause-second c = λ kept one two.
    let old = part c.args.tenant c.args.texts.now in
    let middle = part c.args.tenant c.hold_one.new.texts in
    let new = part c.args.tenant c.hold_one-2.new.texts in
    two_last c.args.first c.args.second c.in-Ok.key c.in_ok-last.last old middle new (c.in_ok-last.ensures.keys_held kept two) (c.in_ok-last.ensures.text kept two) c.in-Ok.ensures.keys_held one

pub returns-in-Err-clause-on_refusal : goal.returns-in-Err-clause-on_refusal
returns-in-Err-clause-on_refusal c = λ kept two.
    let back = (c.in_ok-last.ensures.keys_held kept two).back in
    c.release.ensures.uses_removed ∙ (ap (all_released (option_to_list c.in_ok-last.last)) c.in-Err.ensures.on_refusal ∙ back)

pub returns-in-Ok-clause-others_unchanged : goal.returns-in-Ok-clause-others_unchanged
returns-in-Ok-clause-others_unchanged c = λ other ne. c.in-Ok.ensures.others_unchanged other ne ∙ c.in_ok-last.ensures.others_unchanged other ne

pub returns-in-Err-clause-others_unchanged : goal.returns-in-Err-clause-others_unchanged
returns-in-Err-clause-others_unchanged c = λ other ne. c.release.ensures.others_unchanged other ne ∙ (c.in-Err.ensures.others_unchanged other ne ∙ c.in_ok-last.ensures.others_unchanged other ne)

pub returns-in_err-last-clause-on_refusal : goal.returns-in_err-last-clause-on_refusal
returns-in_err-last-clause-on_refusal c =
    let same : AreKept (part c.args.tenant c.args.texts.now) → IsKnown c.args.second (part c.args.tenant c.args.texts.now) → part c.args.tenant c.hold_one.new.texts ≡ part c.args.tenant c.args.texts.now =
    λ kept known. c.in_err-last.ensures.on_refusal in
    on_err c.from_residual.result same
