use Rattle.std.proofs.Common.{◌∙◌, ap, sym, subst}
use Rattle.text_pool.specs.Part.{part}
use Rattle.tenant_stores.specs.HeldTexts.{IsKnown, wanted_text}
use Rattle.tenant_stores.specs.declared.texts.TextRequest.{TextRequest}
use Rattle.tenant_stores.proofs.Held.{none_is_held, new_is_held, again_is_held}
use Rattle.tenant_stores.proofs.texts.hold_one.Goals as goal

pub returns-in-Nothing-clause-keys_held : goal.returns-in-Nothing-clause-keys_held
returns-in-Nothing-clause-keys_held c = λ kept known. none_is_held (part c.args.tenant c.args.texts.now) kept

pub returns-in-Nothing-clause-text : goal.returns-in-Nothing-clause-text
returns-in-Nothing-clause-text c = λ kept known. sym (ap (λ (w : TextRequest). wanted_text w (part c.args.tenant c.args.texts.now)) c.in-Nothing.is)

pub returns-in_ok-key-in-New-clause-keys_held : goal.returns-in_ok-key-in-New-clause-keys_held
returns-in_ok-key-in-New-clause-keys_held c = λ kept known.
    (new_is_held c.args.tenant c.in_ok-key-in-New.key c.in-New.text.now (part c.args.tenant c.args.texts.now) (part c.args.tenant c.hold.new.self) kept c.in_ok-key-in-New.ensures.own_part c.in_ok-key-in-New.ensures.same).0

pub returns-in_ok-key-in-New-clause-text : goal.returns-in_ok-key-in-New-clause-text
returns-in_ok-key-in-New-clause-text c = λ kept known.
    (new_is_held c.args.tenant c.in_ok-key-in-New.key c.in-New.text.now (part c.args.tenant c.args.texts.now) (part c.args.tenant c.hold.new.self) kept c.in_ok-key-in-New.ensures.own_part c.in_ok-key-in-New.ensures.same).1
    ∙ sym (ap (λ (w : TextRequest). wanted_text w (part c.args.tenant c.args.texts.now)) c.in-New.is)

pub returns-in_ok-again-in-Again-clause-keys_held : goal.returns-in_ok-again-in-Again-clause-keys_held
returns-in_ok-again-in-Again-clause-keys_held c = λ kept known.
    let there = subst (λ (w : TextRequest). IsKnown w (part c.args.tenant c.args.texts.now)) c.in-Again.is known in
    (again_is_held c.args.tenant c.in-Again.key c.in_ok-again-in-Again.again (part c.args.tenant c.args.texts.now) (part c.args.tenant c.hold_again.new.self) kept there c.in_ok-again-in-Again.ensures.own_part c.in_ok-again-in-Again.ensures.same).0

pub returns-in_ok-again-in-Again-clause-text : goal.returns-in_ok-again-in-Again-clause-text
returns-in_ok-again-in-Again-clause-text c = λ kept known.
    let there = subst (λ (w : TextRequest). IsKnown w (part c.args.tenant c.args.texts.now)) c.in-Again.is known in
    (again_is_held c.args.tenant c.in-Again.key c.in_ok-again-in-Again.again (part c.args.tenant c.args.texts.now) (part c.args.tenant c.hold_again.new.self) kept there c.in_ok-again-in-Again.ensures.own_part c.in_ok-again-in-Again.ensures.same).1
    ∙ sym (ap (λ (w : TextRequest). wanted_text w (part c.args.tenant c.args.texts.now)) c.in-Again.is)
