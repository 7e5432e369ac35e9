use Rattle.std.proofs.Common.{◌≡◌, ◌∙◌, ◌++◌, List, [], false, refl, sym, ap}
use Rattle.span_view.specs.Facts.{AttributeFact}
use Rattle.span_view.specs.Reading.{attributes_in}
use Rattle.tail_policy.specs.Asks.{ask_attributes}
use Rattle.tail_policy.specs.Note.{leaves_in, bits_of, attributes_meet}
use Rattle.tail_policy.specs.Parts.{resource_bits_of}
use Rattle.tail_policy.proofs.Asked.{no_attribute_bits}
use Rattle.tail_policy.proofs.tenant.TenantPoliciesPolicyByParts.resource_note.Goals as goal

pub returns-then-not-self : goal.returns-then-not-self
unfolding resource_bits_of
returns-then-not-self c =
    let attributes : List AttributeFact = attributes_in 9 [] ++ attributes_in 1 c.args.resource.now in
    let none : ask_attributes c.args.self.now ≡ false =
    ap (λ ps. ask_attributes ps) (sym c.self.view_is) ∙ sym c.self.invariant.asked ∙ c.if-not-self.true in
    let bits : bits_of (attributes_meet attributes) (leaves_in c.args.self.now) ≡ 0 =
    no_attribute_bits c.args.self.now attributes none in
    c.new.ensures ∙ rw bits refl
