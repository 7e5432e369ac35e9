use Rattle.std.proofs.Common.{◌∙◌, sym, refl, inl, inr}
use Rattle.tail_settings.specs.Section.{section_view}
use Rattle.tenant_shard.specs.Members.{views}
use Rattle.tenant_shard.proofs.Places.{on_err}
use Rattle.tenant_shard.proofs.Frame.{kept_gap, was_placed, was_none}
use Rattle.tenant_shard.proofs.Gones.{was_front, was_end, was_neither, addition_behind, finds, found_ok, found_err}
use Rattle.tenant_shard.proofs.comings.add.Goals as goal

-- the member is there
pub returns-in_default-clause-on_success : goal.returns-in_default-clause-on_success
returns-in_default-clause-on_success c =
    let t = c.args.tenant in
    let stores = c.args.stores.now in
    let ms = c.args.members.now.items in
    let place = rw c.deref.ensures.value at c.in_default.ensures.found in
    inl (was_front t (views stores ms) c.args.gone.now.items (was_placed t stores ms c.in_default.field-0 place.1), refl, refl)

-- it has gone
pub returns-then-is_ok-clause-on_success : goal.returns-then-is_ok-clause-on_success
returns-then-is_ok-clause-on_success c =
    let t = c.args.tenant in
    let stores = c.args.stores.now in
    let ms = c.args.members.now.items in
    let gs = c.args.gone.now.items in
    let found = finds t gs c.binary_search.result c.requires.whole.gone_are.rise (rw c.deref-2.ensures.value at c.binary_search.ensures.position) in
    inl (was_end t (views stores ms) gs (found_ok t gs c.binary_search.result found (sym c.is_ok.ensures.value ∙ c.if-is_ok.true)), refl, refl)

-- its number is new
pub admit-requires-clause-is_new : goal.admit-requires-clause-is_new
admit-requires-clause-is_new c =
    let t = c.args.tenant in
    let gs = c.args.gone.now.items in
    let found = finds t gs c.binary_search.result c.requires.whole.gone_are.rise (rw c.deref-2.ensures.value at c.binary_search.ensures.position) in
    found_err t gs c.binary_search.result found (sym c.is_ok.ensures.value ∙ c.if-is_ok.false)

pub returns-in_err-admit-clause-on_refusal : goal.returns-in_err-admit-clause-on_refusal
returns-in_err-admit-clause-on_refusal c =
    let t = c.args.tenant in
    let stores = c.args.stores.now in
    let ms = c.args.members.now.items in
    let gs = c.args.gone.now.items in
    let gap = rw c.deref.ensures.value at c.in-Err.ensures.absent in
    let none = kept_gap t stores ms c.in-Err.at c.requires.whole.whole.order gap.1 in
    let found = finds t gs c.binary_search.result c.requires.whole.gone_are.rise (rw c.deref-2.ensures.value at c.binary_search.ensures.position) in
    let fresh = found_err t gs c.binary_search.result found (sym c.is_ok.ensures.value ∙ c.if-is_ok.false) in
    on_err c.from_residual.result (was_neither t (views stores ms) gs (was_none t stores ms none) fresh, rw (c.in_err-admit.ensures.on_refusal, c.admit.ensures.gone) refl)

pub returns-clause-on_success : goal.returns-clause-on_success
returns-clause-on_success c =
    let t = c.args.tenant in
    let stores = c.args.stores.now in
    let ms = c.args.members.now.items in
    let gs = c.args.gone.now.items in
    let gap = rw c.deref.ensures.value at c.in-Err.ensures.absent in
    let none = kept_gap t stores ms c.in-Err.at c.requires.whole.whole.order gap.1 in
    let found = finds t gs c.binary_search.result c.requires.whole.gone_are.rise (rw c.deref-2.ensures.value at c.binary_search.ensures.position) in
    let fresh = found_err t gs c.binary_search.result found (sym c.is_ok.ensures.value ∙ c.if-is_ok.false) in
    let added = addition_behind t (section_view c.args.section.now) (views stores ms) (views stores c.admit.new.members.items) gs c.in_ok-admit.ensures.added in
    inr (was_neither t (views stores ms) gs (was_none t stores ms none) fresh, refl, rw c.admit.ensures.gone added)
