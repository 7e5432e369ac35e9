use Rattle.std.proofs.Common.{◌∙◌, sym, refl, ℕ, List, [], ◌∷◌, ◌++◌}
use Rattle.tail_settings.specs.Section.{section_view}
use Rattle.tail_settings.specs.Settings.{settings_view}
use Rattle.tenant_shard.specs.Members.{views, all_views}
use Rattle.tenant_shard.specs.Lives.{ShardStands}
use Rattle.tenant_shard.specs.Steps.{IsAdditionOf}
use Rattle.tenant_shard.specs.Table.{opened}
use Rattle.tenant_shard.proofs.Places.{on_ok}
use Rattle.tenant_shard.proofs.Frame.{kept_there}
use Rattle.tenant_shard.proofs.Gones.{kept_behind, addition_behind}
use Rattle.tenant_shard.proofs.Tables.{opened_more, opened_none, opened_again}
use Rattle.tenant_shard.proofs.comings.open_member.Goals as goal

-- the member is there
pub returns-in_default-clause-stands : goal.returns-in_default-clause-stands
returns-in_default-clause-stands c = λ earlier stands.
    let t = c.args.tenant in
    let stores = c.args.stores.now in
    let ms = c.args.members.now.items in
    let place = rw c.deref.ensures.value at c.in_default.ensures.found in
    opened_again (settings_view c.args.settings.now) earlier t (all_views stores ms []) (λ none. kept_there t stores ms c.in_default.field-0 place.1 (sym (kept_behind t (views stores ms) []) ∙ none)) stands

-- it's no number of the table
pub returns-in_default-section-clause-stands : goal.returns-in_default-section-clause-stands
returns-in_default-section-clause-stands c = λ earlier stands.
    opened_none (settings_view c.args.settings.now) earlier c.args.tenant (all_views c.args.stores.now c.args.members.now.items []) (sym c.in_default-section.ensures) stands

-- it's a new one
pub admit-requires-clause-is_new : goal.admit-requires-clause-is_new
admit-requires-clause-is_new c = rw c.requires.nobody_left refl

pub returns-clause-stands : goal.returns-clause-stands
returns-clause-stands c =
    let t = c.args.tenant in
    let stores = c.args.stores.now in
    let ms = c.args.members.now.items in
    let section = section_view c.in-Some.section.now in
    let more : IsAdditionOf t section (views stores ms) (views stores c.admit.new.members.items) → (earlier : List ℕ) → ShardStands (opened (settings_view c.args.settings.now) earlier) (all_views stores ms []) → ShardStands (opened (settings_view c.args.settings.now) (earlier ++ t ∷ [])) (all_views stores c.admit.new.members.items []) =
    λ added earlier stands. opened_more (settings_view c.args.settings.now) earlier t section (all_views stores ms []) (all_views stores c.admit.new.members.items []) (sym c.in-Some.ensures) (addition_behind t section (views stores ms) (views stores c.admit.new.members.items) [] added) stands in
    on_ok c.admit.result more c.admit.ensures.added
