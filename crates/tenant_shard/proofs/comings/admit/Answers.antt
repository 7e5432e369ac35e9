use Rattle.std.proofs.Common.{◌≡◌, ◌≢◌, ◌∙◌, ◌≤◌, ◌+◌, ap, sym, subst, ℕ, length, Bool, Option, Some, [], ◌||◌, arith}
use Rattle.std.proofs.lemmas.Bool.Decides.{nat_tests}
use Rattle.std.proofs.lemmas.List.Edits.{length-insert}
use Rattle.std.specs.List.{insert}
use Rattle.std.specs.Prelude.{◌==◌, vec_capacity}
use Rattle.shard_agenda.specs.Agenda.{is_member, ready_of, with_ready}
use Rattle.tail_settings.specs.Section.{section_view}
use Rattle.tenant_rules.specs.Ready.{ready}
use Rattle.tenant_rules.specs.State.{state}
use Rattle.tenant_stores.specs.Counts.{no_rows}
use Rattle.tenant_stores.specs.Invariant.{StoreInvariant}
use Rattle.tenant_stores.specs.Part.{part}
use Rattle.tenant_pipeline.specs.StateIn.{state_in}
use Rattle.tenant_shard.specs.View.{kept_of, StaysOf}
use Rattle.tenant_shard.specs.Members.{IsGapFor, views}
use Rattle.tenant_shard.specs.Steps.{IsAdditionOf}
use Rattle.tenant_shard.proofs.Frame.{kept_gap, kept_insert, kept_insert_other, stays, was_some, whole_insert}
use Rattle.tenant_shard.proofs.Gones.{gone_with_one}
use Rattle.tenant_shard.proofs.comings.admit.Goals as goal

pub ready-ready-requires : goal.ready-ready-requires
ready-ready-requires c =
    let ms = c.args.members.now.items in
    let own = c.in_ok-pipeline.pipeline in
    let none = kept_gap c.args.tenant c.args.stores.now ms c.args.at c.requires.whole.whole.order c.requires.gap in
    let sound = subst (λ (u : ℕ). StoreInvariant no_rows [] [] (part u c.args.stores.now)) (sym c.in_ok-pipeline.ensures.tenant) (c.requires.whole.whole.strangers c.args.tenant none) in
    record { invariant = c.in_ok-pipeline.ensures.invariant (part own.tenant c.args.stores.now) sound }

pub set-requires : goal.set-requires
set-requires c = c.in_ok-admit.ensures.members c.args.tenant ∙ grind (arith, nat_tests)

pub returns-clause-added : goal.returns-clause-added
returns-clause-added c =
    let t = c.args.tenant in
    let stores = c.args.stores.now in
    let ms = c.args.members.now.items in
    let own = c.in_ok-pipeline.pipeline in
    let is : own.tenant ≡ t = c.in_ok-pipeline.ensures.tenant in
    let none = kept_gap t stores ms c.args.at c.requires.whole.whole.order c.requires.gap in
    let gap : IsGapFor own.tenant ms c.args.at = subst (λ (u : ℕ). IsGapFor u ms c.args.at) (sym is) c.requires.gap in
    let new = c.in_ok-pipeline.ensures.stands (part own.tenant stores) (subst (λ (u : ℕ). StoreInvariant no_rows [] [] (part u stores)) (sym is) (c.requires.whole.whole.strangers t none)) in
    let now : kept_of t (views stores (insert ms c.args.at own)) ≡ Some (state (section_view c.args.section.now) []) =
    subst (λ (u : ℕ). kept_of u (views stores (insert ms c.args.at own)) ≡ Some (state (section_view c.args.section.now) [])) is (kept_insert stores ms c.args.at own gap ∙ ap Some new) in
    let others : (u : ℕ) → u ≢ t → StaysOf u (views stores ms) (views stores (insert ms c.args.at own)) =
    λ u ne. stays u stores stores ms (insert ms c.args.at own) (kept_insert_other u stores ms c.args.at own gap (λ e. ne (sym e ∙ is))) in
    let added : IsAdditionOf t (section_view c.args.section.now) (views stores ms) (views stores (insert ms c.args.at own)) =
    record { is_now = now; was_now = was_some t stores (insert ms c.args.at own) (state (section_view c.args.section.now) []) now; others = others } in
    rw (c.in-Ok.ensures.items, c.in_ok-reserve.ensures.items) added

pub returns-clause-whole : goal.returns-clause-whole
returns-clause-whole c =
    let t = c.args.tenant in
    let stores = c.args.stores.now in
    let ms = c.args.members.now.items in
    let gs = c.args.gone.now.items in
    let own = c.in_ok-pipeline.pipeline in
    let is : own.tenant ≡ t = c.in_ok-pipeline.ensures.tenant in
    let none = kept_gap t stores ms c.args.at c.requires.whole.whole.order c.requires.gap in
    let gap : IsGapFor own.tenant ms c.args.at = subst (λ (u : ℕ). IsGapFor u ms c.args.at) (sym is) c.requires.gap in
    let held = c.in_ok-pipeline.ensures.invariant (part own.tenant stores) (subst (λ (u : ℕ). StoreInvariant no_rows [] [] (part u stores)) (sym is) (c.requires.whole.whole.strangers t none)) in
    let at : ready_of c.set.new.self ≡ with_ready own.tenant (ready (state_in own stores)) (ready_of c.args.agenda.now) =
    c.set.ensures.ready ∙ (ap (λ (r : Option ℕ). with_ready t r (ready_of c.admit.new.self)) c.ready-ready.ensures ∙ (ap (with_ready t (ready (state_in own stores))) c.in_ok-admit.ensures.ready ∙ ap (λ (u : ℕ). with_ready u (ready (state_in own stores)) (ready_of c.args.agenda.now)) (sym is))) in
    let members : (u : ℕ) → is_member c.set.new.self u ≡ (own.tenant == u || is_member c.args.agenda.now u) =
    λ u. ap (λ (f : ℕ → Bool). f u) c.set.ensures.members ∙ (c.in_ok-admit.ensures.members u ∙ ap (λ (v : ℕ). v == u || is_member c.args.agenda.now u) (sym is)) in
    let whole = whole_insert stores c.args.agenda.now c.set.new.self ms c.args.at own c.requires.whole.whole gap held c.in_ok-pipeline.ensures.swept at members in
    let longer : length (insert ms c.args.at own) ≡ length ms + 1 = length-insert ms c.args.at own c.requires.within in
    let room : length gs + length (insert ms c.args.at own) ≤ vec_capacity c.reserve-2.new.self =
    omega (arith, longer, c.in_ok-reserve-2.ensures.ok, c.in_ok-reserve-2.ensures.len, c.len.ensures, c.in_ok-reserve.ensures.len, c.args.gone.now.ok.0, c.args.members.now.ok.0) in
    let gone_are = gone_with_one stores ms (insert ms c.args.at own) gs (vec_capacity c.reserve-2.new.self) t c.requires.whole.gone_are.rise c.requires.whole.gone_are.apart c.requires.is_new (λ u ne. kept_insert_other u stores ms c.args.at own gap (λ e. ne (sym e ∙ is))) room in
    rw (c.in-Ok.ensures.items, c.in_ok-reserve.ensures.items, c.in_ok-reserve-2.ensures.items) (record { whole = whole; gone_are = gone_are })
