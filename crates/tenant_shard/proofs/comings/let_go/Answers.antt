use Rattle.std.proofs.Common.{◌≡◌, ◌∙◌, ap, sym, subst, ℕ, []}
use Rattle.std.specs.List.{remove}
use Rattle.std.specs.Prelude.{vec_capacity}
use Rattle.tenant_stores.specs.Counts.{no_rows}
use Rattle.tenant_stores.specs.Invariant.{StoreInvariant}
use Rattle.tenant_stores.specs.Part.{part}
use Rattle.tenant_pipeline.specs.declared.pipeline.Pipeline.{Pipeline}
use Rattle.tenant_pipeline.specs.Invariant.{PipelineInvariant, HasNonePending}
use Rattle.tenant_shard.specs.Members.{views}
use Rattle.tenant_shard.proofs.Places.{tenant_at}
use Rattle.tenant_shard.proofs.Frame.{Others, held_at, kept_there, gone_is_none, others_left, whole_remove}
use Rattle.tenant_shard.proofs.Gones.{finds, departure, gone_one_more}
use Rattle.tenant_shard.proofs.comings.let_go.Goals as goal

pub unreachable-requires : goal.unreachable-requires
unreachable-requires c =
    let t = c.args.tenant in
    let stores = c.args.stores.now in
    let ms = c.args.members.now.items in
    let gs = c.args.gone.now.items in
    let found = finds t gs c.binary_search.result c.requires.whole.gone_are.rise (rw c.deref.ensures.value at c.binary_search.ensures.position) in
    let is = rw c.in_default.is at found in
    kept_there t stores ms c.args.i c.requires.place (c.requires.whole.gone_are.apart t is)

pub leave-requires-clause-invariant : goal.leave-requires-clause-invariant
leave-requires-clause-invariant c =
    let own = c.remove-member.result in
    subst (λ (m : Pipeline). PipelineInvariant m c.args.stores.now) (sym c.remove-member.ensures.value) (held_at c.args.tenant c.args.stores.now c.args.members.now.items c.args.i own c.requires.place c.requires.whole.whole.held)

pub leave-requires-clause-may_leave : goal.leave-requires-clause-may_leave
leave-requires-clause-may_leave c = subst HasNonePending (sym c.remove-member.ensures.value) (c.requires.may_leave c.remove-member.result)

pub returns-clause-left : goal.returns-clause-left
returns-clause-left c =
    let t = c.args.tenant in
    let old = c.args.stores.now in
    let new = c.leave.new.stores in
    let ms = c.args.members.now.items in
    let gs = c.args.gone.now.items in
    let i = c.args.i in
    let own = c.remove-member.result in
    let same : own.tenant ≡ t = ap (λ (m : Pipeline). m.tenant) c.remove-member.ensures.value ∙ tenant_at t ms i own c.requires.place in
    let others : Others t old new = λ v ne. c.leave.ensures.others_unchanged v (λ e. ne (e ∙ same)) in
    rw (c.remove-member.ensures.items, c.in-Ok.ensures.items) (departure t (views old ms) (views new (remove ms i)) gs c.in-Err.at (gone_is_none t new ms i c.requires.place c.requires.whole.whole.order) (λ u ne. others_left t u old new ms i c.requires.place others ne))

pub returns-clause-whole : goal.returns-clause-whole
returns-clause-whole c =
    let t = c.args.tenant in
    let old = c.args.stores.now in
    let new = c.leave.new.stores in
    let ms = c.args.members.now.items in
    let gs = c.args.gone.now.items in
    let i = c.args.i in
    let own = c.remove-member.result in
    let same : own.tenant ≡ t = ap (λ (m : Pipeline). m.tenant) c.remove-member.ensures.value ∙ tenant_at t ms i own c.requires.place in
    let others : Others t old new = λ v ne. c.leave.ensures.others_unchanged v (λ e. ne (e ∙ same)) in
    let none : StoreInvariant no_rows [] [] (part t new) = subst (λ (u : ℕ). StoreInvariant no_rows [] [] (part u new)) same c.leave.ensures.gone in
    let found = finds t gs c.binary_search.result c.requires.whole.gone_are.rise (rw c.deref.ensures.value at c.binary_search.ensures.position) in
    let gap = rw c.in-Err.is at found in
    let whole = whole_remove t old new c.args.agenda.now c.dismiss.new.self ms i c.requires.whole.whole c.requires.place others none c.dismiss.ensures.ready c.dismiss.ensures.members in
    let gone_are = gone_one_more old new ms i gs c.in-Err.at (vec_capacity c.args.gone.now) (vec_capacity c.insert.new.self) t c.requires.whole.gone_are c.requires.within gap.0 gap.2 gap.3 (gone_is_none t new ms i c.requires.place c.requires.whole.whole.order) (λ u ne. (others_left t u old new ms i c.requires.place others ne).0) c.insert.ensures.capacity in
    rw (c.remove-member.ensures.items, c.in-Ok.ensures.items) (record { whole = whole; gone_are = gone_are })
