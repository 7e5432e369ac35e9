use Rattle.std.proofs.Common.{◌++◌, ℕ, List, [], append-nil, subst, sym}
use Rattle.std.proofs.lemmas.Result.{on_ok_weaker}
use Rattle.tenant_stores.specs.Invariant.{StoreInvariant}
use Rattle.tenant_rules.specs.State.{State}
use Rattle.tenant_pipeline.specs.Posts.{held_keys, IsKeptState}
use Rattle.tenant_pipeline.specs.StateIn.{counts_in, part_in}
use Rattle.tenant_pipeline.proofs.Holds.{came_held, is_coming_held, state_held, written_kept, written_more, written_on}
use Rattle.tenant_pipeline.proofs.Lasts.{last_held, number_held}
use Rattle.tenant_pipeline.proofs.pipeline.Pipeline.admit_with_texts.Goals as goal

pub returns-in_err-place-clause-written : goal.returns-in_err-place-clause-written
returns-in_err-place-clause-written c = λ start first written.
    let own = c.args.self.now in
    let refused = c.in_err-place.ensures in
    let p = part_in own c.args.stores.now in
    let pending = c.args.journal.now.undo.gone.items ++ own.batcher.spans in
    let sound = subst (λ (ks : List ℕ). StoreInvariant (counts_in own) pending ks p) (sym (append-nil (held_keys c.args.held.now))) c.requires.next.posting.holds.sound in
    written_kept c.args.held.now c.hold.new.self c.args.journal.now start own first (part_in own c.args.stores.now) (part_in own c.hold.new.stores) refused.on_refusal
    (refused.part_on_refusal (counts_in own) pending [] sound) written

pub admit-requires-clause-coming : goal.admit-requires-clause-coming
admit-requires-clause-coming c =
    let own = c.args.self.now in
    let made = c.in_ok-place.ensures in (
      held_keys c.hold.new.self,
      is_coming_held c.args.moment c.args.journal.now c.args.origins.now c.args.held.now c.hold.new.self c.args.span.now own (part_in own c.args.stores.now) (part_in own c.hold.new.stores) c.requires.next
          made.uses_added made.store_invariant made.shows c.in_ok-place.place c.index.result.now made.place c.index.ensures made.origin made.origins,
    )

pub admit-requires-clause-last : goal.admit-requires-clause-last
admit-requires-clause-last c =
    let own = c.args.self.now in
    let p = part_in own c.args.stores.now in
    let pending = c.args.journal.now.undo.gone.items ++ own.batcher.spans in
    let sound = subst (λ (ks : List ℕ). StoreInvariant (counts_in own) pending ks p) (sym (append-nil (held_keys c.args.held.now))) c.requires.next.posting.holds.sound in
    let more = c.in_ok-place.ensures.uses_added (counts_in own) pending [] sound in
    last_held c.args.last.now own more.more p (part_in own c.hold.new.stores) more.holds c.requires.last

pub admit-requires-clause-state : goal.admit-requires-clause-state
admit-requires-clause-state c =
    let own = c.args.self.now in
    let made = c.in_ok-place.ensures in
    subst (λ (s : State). IsKeptState c.args.span.now.trace c.args.state s)
    (sym (state_held c.args.moment c.args.journal.now c.args.origins.now c.args.held.now c.hold.new.self c.args.span.now own (part_in own c.args.stores.now) (part_in own c.hold.new.stores) c.requires.next
    made.uses_added made.store_invariant made.shows))
    c.requires.state

pub admit-requires-clause-number : goal.admit-requires-clause-number
admit-requires-clause-number c =
    let own = c.args.self.now in
    let p = part_in own c.args.stores.now in
    let pending = c.args.journal.now.undo.gone.items ++ own.batcher.spans in
    let sound = subst (λ (ks : List ℕ). StoreInvariant (counts_in own) pending ks p) (sym (append-nil (held_keys c.args.held.now))) c.requires.next.posting.holds.sound in
    let more = c.in_ok-place.ensures.uses_added (counts_in own) pending [] sound in
    number_held c.args.span.now.trace c.args.state own more.more p (part_in own c.hold.new.stores) more.holds c.requires.number

pub returns-clause-came : goal.returns-clause-came
returns-clause-came c =
    let own = c.args.self.now in
    let made = c.in_ok-place.ensures in
    on_ok_weaker c.admit.result
    (came_held c.args.moment c.args.journal.now c.args.origins.now c.args.held.now c.hold.new.self c.args.span.now own (part_in own c.args.stores.now) (part_in own c.hold.new.stores) c.requires.next
    made.uses_added made.store_invariant made.shows c.in_ok-place.place c.index.result.now made.place c.index.ensures made.origin made.origins
    c.admit.new.journal c.admit.new.self (part_in c.admit.new.self c.admit.new.stores))
    c.admit.ensures.came

pub returns-clause-written : goal.returns-clause-written
returns-clause-written c = λ start first written.
    let own = c.args.self.now in
    let new = c.admit.new.self in
    let made = c.in_ok-place.ensures in
    let q = part_in own c.hold.new.stores in
    written_on c.hold.new.self c.args.journal.now c.admit.new.journal own new q (part_in new c.admit.new.stores) c.admit.ensures.written start first
    (written_more c.args.moment c.args.journal.now c.args.origins.now c.args.held.now c.hold.new.self c.args.span.now own (part_in own c.args.stores.now) q c.requires.next
    made.uses_added made.store_invariant made.shows start first written)
