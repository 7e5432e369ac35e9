use Rattle.std.proofs.Common.{arith, ◌≡◌, ◌∙◌, ◌+◌, ◌<◌, ◌≤◌, ℕ, List, [], ap, refl}
use Rattle.decision_cache.specs.Caches.{CachesData}
use Rattle.tenant_stores.specs.Part.{part}
use Rattle.tenant_stores.specs.Counts.{one_swept}
use Rattle.tenant_stores.specs.View.{view}
use Rattle.tenant_pipeline.specs.Invariant.{PipelineInvariantAt}
use Rattle.tenant_pipeline.specs.StateIn.{counts_in, part_in, state_by, view_in}
use Rattle.tenant_pipeline.proofs.Posting.{held_over, itself}
use Rattle.tenant_pipeline.proofs.pipeline.Pipeline.sweep.Goals as goal

pub loop-self-init : goal.loop-self-init
loop-self-init c = record {
  state = refl;
  holds = λ reached held holds. holds;
  others = λ other ne. refl;
  caches = refl;
  same = itself c.args.self.now;
}

pub loop-self-preserved : goal.loop-self-preserved
loop-self-preserved c =
    let own = c.loop-self.self in
    let p = part_in own c.loop-self.stores in
    let q = part own.tenant c.sweep.new.self in
    let was = c.loop-self.invariant in
    let one = c.sweep.ensures in
    let some : own.rows.swept < own.rows.first = c.loop-self-test.true in
    let most : own.rows.swept + 1 ≤ own.rows.first = omega (arith, some) in
    let shows : (reached : ℕ) (held : List ℕ) → PipelineInvariantAt reached [] held own p → view (one_swept (counts_in own)) own.batcher.spans q ≡ view_in own p = λ reached held holds.
    one.shows (counts_in own) own.batcher.spans held own.batcher.spans refl most holds.sound (λ key. omega arith) in
    let any = was.holds c.requires.0 c.requires.1 c.requires.2 in
    record {
      state = ap (state_by own) (shows c.requires.0 c.requires.1 any) ∙ was.state;
      holds = λ reached held first.
          let now = was.holds reached held first in
          held_over reached (own.rows.swept + 1) [] [] held held own p q now (one.store_invariant (counts_in own) own.batcher.spans held refl most now.sound) (shows reached held now);
      others = λ other ne. one.others_unchanged other (λ e. ne (e ∙ was.same.tenant)) ∙ was.others other ne;
      caches = was.caches;
      same = record { tenant = was.same.tenant; section = was.same.section; clock = was.same.clock; drained = was.same.drained };
    }

pub overflow_add-number : goal.overflow_add-number
overflow_add-number c =
    let own = c.loop-self.self in
    let any = c.loop-self.invariant.holds c.requires.0 c.requires.1 c.requires.2 in
    let some : own.rows.swept < own.rows.first = c.loop-self-test.true in
    let first = any.first_is in
    let few = any.few in
    let most = any.counted.sound.few in
    omega (arith, some, first, few, most)

pub returns-clause-swept : goal.returns-clause-swept
returns-clause-swept c = λ none.
    let own = c.loop-self.self in
    let any = c.loop-self.invariant.holds c.requires.0 c.requires.1 c.requires.2 in
    let order = any.sound.order.swept in
    let done : own.rows.first ≤ own.rows.swept = c.loop-self-test.false in
    (omega (arith, order, done), ap (λ (k : CachesData). k.hits) c.loop-self.invariant.caches ∙ none)
