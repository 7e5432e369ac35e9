use Rattle.std.proofs.Common.{◌≡◌, ◌≢◌, ◌∙◌, ℕ, List, [], sym, subst}
use Rattle.decision_cache.specs.Caches.{CachesData}
use Rattle.drop_ledger.specs.Ledger.{LedgerData, LedgerInvariant}
use Rattle.span_pool.specs.Stored.{OwnedKeys}
use Rattle.tail_policy.specs.declared.note.TraceNote.{TraceNote}
use Rattle.tenant_stores.specs.Part.{Part, part}
use Rattle.tenant_stores.specs.Trail.{HoldsAll}
use Rattle.tenant_pipeline.specs.declared.pipeline.Pipeline.{Pipeline}
use Rattle.tenant_pipeline.specs.Invariant.{PipelineInvariantAt}
use Rattle.tenant_pipeline.specs.Posts.{all_keys, all_text_keys, held_keys, IsSameTenant}
use Rattle.tenant_pipeline.specs.StateIn.{part_in}
use Rattle.tenant_pipeline.specs.Undo.{TakesBack}
use Rattle.tenant_pipeline.proofs.Hits.{none_written, same_cached, shown_held, shown_is}
use Rattle.tenant_pipeline.proofs.Holds.{none_held_keys}
use Rattle.tenant_pipeline.proofs.Posting.{itself, left_spans, on_err, same_tenant}
use Rattle.tenant_pipeline.proofs.pipeline.Pipeline.take_spans.Goals as goal

pub admit_all-requires-clause-posting : goal.admit_all-requires-clause-posting
admit_all-requires-clause-posting c = record {
  holds = subst (λ (gone : List ℕ). PipelineInvariantAt c.args.moment gone (held_keys c.args.held.now) c.args.self.now (part_in c.args.self.now c.args.stores.now)) (sym c.in_ok-journal.ensures.gone)
      (subst (λ (ks : List OwnedKeys). PipelineInvariantAt c.args.moment [] (all_text_keys (all_keys ks)) c.args.self.now (part_in c.args.self.now c.args.stores.now)) (sym c.requires.none) c.requires.holds);
  quiet = c.requires.quiet;
  offers = c.in_ok-journal.ensures.back.offers;
}

pub returns-in_err-journal-clause-part_on_refusal : goal.returns-in_err-journal-clause-part_on_refusal
returns-in_err-journal-clause-part_on_refusal c =
    let p = part_in c.args.self.now c.args.stores.now in
    on_err c.from_residual.result (none_held_keys c.args.held.now p c.requires.none)

pub sweep-requires : goal.sweep-requires
sweep-requires c =
    let mid = c.admit_all.new.self in
    let held = held_keys c.admit_all.new.held in
    let left = left_spans c.args.moment c.admit_all.new.journal c.as_slice.result.now held mid (part_in mid c.admit_all.new.stores) (part_in mid c.flush.new.self) c.as_slice.ensures.value c.in-Ok.ensures.posting c.flush.ensures.store_invariant c.flush.ensures.shows in
    (c.args.moment, held, shown_held mid (part_in mid c.flush.new.self) c.commit.new.self c.commit.ensures.shown c.args.moment [] held left.1)

pub returns-in-Ok-clause-on_success : goal.returns-in-Ok-clause-on_success
returns-in-Ok-clause-on_success c =
    let mid = c.admit_all.new.self in
    let held = held_keys c.admit_all.new.held in
    let left = left_spans c.args.moment c.admit_all.new.journal c.as_slice.result.now held mid (part_in mid c.admit_all.new.stores) (part_in mid c.flush.new.self) c.as_slice.ensures.value c.in-Ok.ensures.posting c.flush.ensures.store_invariant c.flush.ensures.shows in
    c.sweep.ensures.state ∙ (shown_is mid (part_in mid c.flush.new.self) c.commit.new.self c.commit.ensures.shown ∙ (left.0 ∙ c.in-Ok.ensures.on_success))

pub returns-in-Ok-clause-holds : goal.returns-in-Ok-clause-holds
returns-in-Ok-clause-holds c =
    let mid = c.admit_all.new.self in
    let held = held_keys c.admit_all.new.held in
    let left = left_spans c.args.moment c.admit_all.new.journal c.as_slice.result.now held mid (part_in mid c.admit_all.new.stores) (part_in mid c.flush.new.self) c.as_slice.ensures.value c.in-Ok.ensures.posting c.flush.ensures.store_invariant c.flush.ensures.shows in
    c.sweep.ensures.holds c.args.moment held (shown_held mid (part_in mid c.flush.new.self) c.commit.new.self c.commit.ensures.shown c.args.moment [] held left.1)

pub returns-in-Ok-clause-others_unchanged : goal.returns-in-Ok-clause-others_unchanged
returns-in-Ok-clause-others_unchanged c = λ other ne.
    let same = c.in-Ok.ensures.same in
    let also : other ≢ c.admit_all.new.self.tenant = λ e. ne (e ∙ same.tenant) in
    c.sweep.ensures.others_unchanged other also ∙ (c.flush.ensures.others_unchanged other also ∙ c.in-Ok.ensures.others_unchanged other ne)

pub returns-in-Ok-clause-swept : goal.returns-in-Ok-clause-swept
returns-in-Ok-clause-swept c = c.sweep.ensures.swept c.commit.ensures.none

pub returns-in-Ok-clause-same : goal.returns-in-Ok-clause-same
returns-in-Ok-clause-same c =
    let mid = c.admit_all.new.self in
    let committed : Pipeline = record mid { caches = c.commit.new.self } in
    same_tenant c.args.self.now committed c.sweep.new.self (same_cached c.args.self.now mid c.commit.new.self c.in-Ok.ensures.same) c.sweep.ensures.same

pub take_back-requires : goal.take_back-requires
take_back-requires c =
    let own = c.args.self.now in
    let p = part_in own c.args.stores.now in
    let made = c.in_ok-journal.ensures in
    let start = none_written c.in_ok-journal.journal own p made.none made.back made.hits in
    let now = c.in-Err.ensures.written own p (record { first = p; holds = none_held_keys c.args.held.now p c.requires.none; written = start }) in
    let written = now.written in
    record { ledger_invariant = subst (λ (l : LedgerData). LedgerInvariant l) (sym written.undo.ledger) c.requires.holds.counted.sound }

pub returns-in-Err-clause-on_refusal : goal.returns-in-Err-clause-on_refusal
returns-in-Err-clause-on_refusal c =
    let own = c.args.self.now in
    let p = part_in own c.args.stores.now in
    let made = c.in_ok-journal.ensures in
    let start = none_written c.in_ok-journal.journal own p made.none made.back made.hits in
    let now = c.in-Err.ensures.written own p (record { first = p; holds = none_held_keys c.args.held.now p c.requires.none; written = start }) in
    let written = now.written in
    let mid = c.admit_all.new.self in
    let undo = c.admit_all.new.journal.undo in
    c.take_back.ensures own (subst (λ (k : CachesData). let o : Pipeline = record mid { caches = k } in TakesBack undo own o) (sym c.undo_hits.ensures) written.undo)

pub returns-in-Err-clause-part_on_refusal : goal.returns-in-Err-clause-part_on_refusal
returns-in-Err-clause-part_on_refusal c =
    let own = c.args.self.now in
    let p = part_in own c.args.stores.now in
    let made = c.in_ok-journal.ensures in
    let start = none_written c.in_ok-journal.journal own p made.none made.back made.hits in
    let now = c.in-Err.ensures.written own p (record { first = p; holds = none_held_keys c.args.held.now p c.requires.none; written = start }) in
    let same = c.in-Err.ensures.same in
    let keys = held_keys c.admit_all.new.held in
    let back : part c.admit_all.new.self.tenant c.take_all_back.new.self ≡ now.first = c.take_all_back.ensures.back now.first now.written.trail in
    subst (λ (t : ℕ). HoldsAll keys p (part t c.take_all_back.new.self)) same.tenant (subst (λ (q : Part TraceNote). HoldsAll keys p q) (sym back) now.holds)

pub returns-in-Err-clause-others_unchanged : goal.returns-in-Err-clause-others_unchanged
returns-in-Err-clause-others_unchanged c = λ other ne.
    let same = c.in-Err.ensures.same in
    let also : other ≢ c.admit_all.new.self.tenant = λ e. ne (e ∙ same.tenant) in
    c.take_all_back.ensures.others_unchanged other also ∙ c.in-Err.ensures.others_unchanged other ne

pub returns-in-Err-clause-same : goal.returns-in-Err-clause-same
returns-in-Err-clause-same c =
    let own = c.args.self.now in
    subst (λ (o : Pipeline). IsSameTenant own o) (sym (returns-in-Err-clause-on_refusal c)) (itself own)
