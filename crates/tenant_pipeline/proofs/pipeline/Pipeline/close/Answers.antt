use Rattle.std.proofs.Common.{◌≡◌, ◌∙◌, ◌+◌, ℕ, [], sym, ap, subst, arith}
use Rattle.drop_ledger.specs.Ledger.{LedgerData}
use Rattle.drop_ledger.specs.Ledger as ledger
use Rattle.span_batcher.specs.Maps.{spans_of}
use Rattle.tenant_stores.specs.Counts.{count, waiting_numbers}
use Rattle.tenant_stores.specs.Invariant.{StoreInvariant}
use Rattle.tenant_pipeline.specs.declared.pipeline.Pipeline.{Pipeline}
use Rattle.tenant_pipeline.specs.StateIn.{counts_in, part_in, policies_of}
use Rattle.tenant_pipeline.specs.Drains.{sampled_keys}
use Rattle.tenant_pipeline.proofs.Closing.{Ended, ends, mid_as}
use Rattle.tenant_pipeline.proofs.Sweeping.{swept_with, swept_same, swept_back}
use Rattle.tenant_pipeline.proofs.pipeline.Pipeline.close.Goals as goal

pub settle_rows-requires : goal.settle_rows-requires
settle_rows-requires c =
    let own = c.args.self.now in
    let mid = c.send_all.new.self in
    let same = mid_as own mid c.send_all.new.leaving.unsent (part_in own c.args.stores.now) c.in-Ok.ensures.on_success.same in
    let sound = subst (λ (x : Pipeline). StoreInvariant (counts_in x) own.batcher.spans [] (part_in x c.args.stores.now)) (sym same) c.requires.holds.sound in
    let opened : mid.rows.opened ≡ own.rows.opened = ap (λ (x : Pipeline). x.rows.opened) same in
    let few = c.requires.holds.few in
    let counted = c.requires.holds.counted.sound.few in
    record { store_invariant = (own.batcher.spans, sound); rows_bounded = omega (arith, opened, few, counted) }

pub take_back-requires : goal.take_back-requires
take_back-requires c =
    let own = c.args.self.now in
    let back = c.send_all.ensures.back own c.of-undo.ensures.back in
    record { ledger_invariant = subst (λ (l : LedgerData). ledger.LedgerInvariant l) (sym back.ledger) c.requires.holds.counted.sound }

ended : (c : goal.After-drop-undo-in-Ok-2) → Ended c.args.moment c.args.self.now (record c.settle_rows.new.self { unsent = c.send_all.new.leaving.unsent }) (part_in c.args.self.now c.args.stores.now) (part_in c.settle_rows.new.self c.flush.new.self)
ended c =
    let own = c.args.self.now in
    let mid = c.send_all.new.self in
    let us = c.send_all.new.leaving.unsent in
    let keys : (key : ℕ) → count key c.as_slice.result.now + count key (spans_of us) ≡ count key own.batcher.spans + count key (sampled_keys (policies_of own) (part_in own c.args.stores.now).rows (waiting_numbers (counts_in own))) = λ key.
    let all = c.in-Ok.ensures.gone key in
    let slice = ap (count key) c.as_slice.ensures.value in
    omega (arith, all, slice) in
    ends own mid c.settle_rows.new.self c.drain.new.self c.args.stores.now c.settle_rows.new.stores c.flush.new.self c.as_slice.result.now us c.args.moment
    c.requires.holds c.requires.drained c.in-Ok.ensures.on_success c.drain.ensures.pending c.in-Ok.ensures.behind c.settle_rows.ensures.only_decided keys c.settle_rows.ensures.store_invariant c.settle_rows.ensures.shows c.settle_rows.ensures.alike c.flush.ensures.store_invariant c.flush.ensures.shows

pub returns-in-Ok-clause-on_success : goal.returns-in-Ok-clause-on_success
returns-in-Ok-clause-on_success c = (ended c).state

pub returns-in-Ok-clause-holds : goal.returns-in-Ok-clause-holds
returns-in-Ok-clause-holds c = (ended c).held

pub returns-in-Ok-clause-others_unchanged : goal.returns-in-Ok-clause-others_unchanged
returns-in-Ok-clause-others_unchanged c = λ other ne.
    let same = mid_as c.args.self.now c.send_all.new.self c.send_all.new.leaving.unsent (part_in c.args.self.now c.args.stores.now) c.in-Ok.ensures.on_success.same in
    let mid : c.send_all.new.self.tenant ≡ c.args.self.now.tenant = ap (λ (x : Pipeline). x.tenant) same in
    let end : c.settle_rows.new.self.tenant ≡ c.args.self.now.tenant = ap (λ (x : Pipeline). x.tenant) c.settle_rows.ensures.only_decided ∙ mid in
    c.flush.ensures.others_unchanged other (λ e. ne (e ∙ end)) ∙ c.settle_rows.ensures.others_unchanged other (λ e. ne (e ∙ mid))

pub returns-in-Err-clause-on_refusal : goal.returns-in-Err-clause-on_refusal
returns-in-Err-clause-on_refusal c = c.take_back.ensures c.args.self.now (c.send_all.ensures.back c.args.self.now c.of-undo.ensures.back)

pub returns-in-Err-clause-tenant : goal.returns-in-Err-clause-tenant
returns-in-Err-clause-tenant c = ap (λ (x : Pipeline). x.tenant) (c.take_back.ensures c.args.self.now (c.send_all.ensures.back c.args.self.now c.of-undo.ensures.back))

pub returns-in-Err-clause-section : goal.returns-in-Err-clause-section
returns-in-Err-clause-section c = ap (λ (x : Pipeline). x.section) (c.take_back.ensures c.args.self.now (c.send_all.ensures.back c.args.self.now c.of-undo.ensures.back))

pub returns-in-Err-clause-clock : goal.returns-in-Err-clause-clock
returns-in-Err-clause-clock c = ap (λ (x : Pipeline). x.clock) (c.take_back.ensures c.args.self.now (c.send_all.ensures.back c.args.self.now c.of-undo.ensures.back))

pub returns-in-Ok-clause-swept : goal.returns-in-Ok-clause-swept
returns-in-Ok-clause-swept c = λ is.
    let mid = c.send_all.new.self in
    let same = mid_as c.args.self.now mid c.send_all.new.leaving.unsent (part_in c.args.self.now c.args.stores.now) c.in-Ok.ensures.on_success.same in
    let first = swept_same c.args.self.now mid (ap (λ (x : Pipeline). x.rows) same) (ap (λ (x : Pipeline). x.caches) same) is in
    let decided = c.settle_rows.ensures.only_decided in
    swept_with mid c.settle_rows.new.self (ap (λ (x : Pipeline). x.rows.swept) decided) (ap (λ (x : Pipeline). x.rows.first) decided) (ap (λ (x : Pipeline). x.caches.hits) decided ∙ first.1) first

pub returns-in-Err-clause-swept : goal.returns-in-Err-clause-swept
returns-in-Err-clause-swept c = λ is. swept_back c.args.self.now c.take_back.new.self (returns-in-Err-clause-on_refusal c) is
