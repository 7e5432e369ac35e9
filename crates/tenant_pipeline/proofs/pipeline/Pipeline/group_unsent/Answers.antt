use Rattle.std.proofs.Common.{◌≡◌, ◌<◌, ◌+◌, ◌∙◌, ◌++◌, List, length, length-append, map, sym, ap, subst, refl, arith, ℕ, Bool, false, leb, Result, Ok, Err}
use Rattle.std.specs.Result.{OnOk, OnErr}
use Rattle.std.proofs.lemmas.Bool.Decides.{nat_tests}
use Rattle.std.proofs.lemmas.Result.{on_ok_weaker}
use Rattle.drop_ledger.specs.Ledger.{LedgerData}
use Rattle.send_queue.specs.Sender.{BatchData}
use Rattle.span_batcher.specs.Batches.{Batch}
use Rattle.span_batcher.specs.State as batcher
use Rattle.span_batcher.specs.Machine.{PlannedData, threshold, cuts, uncut, added}
use Rattle.span_batcher.specs.Maps.{spans_of}
use Rattle.tenant_stores.specs.Counts.{count}
use Rattle.tenant_stores.proofs.Lists.{count-append}
use Rattle.span_batcher.proofs.Maps.{cuts-whole}
use Rattle.tenant_rules.specs.Batching.{all_sent}
use Rattle.tenant_pipeline.specs.declared.pipeline.Pipeline.{Pipeline}
use Rattle.tenant_pipeline.specs.declared.undo.Undo.{Undo}
use Rattle.tenant_pipeline.specs.Undo.{TakesBack}
use Rattle.tenant_pipeline.specs.Outbox.{AreThere, batch_at, Groups, GroupsUnsent}
use Rattle.tenant_pipeline.specs.StateIn.{part_in, written_with}
use Rattle.tenant_pipeline.proofs.Adding.{adds_sends}
use Rattle.tenant_pipeline.proofs.Draining.{back_same}
use Rattle.tenant_pipeline.proofs.Grouping.{added_spans}
use Rattle.tenant_pipeline.proofs.Grouped.{groups_by, undo_by, groups_appended, appended_spans, undo_appended}
use Rattle.tenant_pipeline.proofs.Ranges.{own_sound}
use Rattle.tenant_pipeline.proofs.Sending.{took_none}
use Rattle.tenant_pipeline.proofs.Spans.{there-cuts}
use Rattle.tenant_pipeline.proofs.pipeline.Pipeline.group_unsent.Goals as goal

-- ---- where no batch is filled

-- what holds whatever the result
either : {T E P Q R : Type 0} (r : Result T E) → OnOk r P → OnErr r Q → (P → R) → (Q → R) → R
either (Ok x) p q f g = f p
either (Err x) p q f g = g q

few_in : (fills : Bool) (least pending keys : ℕ) → fills ≡ false → fills ≡ leb least (pending + keys) → pending + keys < least
few_in fills least pending keys none is = let test : leb least (pending + keys) ≡ false = sym is ∙ none in grind (arith, nat_tests, test)

pub append_group-requires-clause-fills_none : goal.append_group-requires-clause-fills_none
append_group-requires-clause-fills_none c =
    few_in c.fills.result (threshold c.args.self.now.batcher.rules) (length c.args.self.now.batcher.spans) (length c.args.keys.now) c.if-not-fills.true c.fills.ensures

pub returns-then-not-fills-clause-on_success : goal.returns-then-not-fills-clause-on_success
returns-then-not-fills-clause-on_success c =
    let own = c.args.self.now in
    let us = c.args.leaving.now.unsent in
    let p = part_in own c.args.stores.now in
    on_ok_weaker c.append_group.result (λ is. subst (λ (o : Pipeline). GroupsUnsent c.args.moment c.args.keys.now p us us own o) (sym is)
    (λ there room. groups_appended (written_with us p own) p c.args.moment c.args.keys.now there c.append_group.ensures.batches (own_sound own c.requires.rules) c.requires.not_empty c.requires.timer c.requires.pending room))
    c.append_group.ensures.on_success

pub returns-then-not-fills-clause-gone : goal.returns-then-not-fills-clause-gone
returns-then-not-fills-clause-gone c =
    let own = c.args.self.now in
    on_ok_weaker c.append_group.result (λ is key.
    let spans = appended_spans own.batcher c.args.moment c.args.keys.now (own_sound own c.requires.rules) (few_in c.fills.result (threshold own.batcher.rules) (length own.batcher.spans) (length c.args.keys.now) c.if-not-fills.true c.fills.ensures) in
    let left = ap (λ (o : Pipeline). count key o.batcher.spans) is ∙ ap (count key) spans in
    let both = count-append key own.batcher.spans c.args.keys.now in
    omega (arith, left, both)) c.append_group.ensures.on_success

pub returns-then-not-fills-clause-back : goal.returns-then-not-fills-clause-back
returns-then-not-fills-clause-back c = λ start back.
    let own = c.args.self.now in
    let spans = appended_spans own.batcher c.args.moment c.args.keys.now (own_sound own c.requires.rules) (few_in c.fills.result (threshold own.batcher.rules) (length own.batcher.spans) (length c.args.keys.now) c.if-not-fills.true c.fills.ensures) in
    either c.append_group.result c.append_group.ensures.on_success c.append_group.ensures.on_refusal
    (λ is. undo_appended own c.args.moment c.args.keys.now c.append_group.new.self is spans c.args.undo.now start back)
    (λ (is : c.append_group.new.self ≡ own). subst (λ (o : Pipeline). TakesBack c.args.undo.now start o) (sym is) back)

pub returns-then-not-fills-clause-offers : goal.returns-then-not-fills-clause-offers
returns-then-not-fills-clause-offers c =
    let own = c.args.self.now in
    let few = c.requires.offers in
    let queue : length c.append_group.new.self.sender.queue ≡ length own.sender.queue =
    either c.append_group.result c.append_group.ensures.on_success c.append_group.ensures.on_refusal
    (λ is. ap (λ (o : Pipeline). length o.sender.queue) is) (λ (is : c.append_group.new.self ≡ own). ap (λ (o : Pipeline). length o.sender.queue) is) in
    omega (arith, few, queue)

pub returns-then-not-fills-clause-sender : goal.returns-then-not-fills-clause-sender
returns-then-not-fills-clause-sender c =
    either c.append_group.result c.append_group.ensures.on_success c.append_group.ensures.on_refusal
    (λ is. ap (λ (o : Pipeline). o.sender) is) (λ (is : c.append_group.new.self ≡ c.args.self.now). ap (λ (o : Pipeline). o.sender) is)

pub returns-then-not-fills-clause-weighed : goal.returns-then-not-fills-clause-weighed
returns-then-not-fills-clause-weighed c = on_ok_weaker c.append_group.result (λ is. c.requires.weighed) c.append_group.ensures.on_success

-- ---- where one is

pub add_all-requires : goal.add_all-requires
add_all-requires c =
    let own = c.args.self.now in
    let r = own.batcher.rules in
    let all = own.batcher.spans ++ c.args.keys.now in
    let bs = c.batches.ensures ∙ c.in_ok-planned.ensures.batches in
    let size = ap (λ (b : List (Batch ℕ)). length (spans_of b)) bs in
    let whole = ap length (cuts-whole r c.args.moment all) in
    let parts = length-append (spans_of (cuts r c.args.moment all)) (uncut r all) in
    let both = length-append own.batcher.spans c.args.keys.now in
    let ledger = ap (λ (l : LedgerData). l.places.pending) c.move_spans.ensures in
    let pending = c.requires.pending in
    record { pending = omega (arith, size, whole, parts, both, ledger, pending); weighed = c.requires.weighed }

pub returns-in_err-add_all-clause-back : goal.returns-in_err-add_all-clause-back
returns-in_err-add_all-clause-back c = λ start back.
    let own = c.args.self.now in
    let new : Pipeline = record own { ledger = c.add_all.new.ledger } in
    back_same c.args.undo.now start own new refl back

pub note-requires : goal.note-requires
note-requires c =
    let few = c.requires.offers in
    let most = c.requires.few in
    omega (arith, few, most)

pub returns-clause-on_success : goal.returns-clause-on_success
returns-clause-on_success c = λ there room.
    let own = c.args.self.now in
    let p = part_in own c.args.stores.now in
    let us = c.args.leaving.now.unsent in
    let us' = c.add_all.new.self.unsent in
    let l' : LedgerData = c.add_all.new.ledger in
    let bs : List (Batch ℕ) = c.batches.result.now in
    let planned : PlannedData ℕ = c.in_ok-planned.planned in
    let bs_are : bs ≡ cuts own.batcher.rules c.args.moment (own.batcher.spans ++ c.args.keys.now) = c.batches.ensures ∙ c.in_ok-planned.ensures.batches in
    let sent : List BatchData = all_sent (map (batch_at p) bs) in
    let there' : AreThere p (spans_of bs) = subst (λ (b : List (Batch ℕ)). AreThere p (spans_of b)) (sym bs_are) (there-cuts p own.batcher.rules c.args.moment (own.batcher.spans ++ c.args.keys.now) there) in
    let mid : Pipeline = record own { ledger = l' } in
    let is : c.exchange.new.self ≡ added c.args.moment c.args.keys.now own.batcher = c.exchange.ensures.pending ∙ c.in_ok-planned.ensures.pending in
    let n : ℕ = length c.args.keys.now in
    let sends = adds_sends p own bs c.args.leaving.now c.add_all.new.self n c.move_spans.new.self l' c.move_spans.ensures c.in_ok-add_all.ensures there' in
    subst (λ (b : batcher.State ℕ). let new : Pipeline = record mid { batcher = b } in Groups c.args.moment c.args.keys.now p (written_with us p own) (written_with us' p new)) (sym is)
    (groups_by (written_with us p own) (written_with us' p mid) p c.args.moment c.args.keys.now sent there (ap (λ (b : List (Batch ℕ)). all_sent (map (batch_at p) b)) bs_are) sends refl c.in_ok-add_all.ensures.room
    (own_sound own c.requires.rules) c.requires.not_empty c.requires.timer c.requires.pending room)

pub returns-clause-gone : goal.returns-clause-gone
returns-clause-gone c = λ key.
    let own = c.args.self.now in
    let r = own.batcher.rules in
    let all = own.batcher.spans ++ c.args.keys.now in
    let bs_are : c.batches.result.now ≡ cuts r c.args.moment all = c.batches.ensures ∙ c.in_ok-planned.ensures.batches in
    let is : c.exchange.new.self ≡ added c.args.moment c.args.keys.now own.batcher = c.exchange.ensures.pending ∙ c.in_ok-planned.ensures.pending in
    let left = ap (count key) (ap (λ (b : batcher.State ℕ). b.spans) is ∙ added_spans c.args.moment c.args.keys.now own.batcher) in
    let cut = ap (λ (b : List (Batch ℕ)). count key (spans_of b)) bs_are in
    let whole = ap (count key) (cuts-whole r c.args.moment all) in
    let parts = count-append key (spans_of (cuts r c.args.moment all)) (uncut r all) in
    let both = count-append key own.batcher.spans c.args.keys.now in
    let more = c.in_ok-add_all.ensures.gone key in
    omega (arith, left, cut, whole, parts, both, more)

pub returns-clause-back : goal.returns-clause-back
returns-clause-back c = λ start back.
    let own = c.args.self.now in
    let mid : Pipeline = record own { ledger = c.add_all.new.ledger } in
    let is : c.exchange.new.self ≡ added c.args.moment c.args.keys.now own.batcher = c.exchange.ensures.pending ∙ c.in_ok-planned.ensures.pending in
    let former = c.exchange.ensures.former in
    let v = c.note.new.self in
    let noted = c.note.ensures in
    let start_is : (c.exchange.new.planned).start ≡ own.batcher.start = ap (λ (x : PlannedData ℕ). x.start) former in
    let spans_is : (c.exchange.new.planned).spans ≡ own.batcher.spans = ap (λ (x : PlannedData ℕ). x.spans) former in
    subst (λ (b : batcher.State ℕ). let new : Pipeline = record mid { batcher = b } in TakesBack v start new) (sym is)
    (undo_by own mid c.args.moment c.args.keys.now 0 refl (took_none own.sender)
    c.exchange.new.planned c.args.undo.now v start_is spans_is (ap (λ (u : Undo). u.rows) noted) (ap (λ (u : Undo). u.counters) noted) (ap (λ (u : Undo). u.mark) noted) (ap (λ (u : Undo). u.former) noted) (ap (λ (u : Undo). u.offers) noted) start back)

pub returns-clause-offers : goal.returns-clause-offers
returns-clause-offers c =
    let few = c.requires.offers in
    let noted = ap (λ (u : Undo). u.offers) c.note.ensures in
    omega (arith, few, noted)

pub returns-clause-weighed : goal.returns-clause-weighed
returns-clause-weighed c = c.in_ok-add_all.ensures.weighed
