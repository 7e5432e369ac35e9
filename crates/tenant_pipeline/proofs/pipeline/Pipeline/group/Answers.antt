use Rattle.std.proofs.Common.{◌≡◌, ◌<◌, ◌+◌, ◌∙◌, ◌++◌, List, length, length-append, sym, ap, subst, arith, ℕ, Bool, false, leb, Result, Ok, Err}
use Rattle.std.specs.Result.{OnOk, OnErr}
use Rattle.std.proofs.lemmas.Bool.Decides.{nat_tests}
use Rattle.std.proofs.lemmas.Result.{on_ok_weaker}
use Rattle.send_queue.specs.Sender.{BatchData}
use Rattle.tail_settings.specs.SendingQueue.{SendingQueueData}
use Rattle.span_batcher.specs.Batches.{Batch}
use Rattle.span_batcher.specs.State as batcher
use Rattle.span_batcher.specs.Machine.{PlannedData, threshold, cuts, uncut, added, taken}
use Rattle.span_batcher.specs.Maps.{spans_of}
use Rattle.tenant_stores.specs.Counts.{count}
use Rattle.tenant_stores.proofs.Lists.{count-append}
use Rattle.span_batcher.proofs.Maps.{cuts-whole}
use Rattle.tenant_pipeline.specs.declared.pipeline.Pipeline.{Pipeline}
use Rattle.tenant_pipeline.specs.declared.undo.Undo.{Undo}
use Rattle.tenant_pipeline.specs.Undo.{TakesBack}
use Rattle.tenant_pipeline.specs.StateIn.{part_in, unsent_at}
use Rattle.tenant_pipeline.specs.Outbox.{AreThere, Groups}
use Rattle.tenant_pipeline.proofs.Grouping.{added_spans}
use Rattle.tenant_pipeline.proofs.Grouped.{groups_by, undo_by, groups_appended, appended_spans, undo_appended}
use Rattle.tenant_pipeline.proofs.Ranges.{own_sound, queue_short}
use Rattle.tenant_pipeline.proofs.Spans.{there-cuts}
use Rattle.tenant_pipeline.proofs.pipeline.Pipeline.group.Goals as goal

-- ---- where no batch is filled

-- what holds whatever the result
either : {T E P Q R : Type 0} (r : Result T E) → OnOk r P → OnErr r Q → (P → R) → (Q → R) → R
either (Ok x) p q f g = f p
either (Err x) p q f g = g q

few_in : (fills : Bool) (least pending keys : ℕ) → fills ≡ false → fills ≡ leb least (pending + keys) → pending + keys < least
few_in fills least pending keys none is = let test : leb least (pending + keys) ≡ false = sym is ∙ none in grind (arith, nat_tests, test)

pub append_group-requires-clause-fills_none : goal.append_group-requires-clause-fills_none
append_group-requires-clause-fills_none c =
    few_in c.fills.result (threshold c.args.self.now.batcher.rules) (length c.args.self.now.batcher.spans) (length c.args.keys.now) c.if-not-fills.true c.fills.ensures

pub returns-then-not-fills-clause-on_success : goal.returns-then-not-fills-clause-on_success
returns-then-not-fills-clause-on_success c =
    let own = c.args.self.now in
    let p = part_in own c.args.stores.now in
    on_ok_weaker c.append_group.result (λ is. subst (λ (o : Pipeline). Groups c.args.moment c.args.keys.now p own o) (sym is)
    (groups_appended own p c.args.moment c.args.keys.now c.requires.there c.append_group.ensures.batches (own_sound own c.requires.rules) c.requires.not_empty c.requires.timer c.requires.pending c.requires.room))
    c.append_group.ensures.on_success

pub returns-then-not-fills-clause-gone : goal.returns-then-not-fills-clause-gone
returns-then-not-fills-clause-gone c =
    let own = c.args.self.now in
    on_ok_weaker c.append_group.result (λ is key.
    let spans = appended_spans own.batcher c.args.moment c.args.keys.now (own_sound own c.requires.rules) (few_in c.fills.result (threshold own.batcher.rules) (length own.batcher.spans) (length c.args.keys.now) c.if-not-fills.true c.fills.ensures) in
    let left = ap (λ (o : Pipeline). count key o.batcher.spans) is ∙ ap (count key) spans in
    let both = count-append key own.batcher.spans c.args.keys.now in
    omega (arith, left, both)) c.append_group.ensures.on_success

pub returns-then-not-fills-clause-back : goal.returns-then-not-fills-clause-back
returns-then-not-fills-clause-back c = λ start back.
    let own = c.args.self.now in
    let spans = appended_spans own.batcher c.args.moment c.args.keys.now (own_sound own c.requires.rules) (few_in c.fills.result (threshold own.batcher.rules) (length own.batcher.spans) (length c.args.keys.now) c.if-not-fills.true c.fills.ensures) in
    either c.append_group.result c.append_group.ensures.on_success c.append_group.ensures.on_refusal
    (λ is. undo_appended own c.args.moment c.args.keys.now c.append_group.new.self is spans c.args.undo.now start back)
    (λ (is : c.append_group.new.self ≡ own). subst (λ (o : Pipeline). TakesBack c.args.undo.now start o) (sym is) back)

pub returns-then-not-fills-clause-offers : goal.returns-then-not-fills-clause-offers
returns-then-not-fills-clause-offers c =
    let own = c.args.self.now in
    let few = c.requires.offers in
    let queue : length c.append_group.new.self.sender.queue ≡ length own.sender.queue =
    either c.append_group.result c.append_group.ensures.on_success c.append_group.ensures.on_refusal
    (λ is. ap (λ (o : Pipeline). length o.sender.queue) is) (λ (is : c.append_group.new.self ≡ own). ap (λ (o : Pipeline). length o.sender.queue) is) in
    omega (arith, few, queue)

-- ---- where one is

pub returns-in-Ok-clause-offers : goal.returns-in-Ok-clause-offers
returns-in-Ok-clause-offers c =
    let few = c.requires.offers in
    let noted = ap (λ (u : Undo). u.offers) c.note.ensures in
    let count = c.in-Ok.ensures.took.count in
    omega (arith, few, noted, count)

pub offer_group-requires-clause-there : goal.offer_group-requires-clause-there
offer_group-requires-clause-there c =
    let own = c.args.self.now in
    let p = part_in own c.args.stores.now in
    let bs = c.batches-2.ensures ∙ c.in_ok-planned.ensures.batches in
    subst (λ (b : List (Batch ℕ)). AreThere p (spans_of b)) (sym bs) (there-cuts p own.batcher.rules c.args.moment (own.batcher.spans ++ c.args.keys.now) c.requires.there)

pub offer_group-requires-clause-pending : goal.offer_group-requires-clause-pending
offer_group-requires-clause-pending c =
    let own = c.args.self.now in
    let r = own.batcher.rules in
    let all = own.batcher.spans ++ c.args.keys.now in
    let bs = c.batches-2.ensures ∙ c.in_ok-planned.ensures.batches in
    let size = ap (λ (b : List (Batch ℕ)). length (spans_of b)) bs in
    let whole = ap length (cuts-whole r c.args.moment all) in
    let parts = length-append (spans_of (cuts r c.args.moment all)) (uncut r all) in
    let both = length-append own.batcher.spans c.args.keys.now in
    let pending = c.requires.pending in
    omega (arith, size, whole, parts, both, pending)

pub returns-in-Ok-clause-on_success : goal.returns-in-Ok-clause-on_success
returns-in-Ok-clause-on_success c =
    let own = c.args.self.now in
    let mid = c.offer_group.new.self in
    let p = part_in own c.args.stores.now in
    let made = c.in_ok-planned.ensures in
    let planned : PlannedData ℕ = c.in_ok-planned.planned in
    let sent : List BatchData = unsent_at p c.batches-2.result.now in
    let sent_are = ap (λ (bs : List (Batch ℕ)). unsent_at p bs) (c.batches-2.ensures ∙ made.batches) in
    let kept : mid.batcher ≡ own.batcher = ap (λ (x : Pipeline). x.batcher) c.in-Ok.ensures.on_success.same in
    let is : c.exchange.new.self ≡ added c.args.moment c.args.keys.now own.batcher = c.exchange.ensures.pending ∙ (ap (taken planned) kept ∙ made.pending) in
    subst (λ (b : batcher.State ℕ). let new : Pipeline = record mid { batcher = b } in Groups c.args.moment c.args.keys.now p own new) (sym is)
    (groups_by own mid p c.args.moment c.args.keys.now sent c.requires.there sent_are c.in-Ok.ensures.on_success c.in-Ok.ensures.took.settings c.in-Ok.ensures.took.room
    (own_sound own c.requires.rules) c.requires.not_empty c.requires.timer c.requires.pending c.requires.room)

pub note-requires : goal.note-requires
note-requires c =
    let own = c.args.self.now in
    let took = c.in-Ok.ensures.took in
    let room = c.requires.room in
    let short = queue_short own room in
    let more = (took.room room.fits).few in
    let setting = ap (λ (x : SendingQueueData). x.queue_size) took.settings in
    let count = took.count in
    let few = c.requires.offers in
    let size = room.size in
    let range = own.section.sending_queue.queue_size_range in
    omega (arith, more, setting, count, few, size, range.1)

pub returns-in-Ok-clause-gone : goal.returns-in-Ok-clause-gone
returns-in-Ok-clause-gone c = λ key.
    let own = c.args.self.now in
    let mid = c.offer_group.new.self in
    let r = own.batcher.rules in
    let all = own.batcher.spans ++ c.args.keys.now in
    let made = c.in_ok-planned.ensures in
    let planned : PlannedData ℕ = c.in_ok-planned.planned in
    let kept : mid.batcher ≡ own.batcher = ap (λ (x : Pipeline). x.batcher) c.in-Ok.ensures.on_success.same in
    let is : c.exchange.new.self ≡ added c.args.moment c.args.keys.now own.batcher = c.exchange.ensures.pending ∙ (ap (taken planned) kept ∙ made.pending) in
    let left = ap (count key) (ap (λ (b : batcher.State ℕ). b.spans) is ∙ added_spans c.args.moment c.args.keys.now own.batcher) in
    let cut = ap (count key) (c.in_ok-gone.ensures ∙ ap spans_of (c.batches.ensures ∙ made.batches)) in
    let whole = ap (count key) (cuts-whole r c.args.moment all) in
    let parts = count-append key (spans_of (cuts r c.args.moment all)) (uncut r all) in
    let both = count-append key own.batcher.spans c.args.keys.now in
    let gone = ap (count key) c.in_ok-append.ensures.items in
    let more = count-append key c.args.undo.now.gone.items c.in_ok-gone.gone.items in
    let noted = ap (λ (u : Undo). count key u.gone.items) c.note.ensures in
    omega (arith, left, cut, whole, parts, both, gone, more, noted)

pub returns-in-Ok-clause-back : goal.returns-in-Ok-clause-back
returns-in-Ok-clause-back c = λ start back.
    let own = c.args.self.now in
    let mid = c.offer_group.new.self in
    let made = c.in_ok-planned.ensures in
    let planned : PlannedData ℕ = c.in_ok-planned.planned in
    let kept : mid.batcher ≡ own.batcher = ap (λ (x : Pipeline). x.batcher) c.in-Ok.ensures.on_success.same in
    let is : c.exchange.new.self ≡ added c.args.moment c.args.keys.now own.batcher = c.exchange.ensures.pending ∙ (ap (taken planned) kept ∙ made.pending) in
    let former = c.exchange.ensures.former in
    let v = c.note.new.self in
    let noted = c.note.ensures in
    let start_is : (c.exchange.new.planned).start ≡ own.batcher.start = ap (λ (x : PlannedData ℕ). x.start) former ∙ ap (λ (b : batcher.State ℕ). b.start) kept in
    let spans_is : (c.exchange.new.planned).spans ≡ own.batcher.spans = ap (λ (x : PlannedData ℕ). x.spans) former ∙ ap (λ (b : batcher.State ℕ). b.spans) kept in
    subst (λ (b : batcher.State ℕ). let new : Pipeline = record mid { batcher = b } in TakesBack v start new) (sym is)
    (undo_by own mid c.args.moment c.args.keys.now c.in-Ok.offers c.in-Ok.ensures.on_success.same c.in-Ok.ensures.took
    c.exchange.new.planned c.args.undo.now v start_is spans_is (ap (λ (u : Undo). u.rows) noted) (ap (λ (u : Undo). u.counters) noted) (ap (λ (u : Undo). u.mark) noted) (ap (λ (u : Undo). u.former) noted) (ap (λ (u : Undo). u.offers) noted) start back)
