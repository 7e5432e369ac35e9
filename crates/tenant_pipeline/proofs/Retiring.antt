-- A tenant that is told its last report has no span that waits for a batch.
use Rattle.std.proofs.Common.{◌≡◌, ◌++◌, ℕ, List, [], ◌∷◌, length, refl, arith, Bool, true, false, cond, eqb}
use Rattle.std.specs.Prelude.{◌&&◌}
use Rattle.std.proofs.lemmas.Bool.Decides.{nat_tests}
use Rattle.span_batcher.specs.Maps.{spans_of}
use Rattle.drop_ledger.specs.Ledger.{LedgerData}
use Rattle.drop_ledger.specs.Report.{report_text}
use Rattle.tail_policy.specs.declared.note.TraceNote.{TraceNote}
use Rattle.tenant_stores.specs.Part.{Part}
use Rattle.tenant_rules.specs.declared.reply.StepReply.TheVariants as replies
use Rattle.tenant_rules.specs.Retiring.{holds_none, retire_told}
use Rattle.tenant_pipeline.specs.declared.pipeline.Pipeline.{Pipeline}
use Rattle.tenant_pipeline.specs.StateIn.{counts_in, unsent_at}
use Rattle.tenant_pipeline.specs.Invariant.{PipelineInvariantAt, PipelineInvariantFrom}
use Rattle.tenant_pipeline.proofs.Spans.{there-front, there-back}
use Rattle.tenant_pipeline.proofs.Unwritten.{named_there, there_size, unsent_sizes}
use Rattle.tenant_rules.proofs.Tally.{sizes-append}

-- of four tests that all hold, the second does
second_of : (a b c d : Bool) → (a && b && c && d) ≡ true → b ≡ true
second_of true true c d all = refl
second_of true false c d all = absurd (cc)
second_of false b c d all = absurd (cc)

both : (a b : Bool) → (a && b) ≡ true → b ≡ true
both true b all = all
both false b all = absurd (cc)

-- and the third
third_of : (a b c d : Bool) → (a && b && c && d) ≡ true → c ≡ true
third_of true true true d all = refl
third_of true true false d all = absurd (cc)
third_of true false c d all = absurd (cc)
third_of false b c d all = absurd (cc)

-- what is told a report passed its test
passed : (b : Bool) (text last : List ℕ) → (cond b (replies.Report text) replies.NotEmpty) ≡ replies.Report last → b ≡ true
passed true text last told = refl
passed false text last told = absurd (cc)

zero_of : (n : ℕ) → eqb n 0 ≡ true → n ≡ 0
zero_of n is = grind (arith, nat_tests, is)

-- then nothing is counted as pending
pub none_counted : (drained : Bool) (l : LedgerData) (text : List ℕ) → retire_told drained l ≡ replies.Report text → l.places.pending ≡ 0
none_counted drained l text told =
    let places = l.places in
    let all = passed (drained && holds_none places) (report_text l) text told in
    zero_of places.pending (second_of (eqb places.undecided 0) (eqb places.pending 0) (eqb places.queued 0) (eqb places.active 0) (both drained (holds_none places) all))

-- nor as queued
pub none_queued : (drained : Bool) (l : LedgerData) (text : List ℕ) → retire_told drained l ≡ replies.Report text → l.places.queued ≡ 0
none_queued drained l text told =
    let places = l.places in
    let all = passed (drained && holds_none places) (report_text l) text told in
    zero_of places.queued (third_of (eqb places.undecided 0) (eqb places.pending 0) (eqb places.queued 0) (eqb places.active 0) (both drained (holds_none places) all))

none_long : (keys : List ℕ) → length keys ≡ 0 → keys ≡ []
none_long [] none = refl
none_long (key ∷ keys) none = absurd (omega (arith, none))

-- and no key waits, since each shows a span
pub none_pending : (reached : ℕ) (gone : List ℕ) (own : Pipeline) (p : Part TraceNote) → PipelineInvariantAt reached gone [] own p → own.ledger.places.pending ≡ 0 → own.batcher.spans ≡ []
none_pending reached gone own p held none =
    let keys = own.batcher.spans in
    let size = there_size p keys (there-back p gone keys (named_there (counts_in own) (gone ++ keys) [] p held.sound)) in
    let pending = held.counted.pending_is in
    none_long keys (omega (arith, size, pending, none))

-- nor does one in a batch that isn't written
pub none_unsent : (reached : ℕ) (own : Pipeline) (p : Part TraceNote) → PipelineInvariantFrom reached own p → own.ledger.places.queued ≡ 0 → spans_of own.unsent ≡ []
none_unsent reached own p held none =
    let keys = spans_of own.unsent in
    let whole = held.whole in
    let there = there-front p keys own.batcher.spans (named_there (counts_in own) (keys ++ own.batcher.spans) [] p whole.sound) in
    let size = unsent_sizes p own.unsent there in
    let queued = whole.counted.queued_is in
    let all = sizes-append own.sender.queue (unsent_at p own.unsent) in
    none_long keys (omega (arith, size, queued, all, none))
