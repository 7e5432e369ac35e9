use Rattle.std.proofs.Common.{◌≡◌, ◌∙◌, ◌+◌, List, [], length, sym, ap, subst, refl, arith, rules, ℕ, Option, Some}
use Rattle.span_batcher.specs.Batches.{Batch}
use Rattle.span_batcher.specs.State.{next_due}
use Rattle.tenant_stores.specs.Counts.{count}
use Rattle.tenant_stores.specs.Part.{part}
use Rattle.tenant_rules.specs.Timers.{queued, flushed}
use Rattle.tenant_pipeline.specs.declared.pipeline.Pipeline.{Pipeline}
use Rattle.tenant_pipeline.specs.StateIn.{counts_in, written_state_in}
use Rattle.tenant_pipeline.specs.Invariant.{WrittenInvariant}
use Rattle.tenant_pipeline.specs.Outbox.{AreThere, sent_at, Sends}
use Rattle.tenant_pipeline.proofs.Deciding.{flush_all}
use Rattle.tenant_pipeline.proofs.Unwritten.{named_there, there_size}
use Rattle.tenant_stores.proofs.Held.{on_err}
use Rattle.tenant_pipeline.proofs.pipeline.Pipeline.flush.Goals as goal

pub offer-requires-clause-there : goal.offer-requires-clause-there
offer-requires-clause-there c =
    let own = c.args.self.now in
    let p = part own.tenant c.args.stores.now in
    subst (λ (ks : List ℕ). AreThere p ks) (sym c.spans.ensures) (named_there (counts_in own) own.batcher.spans [] p c.requires.invariant.sound)

pub offer-requires-clause-pending : goal.offer-requires-clause-pending
offer-requires-clause-pending c =
    let own = c.args.self.now in
    let p = part own.tenant c.args.stores.now in
    let pending = c.requires.invariant.counted.pending_is in
    let many = there_size p own.batcher.spans (named_there (counts_in own) own.batcher.spans [] p c.requires.invariant.sound) in
    let keys = ap length c.spans.ensures in
    omega (arith, pending, many, keys)

pub returns-in_err-offer-clause-on_refusal : goal.returns-in_err-offer-clause-on_refusal
returns-in_err-offer-clause-on_refusal c =
    let own = c.args.self.now in
    let mid : Pipeline = record own { sender = c.offer.new.sender; ledger = c.offer.new.ledger } in
    let same : mid ≡ own = λ i. record own { sender = c.in_err-offer.ensures.on_refusal i; ledger = c.in_err-offer.ensures.ledger_on_refusal i } in
    on_err c.from_residual.result (ap (λ (x : Pipeline). written_state_in x c.args.stores.now) same)

pub returns-in_err-offer-clause-invariant : goal.returns-in_err-offer-clause-invariant
returns-in_err-offer-clause-invariant c =
    let own = c.args.self.now in
    let mid : Pipeline = record own { sender = c.offer.new.sender; ledger = c.offer.new.ledger } in
    let same : mid ≡ own = λ i. record own { sender = c.in_err-offer.ensures.on_refusal i; ledger = c.in_err-offer.ensures.ledger_on_refusal i } in
    subst (λ (x : Pipeline). WrittenInvariant x c.args.stores.now) (sym same) c.requires.invariant

pub returns : goal.returns
returns c =
    let own = c.args.self.now in
    let p = part own.tenant c.args.stores.now in
    let q = part own.tenant c.flush.new.self in
    let mid : Pipeline = record own { sender = c.offer.new.sender; ledger = c.offer.new.ledger } in
    let due = c.in-Some.due in
    let due_is : next_due own.batcher ≡ Some due = sym c.in-Some.ensures in
    let sends : Sends (queued (sent_at due own.batcher.spans p)) own mid = record {
      rules = λ s sender ledger. ap (λ (ks : List ℕ). queued (sent_at due ks p) s) (sym c.spans.ensures) ∙ c.in_ok-offer.ensures.on_success s sender ledger;
      same = refl;
    } in
    let made = c.fire-fired.ensures.batch due due_is in
    let gone : c.spans-2.result.now ≡ own.batcher.spans = c.spans-2.ensures ∙ ap (λ (b : Batch ℕ). b.spans) made in
    let all : (key : ℕ) → count key c.spans-2.result.now + count key [] ≡ count key own.batcher.spans = λ key. let e = ap (count key) gone in omega (arith, e) in
    let sound = c.flush.ensures.store_invariant (counts_in own) own.batcher.spans [] [] all c.requires.invariant.sound in
    let shows = c.flush.ensures.shows (counts_in own) own.batcher.spans [] [] [] all c.requires.invariant.sound (λ key. omega arith) in
    let ran = flush_all own p q c.requires.invariant mid due (sent_at due own.batcher.spans p) c.fire-fired.new.self due_is c.requires.first (c.requires.fits due due_is) refl sends c.fire-fired.ensures.pending sound shows in
    let s = written_state_in own c.args.stores.now in
    record {
      on_success = ran.state ∙ ap (λ (o : Option ℕ). flushed o s) (sym due_is);
      invariant = ran.held;
      others_unchanged = λ other ne. c.flush.ensures.others_unchanged other ne;
      on_refusal = search rules;
      tenant = search rules;
      section = search rules;
      swept = search rules;
      clock = λ moment le all. all due due_is;
    }
