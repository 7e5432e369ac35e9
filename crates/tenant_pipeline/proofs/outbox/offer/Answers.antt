use Rattle.std.proofs.Common.{◌≡◌, ◌∙◌, ap, sym, subst, true, false, IfOk, Option}
use Rattle.std.specs.Option.{MatchOption}
use Rattle.std.specs.Result.{OnOk}
use Rattle.send_queue.specs.declared.batch.Batch.{Batch}
use Rattle.send_queue.specs.Sender.{BatchData, SenderData, offered}
use Rattle.send_queue.specs.View.{batch_view}
use Rattle.tenant_stores.specs.Part.{part}
use Rattle.tenant_rules.specs.Sender.{finds_no_room}
use Rattle.tenant_pipeline.specs.Outbox.{sent_at, Offers, Took}
use Rattle.tenant_pipeline.proofs.Sending.{offered_is, offers_none, offers_one, took_one}
use Rattle.tenant_pipeline.proofs.Unwritten.{there_size}
use Rattle.tenant_pipeline.proofs.outbox.offer.Goals.{in-Ok, in-Err-OutOfMemory}
use Rattle.tenant_pipeline.proofs.outbox.offer.Goals as goal

pub returns-in_default-clause-on_success : goal.returns-in_default-clause-on_success
returns-in_default-clause-on_success c =
    let p = part c.args.tenant c.args.stores.now in
    let b = sent_at c.args.moment c.args.keys.now p in
    let s = c.args.sender.now in
    let none : finds_no_room b s ≡ true =
    subst (λ (o : Option Batch). MatchOption o (finds_no_room b s ≡ true) (λ batch. (batch_view batch ≡ b) × (finds_no_room b s ≡ false))) c.in_default.is c.in_ok-batch.ensures in
    offers_none b s c.args.ledger.now c.move_spans.new.self _ (there_size p c.args.keys.now c.requires.there) none c.move_spans.ensures

pub returns-clause-on_success : goal.returns-clause-on_success
returns-clause-on_success c =
    let p = part c.args.tenant c.args.stores.now in
    let b = sent_at c.args.moment c.args.keys.now p in
    let s = c.args.sender.now in
    let found : (batch_view c.in-Some.batch ≡ b) × (finds_no_room b s ≡ false) =
    subst (λ (o : Option Batch). MatchOption o (finds_no_room b s ≡ true) (λ batch. (batch_view batch ≡ b) × (finds_no_room b s ≡ false))) c.in-Some.is c.in_ok-batch.ensures in
    elim c.match-offer.branch [
      | in-Ok w ↦
          let waits = w.in-Ok.ensures.on_success ∙ (ap (λ (x : BatchData). offered x s) found.0 ∙ offered_is b s found.1) in
          subst (λ r. OnOk r (Offers b s c.offer.new.self c.args.ledger.now c.match-offer.ledger)) (sym w.result-is)
          (offers_one b s c.offer.new.self c.args.ledger.now c.match-offer.ledger _ (there_size p c.args.keys.now c.requires.there) found.1 waits (w.ledger-is ∙ w.move_spans-in-Ok.ensures))
      | in-Err-OutOfMemory w ↦ subst (λ r. OnOk r (Offers b s c.offer.new.self c.args.ledger.now c.match-offer.ledger)) (sym w.result-is) tt
    ]

pub returns-clause-took : goal.returns-clause-took
returns-clause-took c =
    let p = part c.args.tenant c.args.stores.now in
    let b = sent_at c.args.moment c.args.keys.now p in
    let s = c.args.sender.now in
    let found : (batch_view c.in-Some.batch ≡ b) × (finds_no_room b s ≡ false) =
    subst (λ (o : Option Batch). MatchOption o (finds_no_room b s ≡ true) (λ batch. (batch_view batch ≡ b) × (finds_no_room b s ≡ false))) c.in-Some.is c.in_ok-batch.ensures in
    elim c.match-offer.branch [
      | in-Ok w ↦
          let waits = w.in-Ok.ensures.on_success ∙ (ap (λ (x : BatchData). offered x s) found.0 ∙ offered_is b s found.1) in
          subst (λ r. IfOk r (λ offers. Took offers s c.offer.new.self)) (sym w.result-is)
          (subst (λ (t : SenderData). Took 1 s t) (sym waits) (took_one b s found.1))
      | in-Err-OutOfMemory w ↦ subst (λ r. IfOk r (λ offers. Took offers s c.offer.new.self)) (sym w.result-is) tt
    ]
