use Rattle.std.proofs.Common.{◌≡◌, ◌∙◌, ◌&&◌, [], true, false, ap}
use Rattle.std.proofs.lemmas.Result.{on_ok_weaker}
use Rattle.send_retry.specs.Class.{AnswerData, answer_view}
use Rattle.tenant_rules.specs.Machine.{turned}
use Rattle.tenant_rules.specs.Own.{Turn, Answer}
use Rattle.tenant_rules.specs.Retiring.{holds_none}
use Rattle.tenant_pipeline.specs.declared.pipeline.Pipeline.{Pipeline}
use Rattle.tenant_pipeline.specs.Acts.{at}
use Rattle.tenant_pipeline.specs.Outbox.{Sends}
use Rattle.tenant_pipeline.specs.StateIn.{part_in, policies_of}
use Rattle.tenant_pipeline.proofs.Behind.{from_written}
use Rattle.tenant_pipeline.proofs.Posting.{on_ok}
use Rattle.tenant_pipeline.proofs.Stepping.{SentOver, not_so, seen_same, sent_either, sent_over, turn_sent, answer_sent}
use Rattle.tenant_pipeline.proofs.Sweeping.{swept_same}
use Rattle.tenant_pipeline.proofs.pipeline.Pipeline.take.Goals as goal

-- ---- a body's spans come

pub take_post-requires-clause-policies : goal.take_post-requires-clause-policies
take_post-requires-clause-policies c =
    let made : c.in-Post.prepared.now.policies ≡ policies_of c.args.self.now = rw c.in-Post.is at c.requires.policies in
    made

pub returns-in_ok-reply-in-Post-clause-on_success : goal.returns-in_ok-reply-in-Post-clause-on_success
returns-in_ok-reply-in-Post-clause-on_success c =
    rw c.in-Post.is (ap (at c.args.moment) (seen_same c.args.moment c.take_post.new.self c.take_post.new.stores c.in_ok-reply-in-Post.ensures.holds) ∙ c.in_ok-reply-in-Post.ensures.on_success)

pub returns-in_ok-reply-in-Post-clause-holds : goal.returns-in_ok-reply-in-Post-clause-holds
returns-in_ok-reply-in-Post-clause-holds c = from_written c.args.moment c.take_post.new.self (part_in c.take_post.new.self c.take_post.new.stores) c.in_ok-reply-in-Post.ensures.holds

-- ---- a worker asks for a job

pub returns-in-Turn-clause-on_success : goal.returns-in-Turn-clause-on_success
returns-in-Turn-clause-on_success c =
    let m = c.args.moment in
    let own = c.args.self.now in
    let sent = c.hand_out.new.self in
    let stores = c.args.stores.now in
    let over : Sends (turned m) own sent → SentOver (Turn 0) m own sent stores = λ sends. sent_over (Turn 0) m own sent stores (ap (λ (o : Pipeline). o.tenant) sends.same) (turn_sent 0 m [] own sent (part_in own stores) c.requires.holds c.requires.quiet sends) in
    rw c.in-Turn.is (on_ok_weaker c.hand_out.result (λ (sends : Sends (turned m) own sent). (over sends).change) c.hand_out.ensures.on_success)

pub returns-in-Turn-clause-told : goal.returns-in-Turn-clause-told
returns-in-Turn-clause-told c = rw c.in-Turn.is c.hand_out.ensures.step_reply

pub returns-in-Turn-clause-holds : goal.returns-in-Turn-clause-holds
returns-in-Turn-clause-holds c =
    let m = c.args.moment in
    let own = c.args.self.now in
    let sent = c.hand_out.new.self in
    let stores = c.args.stores.now in
    let over : Sends (turned m) own sent → SentOver (Turn 0) m own sent stores = λ sends. sent_over (Turn 0) m own sent stores (ap (λ (o : Pipeline). o.tenant) sends.same) (turn_sent 0 m [] own sent (part_in own stores) c.requires.holds c.requires.quiet sends) in
    on_ok_weaker c.hand_out.result (λ (sends : Sends (turned m) own sent). (over sends).holds) c.hand_out.ensures.on_success

pub returns-in-Turn-clause-swept : goal.returns-in-Turn-clause-swept
returns-in-Turn-clause-swept c = λ is.
    let own = c.args.self.now in
    let sent = c.hand_out.new.self in
    let same = sent_either c.hand_out.result (turned c.args.moment) own sent c.hand_out.ensures.on_success c.hand_out.ensures.on_refusal in
    swept_same own sent (ap (λ (o : Pipeline). o.rows) same) (ap (λ (o : Pipeline). o.caches) same) is

pub returns-in-Turn-clause-tenant : goal.returns-in-Turn-clause-tenant
returns-in-Turn-clause-tenant c =
    ap (λ (o : Pipeline). o.tenant) (sent_either c.hand_out.result (turned c.args.moment) c.args.self.now c.hand_out.new.self c.hand_out.ensures.on_success c.hand_out.ensures.on_refusal)

pub returns-in-Turn-clause-section : goal.returns-in-Turn-clause-section
returns-in-Turn-clause-section c =
    ap (λ (o : Pipeline). o.section) (sent_either c.hand_out.result (turned c.args.moment) c.args.self.now c.hand_out.new.self c.hand_out.ensures.on_success c.hand_out.ensures.on_refusal)

-- ---- a back end answers

pub returns-in-Answer-clause-on_success : goal.returns-in-Answer-clause-on_success
returns-in-Answer-clause-on_success c =
    let m = c.args.moment in
    let own = c.args.self.now in
    let sent = c.settle.new.self in
    let stores = c.args.stores.now in
    let ticket = c.in-Answer.ticket in
    let word = c.in-Answer.word in
    let given : AnswerData = answer_view c.in-Answer.answer.now in
    let over : SentOver (Answer 0 ticket word given) m own sent stores =
    sent_over (Answer 0 ticket word given) m own sent stores (ap (λ (o : Pipeline). o.tenant) c.settle.ensures.sends.same) (answer_sent 0 m [] own sent (part_in own stores) c.requires.holds c.requires.quiet ticket word given c.settle.ensures.sends) in
    rw c.in-Answer.is over.change

pub returns-in-Answer-clause-told : goal.returns-in-Answer-clause-told
returns-in-Answer-clause-told c = rw c.in-Answer.is c.settle.ensures.step_reply

pub returns-in-Answer-clause-holds : goal.returns-in-Answer-clause-holds
returns-in-Answer-clause-holds c =
    let m = c.args.moment in
    let own = c.args.self.now in
    let sent = c.settle.new.self in
    let stores = c.args.stores.now in
    let ticket = c.in-Answer.ticket in
    let word = c.in-Answer.word in
    let given : AnswerData = answer_view c.in-Answer.answer.now in
    let over : SentOver (Answer 0 ticket word given) m own sent stores =
    sent_over (Answer 0 ticket word given) m own sent stores (ap (λ (o : Pipeline). o.tenant) c.settle.ensures.sends.same) (answer_sent 0 m [] own sent (part_in own stores) c.requires.holds c.requires.quiet ticket word given c.settle.ensures.sends) in
    over.holds

pub returns-in-Answer-clause-swept : goal.returns-in-Answer-clause-swept
returns-in-Answer-clause-swept c = λ is.
    let same = c.settle.ensures.sends.same in
    swept_same c.args.self.now c.settle.new.self (ap (λ (o : Pipeline). o.rows) same) (ap (λ (o : Pipeline). o.caches) same) is

-- ---- the others

pub returns-in-Report-clause-on_success : goal.returns-in-Report-clause-on_success
returns-in-Report-clause-on_success c = rw c.in-Report.is (on_ok c.report_told.result (ap (at c.args.moment) (seen_same c.args.moment c.args.self.now c.args.stores.now c.requires.holds)))

pub returns-in-Report-clause-holds : goal.returns-in-Report-clause-holds
returns-in-Report-clause-holds c = on_ok c.report_told.result (from_written c.args.moment c.args.self.now (part_in c.args.self.now c.args.stores.now) c.requires.holds)

pub returns-in-Report-clause-told : goal.returns-in-Report-clause-told
returns-in-Report-clause-told c = rw c.in-Report.is c.report_told.ensures

pub returns-in-Retire-clause-on_success : goal.returns-in-Retire-clause-on_success
returns-in-Retire-clause-on_success c = rw c.in-Retire.is (on_ok c.retire_told.result (ap (at c.args.moment) (seen_same c.args.moment c.args.self.now c.args.stores.now c.requires.holds)))

pub returns-in-Retire-clause-holds : goal.returns-in-Retire-clause-holds
returns-in-Retire-clause-holds c = on_ok c.retire_told.result (from_written c.args.moment c.args.self.now (part_in c.args.self.now c.args.stores.now) c.requires.holds)

pub returns-in-Retire-clause-told : goal.returns-in-Retire-clause-told
returns-in-Retire-clause-told c = rw c.in-Retire.is c.retire_told.ensures.told

pub returns-in-Drain-clause-on_success : goal.returns-in-Drain-clause-on_success
returns-in-Drain-clause-on_success c = rw c.in-Drain.is c.drain.ensures.on_success

pub returns-in-Drain-clause-told : goal.returns-in-Drain-clause-told
returns-in-Drain-clause-told c = rw c.in-Drain.is c.drain.ensures.told

pub returns-in-Drain-clause-first : goal.returns-in-Drain-clause-first
returns-in-Drain-clause-first c = λ now drains. c.drain.ensures.first

-- ---- those that ask for no memory

pub returns-in_err-reply-in-Post-clause-none : goal.returns-in_err-reply-in-Post-clause-none
returns-in_err-reply-in-Post-clause-none c = λ asks. let no : false ≡ true = rw c.in-Post.is at asks in absurd (cc)

pub returns-in-Turn-clause-none : goal.returns-in-Turn-clause-none
returns-in-Turn-clause-none c = λ asks. let no : false ≡ true = rw c.in-Turn.is at asks in absurd (cc)

pub returns-in-Report-clause-none : goal.returns-in-Report-clause-none
returns-in-Report-clause-none c = λ asks. let no : false ≡ true = rw c.in-Report.is at asks in absurd (cc)

pub returns-in-Retire-clause-none : goal.returns-in-Retire-clause-none
returns-in-Retire-clause-none c = λ asks.
    let own = c.args.self.now in
    c.retire_told.ensures.none (not_so (own.drained && holds_none own.ledger.places) (rw c.in-Retire.is at asks))

pub returns-in-Drain-clause-none : goal.returns-in-Drain-clause-none
returns-in-Drain-clause-none c = λ asks. c.drain.ensures.none (rw c.in-Drain.is at asks)
