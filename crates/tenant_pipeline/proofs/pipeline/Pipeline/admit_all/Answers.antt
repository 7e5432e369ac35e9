use Rattle.std.proofs.Common.{arith, ◌≡◌, ◌∙◌, ◌+◌, ◌-◌, ℕ, length, sym, ap, subst, refl}
use Rattle.tenant_rules.specs.Answers.{reply_of}
use Rattle.tenant_rules.specs.Intake.{Verdict}
use Rattle.tenant_stores.specs.Part.{part}
use Rattle.tenant_pipeline.specs.declared.pipeline.Pipeline.{Pipeline}
use Rattle.tenant_pipeline.specs.StateIn.{part_in, written_state_in, written_state_of}
use Rattle.prepared_body.specs.Arrivals.{arrivals_in}
use Rattle.tenant_pipeline.specs.Posts.{held_keys, IsPosting, IsTaken, IsWrittenWith}
use Rattle.tenant_pipeline.proofs.Holds.{written_on}
use Rattle.tenant_pipeline.proofs.Posting.{Ended, none_placed, is_next, one_placed, all_placed, count_of, ended, same_tenant, verdict_is}
use Rattle.tenant_pipeline.proofs.pipeline.Pipeline.admit_all.Goals as goal

pub loop-span-init : goal.loop-span-init
loop-span-init c = record {
  placing = none_placed c.args.moment c.args.origins.now c.args.spans.now c.args.held.now c.args.journal.now c.args.self.now (part_in c.args.self.now c.args.stores.now) c.requires.posting c.requires.origins;
  last = tt;
  others = λ other ne. refl;
}

pub admit_held-requires-clause-next : goal.admit_held-requires-clause-next
admit_held-requires-clause-next c =
    is_next c.args.moment c.args.origins.now c.args.spans.now c.loop-span.span-index c.args.held.now c.loop-span.held c.args.journal.now c.loop-span.journal c.args.self.now c.loop-span.self
    (part_in c.args.self.now c.args.stores.now) (part_in c.loop-span.self c.loop-span.stores) c.loop-span.invariant.placing c.loop-span-test.true c.span-item.result c.span-item.is c.requires.ready

pub returns-in_err-admit_held-clause-written : goal.returns-in_err-admit_held-clause-written
returns-in_err-admit_held-clause-written c = λ start first written.
    c.in_err-admit_held.ensures.written start first (c.loop-span.invariant.placing.written start first written)

pub returns-in_err-admit_held-clause-others_unchanged : goal.returns-in_err-admit_held-clause-others_unchanged
returns-in_err-admit_held-clause-others_unchanged c = λ other ne.
    c.in_err-admit_held.ensures.others_unchanged other (λ e. ne (e ∙ c.loop-span.invariant.placing.same.tenant)) ∙ c.loop-span.invariant.others other ne

pub returns-in_err-admit_held-clause-same : goal.returns-in_err-admit_held-clause-same
returns-in_err-admit_held-clause-same c = same_tenant c.args.self.now c.loop-span.self c.admit_held.new.self c.loop-span.invariant.placing.same c.in_err-admit_held.ensures.same

pub loop-span-preserved : goal.loop-span-preserved
loop-span-preserved c =
    let now = c.loop-span.invariant.placing in
    let made = c.in_ok-admit_held.ensures in
    record {
      placing = one_placed c.args.moment c.args.origins.now c.args.spans.now c.loop-span.span-index c.args.held.now c.loop-span.held c.args.journal.now c.loop-span.journal c.args.self.now c.loop-span.self
          (part_in c.args.self.now c.args.stores.now) (part_in c.loop-span.self c.loop-span.stores) now c.loop-span-test.true c.span-item.result c.span-item.is
          c.admit_held.new.held c.admit_held.new.journal c.admit_held.new.self (part_in c.admit_held.new.self c.admit_held.new.stores) made.came made.written made.same;
      last = made.last;
      others = λ other ne. made.others_unchanged other (λ e. ne (e ∙ now.same.tenant)) ∙ c.loop-span.invariant.others other ne;
    }

pub overflow_sub-taken : goal.overflow_sub-taken
overflow_sub-taken c =
    let own0 = c.args.self.now in
    let own = c.loop-span.self in
    let p0 = part_in own0 c.args.stores.now in
    let p = part_in own c.loop-span.stores in
    let is = all_placed c.args.moment c.args.origins.now c.args.spans.now c.loop-span.span-index c.args.held.now c.loop-span.held c.args.journal.now c.loop-span.journal own0 own p0 p c.loop-span.invariant.placing c.loop-span-test.false in
    let more = (count_of c.args.moment c.args.origins.now c.args.spans.now own0 own p0 p is).accepted_is in
    let before = c.accepted-before.ensures in
    let after = c.accepted.ensures in
    omega (arith, more, before, after)

pub reply-requires-clause-fits : goal.reply-requires-clause-fits
reply-requires-clause-fits c =
    let own0 = c.args.self.now in
    let own = c.loop-span.self in
    let p0 = part_in own0 c.args.stores.now in
    let p = part_in own c.loop-span.stores in
    let is = all_placed c.args.moment c.args.origins.now c.args.spans.now c.loop-span.span-index c.args.held.now c.loop-span.held c.args.journal.now c.loop-span.journal own0 own p0 p c.loop-span.invariant.placing c.loop-span-test.false in
    let count = count_of c.args.moment c.args.origins.now c.args.spans.now own0 own p0 p is in
    let more = count.accepted_is in
    let all = count.counted_is in
    let few = count.few in
    let before = c.accepted-before.ensures in
    let after = c.accepted.ensures in
    let fits = c.requires.fits in
    omega (arith, more, all, few, before, after, fits)

pub reply-requires-clause-within : goal.reply-requires-clause-within
reply-requires-clause-within c =
    let own0 = c.args.self.now in
    let own = c.loop-span.self in
    let p0 = part_in own0 c.args.stores.now in
    let p = part_in own c.loop-span.stores in
    let is = all_placed c.args.moment c.args.origins.now c.args.spans.now c.loop-span.span-index c.args.held.now c.loop-span.held c.args.journal.now c.loop-span.journal own0 own p0 p c.loop-span.invariant.placing c.loop-span-test.false in
    let count = count_of c.args.moment c.args.origins.now c.args.spans.now own0 own p0 p is in
    let more = count.accepted_is in
    let few = count.few in
    let before = c.accepted-before.ensures in
    let after = c.accepted.ensures in
    omega (arith, more, few, before, after)

pub returns-in_err-reply-clause-written : goal.returns-in_err-reply-clause-written
returns-in_err-reply-clause-written c = λ start first written.
    let own = c.loop-span.self in
    subst (λ (o : Pipeline). IsWrittenWith c.loop-span.journal c.loop-span.held start o first (part_in o c.loop-span.stores)) (sym c.in_err-reply.ensures.on_refusal) (c.loop-span.invariant.placing.written start first written)

-- what the whole came to
abbrev End : goal.In_ok-reply → Type 0
End c = Ended c.args.moment c.args.invalid (length c.args.spans.now) (c.accepted.result - c.accepted-before.result) c.args.origins.now c.args.spans.now c.loop-span.held c.loop-span.journal
    c.args.self.now c.loop-span.self c.reply.new.self (part_in c.args.self.now c.args.stores.now) (part_in c.loop-span.self c.loop-span.stores)

end : (c : goal.In_ok-reply) → End c
end c =
    let own0 = c.args.self.now in
    let own = c.loop-span.self in
    let taken : c.accepted.result - c.accepted-before.result ≡ own.ledger.accepted - own0.ledger.accepted = λ i. c.accepted.ensures i - c.accepted-before.ensures i in
    ended c.args.moment c.args.invalid (length c.args.spans.now) (c.accepted.result - c.accepted-before.result) c.args.origins.now c.args.spans.now c.loop-span.span-index c.args.held.now c.loop-span.held c.args.journal.now c.loop-span.journal
    own0 own c.reply.new.self (part_in own0 c.args.stores.now) (part_in own c.loop-span.stores) c.loop-span.invariant.placing c.loop-span-test.false refl taken c.requires.fits c.in_ok-reply.ensures.on_success

pub returns-clause-on_success : goal.returns-clause-on_success
returns-clause-on_success c =
    let own0 = c.args.self.now in
    let xs = arrivals_in c.args.origins.now c.args.spans.now in
    let last = end c in
    subst (λ (t : ℕ). IsTaken xs c.args.invalid c.args.moment (written_state_in own0 c.args.stores.now) (written_state_of c.reply.new.self (part t c.loop-span.stores))) (sym last.posted_is.same.tenant) last.taken_is

pub returns-clause-reply : goal.returns-clause-reply
returns-clause-reply c =
    let own0 = c.args.self.now in
    let own = c.loop-span.self in
    let p0 = part_in own0 c.args.stores.now in
    let p = part_in own c.loop-span.stores in
    let taken : ℕ = c.accepted.result - c.accepted-before.result in
    let is = all_placed c.args.moment c.args.origins.now c.args.spans.now c.loop-span.span-index c.args.held.now c.loop-span.held c.args.journal.now c.loop-span.journal own0 own p0 p c.loop-span.invariant.placing c.loop-span-test.false in
    let count = count_of c.args.moment c.args.origins.now c.args.spans.now own0 own p0 p is in
    let more = count.accepted_is in
    let before = c.accepted-before.ensures in
    let after = c.accepted.ensures in
    let sum : own.ledger.accepted ≡ own0.ledger.accepted + taken = omega (arith, more, before, after) in
    c.in_ok-reply.ensures.reply own0.ledger.accepted ∙ ap (λ (v : Verdict). reply_of v) (verdict_is c.args.moment c.args.invalid (length c.args.spans.now) taken c.args.origins.now c.args.spans.now own0 own p0 p is refl sum)

pub returns-clause-posting : goal.returns-clause-posting
returns-clause-posting c =
    let last = end c in
    subst (λ (t : ℕ). IsPosting c.args.moment c.loop-span.journal (held_keys c.loop-span.held) c.reply.new.self (part t c.loop-span.stores)) (sym last.posted_is.same.tenant) last.posted_is.posting

pub returns-clause-written : goal.returns-clause-written
returns-clause-written c = λ start first written.
    let last = end c in
    let own = c.loop-span.self in
    let new = c.reply.new.self in
    let p = part_in own c.loop-span.stores in
    subst (λ (t : ℕ). IsWrittenWith c.loop-span.journal c.loop-span.held start new first (part t c.loop-span.stores)) (sym last.posted_is.same.tenant)
    (written_on c.loop-span.held c.loop-span.journal c.loop-span.journal own new p p last.posted_is.written start first (c.loop-span.invariant.placing.written start first written))

pub returns-clause-same : goal.returns-clause-same
returns-clause-same c =
    let last = end c in
    same_tenant c.args.self.now c.loop-span.self c.reply.new.self c.loop-span.invariant.placing.same last.posted_is.same
