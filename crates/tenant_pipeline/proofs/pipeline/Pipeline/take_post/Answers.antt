use Rattle.std.proofs.Common.{arith, ◌≡◌, ◌∙◌, ◌+◌, ◌<◌, ◌≤◌, ℕ, List, [], length, refl, sym, ap, subst, true, false, IfOk}
use Rattle.std.specs.Prelude.{nat_le}
use Rattle.std.specs.List.{AllByRecursion}
use Rattle.std.proofs.lemmas.Bool.Decides.{nat_tests}
use Rattle.std.proofs.lemmas.List.{length-map}
use Rattle.std.proofs.lemmas.Result.{on_ok_weaker}
use Rattle.drop_ledger.specs.Ledger.{counted, most_counted}
use Rattle.tail_settings.specs.Policy.{PolicyData}
use Rattle.tenant_rules.specs.Answers.{reply_of}
use Rattle.tenant_rules.specs.Arrivals.{Arrival, is_valid, valid}
use Rattle.tenant_rules.specs.Intake.{Verdict}
use Rattle.tenant_rules.specs.Machine.{all_come, posted, post_verdict}
use Rattle.tenant_rules.specs.State.{State}
use Rattle.tenant_stores.specs.Part.{part}
use Rattle.tenant_stores.specs.Trail.{HoldsAll}
use Rattle.prepared_body.specs.Arrivals.{arrival_in, arrivals_in}
use Rattle.prepared_body.specs.Prepared.{AreReady}
use Rattle.tenant_pipeline.specs.Acts.{at}
use Rattle.tenant_pipeline.specs.Invariant.{PipelineInvariantAt}
use Rattle.tenant_pipeline.specs.Posts.{held_keys, IsTaken, verdict_after}
use Rattle.tenant_pipeline.specs.Prepared.{arrivals_of}
use Rattle.tenant_pipeline.specs.StateIn.{part_in, written_state_in}
use Rattle.tenant_pipeline.proofs.Holds.{none_at}
use Rattle.tenant_pipeline.proofs.Posting.{all_valid, body_left, on_ok, on_ok_both, on_err_then}
use Rattle.tenant_pipeline.proofs.Taking.{size_is, verdict_taken, post_taken, verdict_limited}
use Rattle.tenant_pipeline.proofs.Sweeping.{swept_either}
use Rattle.tenant_pipeline.proofs.pipeline.Pipeline.take_post.Goals as goal

-- ---- refused whole

-- more would be counted than may be
over : (c : goal.After-refusal-then-not-fits) → most_counted < counted c.args.self.now.ledger + length (arrivals_of c.args.prepared.now)
over c =
    let own = c.args.self.now in
    let d = c.args.prepared.now in
    let test : nat_le (counted own.ledger + c.saturating_add.result) most_counted ≡ false = sym c.fits.ensures ∙ c.if-not-fits.true in
    let more : most_counted < counted own.ledger + c.saturating_add.result = grind (arith, nat_tests, test) in
    let sum = c.saturating_add.ensures in
    let invalid = c.invalid-invalid.ensures in
    let spans = ap length c.parts.ensures.arrivals in
    let same = length-map c.parts.result.1.now (arrival_in c.parts.result.0.now) in
    let size = size_is d.arrivals d.invalid in
    omega (arith, more, sum, invalid, spans, same, size)

pub returns-then-not-fits-clause-on_success : goal.returns-then-not-fits-clause-on_success
returns-then-not-fits-clause-on_success c =
    let s = written_state_in c.args.self.now c.args.stores.now in
    let arrivals = arrivals_of c.args.prepared.now in
    let m = c.args.moment in
    on_ok c.refusal-then-not-fits.result (sym (ap (λ (v : Verdict). posted v (at m s) (all_come m (valid arrivals) (at m s))) (verdict_limited m arrivals s c.if-self.false (over c))))

pub returns-then-not-fits-clause-reply : goal.returns-then-not-fits-clause-reply
returns-then-not-fits-clause-reply c =
    let s = written_state_in c.args.self.now c.args.stores.now in
    subst (λ (v : Verdict). IfOk c.refusal-then-not-fits.result (λ reply. reply ≡ reply_of v)) (sym (verdict_limited c.args.moment (arrivals_of c.args.prepared.now) s c.if-self.false (over c))) c.refusal-then-not-fits.ensures

-- ---- its spans came, or none did, and the origins that were held were given back

pub take_spans-reply-requires-clause-origins : goal.take_spans-reply-requires-clause-origins
take_spans-reply-requires-clause-origins c =
    none_at c.parts.result.0.now c.in_ok-held.held (length c.parts.result.0.now) (part_in c.args.self.now c.args.stores.now) refl c.in_ok-held.ensures.places

pub take_spans-reply-requires-clause-ready : goal.take_spans-reply-requires-clause-ready
take_spans-reply-requires-clause-ready c =
    subst (λ (ps : List PolicyData). AreReady ps c.parts.result.0.now c.parts.result.1.now) c.requires.policies c.parts.ensures.ready

-- its valid spans
valid_spans : (c : goal.After-drop-held) → AllByRecursion (λ a. is_valid a ≡ true) c.args.prepared.now.arrivals
valid_spans c = subst (λ (xs : List Arrival). AllByRecursion (λ a. is_valid a ≡ true) xs) c.parts.ensures.arrivals (all_valid c.args.prepared.now.policies c.parts.result.0.now c.parts.result.1.now c.parts.ensures.ready)

-- what is left once the origins are given back
abbrev Left : goal.After-drop-held → Type 0
Left c = (written_state_in c.take_spans-reply.new.self c.release_origins.new.stores ≡ written_state_in c.take_spans-reply.new.self c.take_spans-reply.new.stores)
    × PipelineInvariantAt c.args.moment [] [] c.take_spans-reply.new.self (part_in c.take_spans-reply.new.self c.release_origins.new.stores)

left : (c : goal.After-drop-held) → PipelineInvariantAt c.args.moment [] (held_keys c.take_spans-reply.new.held) c.take_spans-reply.new.self (part_in c.take_spans-reply.new.self c.take_spans-reply.new.stores) → Left c
left c holds =
    let new = c.take_spans-reply.new.self in
    body_left c.args.moment new (held_keys c.take_spans-reply.new.held) (part_in new c.take_spans-reply.new.stores) (part_in new c.release_origins.new.stores) holds
    c.release_origins.ensures.store_invariant c.release_origins.ensures.shows

-- it may be counted
fits : (c : goal.After-drop-held) → counted c.args.self.now.ledger + (length c.args.prepared.now.arrivals + c.args.prepared.now.invalid) ≤ most_counted
fits c =
    let own = c.args.self.now in
    let test : nat_le (counted own.ledger + c.saturating_add.result) most_counted ≡ true = sym c.fits.ensures ∙ c.if-not-fits.false in
    let room : counted own.ledger + c.saturating_add.result ≤ most_counted = grind (arith, nat_tests, test) in
    let sum = c.saturating_add.ensures in
    let invalid = c.invalid-invalid.ensures in
    let spans = ap length c.parts.ensures.arrivals in
    let size = length-map c.parts.result.1.now (arrival_in c.parts.result.0.now) in
    omega (arith, room, sum, invalid, spans, size)

pub returns-clause-on_success : goal.returns-clause-on_success
returns-clause-on_success c =
    let own = c.args.self.now in
    let new = c.take_spans-reply.new.self in
    let m = c.args.moment in
    let d = c.args.prepared.now in
    let s0 = written_state_in own c.args.stores.now in
    let t : State = written_state_in new c.take_spans-reply.new.stores in
    let u : State = written_state_in new c.release_origins.new.stores in
    on_ok_both c.take_spans-reply.result (λ (holds : PipelineInvariantAt m [] (held_keys c.take_spans-reply.new.held) new (part_in new c.take_spans-reply.new.stores))
    (taken : IsTaken (arrivals_in c.parts.result.0.now c.parts.result.1.now) c.invalid-invalid.result m s0 t).
    let one : IsTaken d.arrivals c.invalid-invalid.result m s0 t = subst (λ (xs : List Arrival). IsTaken xs c.invalid-invalid.result m s0 t) c.parts.ensures.arrivals taken in
    let two : IsTaken d.arrivals d.invalid m s0 t = subst (λ (k : ℕ). IsTaken d.arrivals k m s0 t) c.invalid-invalid.ensures one in
    post_taken m d.invalid d.arrivals s0 (valid_spans c) c.if-self.false (fits c) u ((left c holds).0 ∙ two))
    c.take_spans-reply.ensures.holds c.take_spans-reply.ensures.on_success

pub returns-clause-reply : goal.returns-clause-reply
returns-clause-reply c =
    let m = c.args.moment in
    let d = c.args.prepared.now in
    let s0 = written_state_in c.args.self.now c.args.stores.now in
    let one = ap (λ (xs : List Arrival). verdict_after xs c.invalid-invalid.result m s0) c.parts.ensures.arrivals in
    let two = ap (λ (k : ℕ). verdict_after d.arrivals k m s0) c.invalid-invalid.ensures in
    let same : verdict_after (arrivals_in c.parts.result.0.now c.parts.result.1.now) c.invalid-invalid.result m s0 ≡ post_verdict m (arrivals_of d) (at m s0) =
    one ∙ (two ∙ sym (verdict_taken m d.invalid d.arrivals s0 (valid_spans c) c.if-self.false (fits c))) in
    subst (λ (v : Verdict). IfOk c.take_spans-reply.result (λ reply. reply ≡ reply_of v)) same c.take_spans-reply.ensures.reply

pub returns-clause-holds : goal.returns-clause-holds
returns-clause-holds c =
    let new = c.take_spans-reply.new.self in
    on_ok_weaker c.take_spans-reply.result (λ (holds : PipelineInvariantAt c.args.moment [] (held_keys c.take_spans-reply.new.held) new (part_in new c.take_spans-reply.new.stores)). (left c holds).1)
    c.take_spans-reply.ensures.holds

pub returns-clause-others_unchanged : goal.returns-clause-others_unchanged
returns-clause-others_unchanged c = λ other ne.
    let same = c.take_spans-reply.ensures.same in
    c.release_origins.ensures.others_unchanged other (λ e. ne (e ∙ same.tenant)) ∙ c.take_spans-reply.ensures.others_unchanged other ne

pub returns-clause-part_on_refusal : goal.returns-clause-part_on_refusal
returns-clause-part_on_refusal c =
    let own = c.args.self.now in
    let new = c.take_spans-reply.new.self in
    let p0 = part_in own c.args.stores.now in
    let keys = held_keys c.take_spans-reply.new.held in
    let tenant = c.take_spans-reply.ensures.same.tenant in
    on_err_then c.take_spans-reply.result (λ (held : HoldsAll keys p0 (part own.tenant c.take_spans-reply.new.stores)).
    let there : HoldsAll keys p0 (part new.tenant c.take_spans-reply.new.stores) = subst (λ (t : ℕ). HoldsAll keys p0 (part t c.take_spans-reply.new.stores)) (sym tenant) held in
    subst (λ (t : ℕ). part t c.release_origins.new.stores ≡ p0) tenant (c.release_origins.ensures.uses_removed p0 there))
    c.take_spans-reply.ensures.part_on_refusal

pub returns-clause-swept : goal.returns-clause-swept
returns-clause-swept c = λ is. swept_either c.take_spans-reply.result c.args.self.now c.take_spans-reply.new.self c.take_spans-reply.ensures.swept c.take_spans-reply.ensures.on_refusal is
