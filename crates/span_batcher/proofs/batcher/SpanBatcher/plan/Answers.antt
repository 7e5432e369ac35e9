use Rattle.std.proofs.Common.{◌≡◌, ap, ◌∙◌, List, ℕ, ◌<◌, ◌≤◌, ◌++◌, length, arith, Some}
use Rattle.std.specs.Prelude.{unwrap_or}
use Rattle.span_batcher.specs.Machine.{rules_of, threshold, cuts, uncut, start_in, added}
use Rattle.span_batcher.proofs.Calls.{plans_short, plans_far, plan_short, plan_far}
use Rattle.span_batcher.proofs.batcher.SpanBatcher.plan.Goals.{After-new-batches, After-drop-all-2}
use Rattle.span_batcher.proofs.batcher.SpanBatcher.plan.Goals as goal

pub returns-then-len-threshold-clause-adds : goal.returns-then-len-threshold-clause-adds
returns-then-len-threshold-clause-adds c =
    let r = rules_of c.self.inside.timeout c.self.inside.size c.self.inside.most in
    let pending : List ℕ = c.self.inside.spans.items in
    let all : c.extend_from_slice-2.new.self.items ≡ pending ++ c.args.spans.now = c.in_ok-extend_from_slice-2.ensures.items ∙ ap (λ (ss : List ℕ). ss ++ c.args.spans.now) (c.in_ok-extend_from_slice.ensures.items ∙ (ap (λ (ss : List ℕ). ss ++ c.deref.result.now) c.in_ok-all.ensures.items ∙ c.deref.ensures.value)) in
    let few : length c.extend_from_slice-2.new.self.items < threshold r = omega arith in
    let start : c.unwrap_or.result ≡ unwrap_or c.self.inside.start c.args.moment = c.unwrap_or.ensures in
    plans_short r c.self.inside.start pending c.args.moment c.args.spans.now c.args.self.now c.new-batches.result.items c.extend_from_slice-2.new.self.items c.unwrap_or.result c.self.view_is (c.self.invariant.some, c.self.invariant.limit) c.requires.timer c.requires.not_empty all few c.new-batches.ensures.items start

pub returns-clause-adds : goal.returns-clause-adds
returns-clause-adds c =
    let r = rules_of c.self.inside.timeout c.self.inside.size c.self.inside.most in
    let pending : List ℕ = c.self.inside.spans.items in
    let all : c.extend_from_slice-2.new.self.items ≡ pending ++ c.args.spans.now = c.in_ok-extend_from_slice-2.ensures.items ∙ ap (λ (ss : List ℕ). ss ++ c.args.spans.now) (c.in_ok-extend_from_slice.ensures.items ∙ (ap (λ (ss : List ℕ). ss ++ c.deref.result.now) c.in_ok-all.ensures.items ∙ c.deref.ensures.value)) in
    let enough : threshold r ≤ length c.extend_from_slice-2.new.self.items = omega arith in
    plans_far r c.self.inside.start pending c.args.moment c.args.spans.now c.args.self.now c.in_ok-batches.batches.items c.extend_from_slice-2.new.self.items c.in_ok-batches.rest.items c.start_in-start.result c.self.view_is (c.self.invariant.some, c.self.invariant.limit) c.requires.timer c.requires.not_empty all enough (c.in_ok-batches.ensures.batches ∙ ap (cuts r c.args.moment) c.deref-2.ensures.value) (c.in_ok-batches.ensures.rest ∙ ap (uncut r) c.deref-2.ensures.value) (c.start_in-start.ensures ∙ ap (start_in c.args.moment) c.deref-3.ensures.value)

-- by the pending spans alone, where nothing is cut
short : (c : After-new-batches) →
    (c.new-batches.result.items ≡ cuts c.args.self.now.rules c.args.moment (c.args.self.now.spans ++ c.args.spans.now))
    × (record { rules = c.args.self.now.rules; start = Some c.unwrap_or.result; spans = c.extend_from_slice-2.new.self.items } ≡ added c.args.moment c.args.spans.now c.args.self.now)
short c =
    let r = rules_of c.self.inside.timeout c.self.inside.size c.self.inside.most in
    let pending : List ℕ = c.self.inside.spans.items in
    let all : c.extend_from_slice-2.new.self.items ≡ pending ++ c.args.spans.now = c.in_ok-extend_from_slice-2.ensures.items ∙ ap (λ (ss : List ℕ). ss ++ c.args.spans.now) (c.in_ok-extend_from_slice.ensures.items ∙ (ap (λ (ss : List ℕ). ss ++ c.deref.result.now) c.in_ok-all.ensures.items ∙ c.deref.ensures.value)) in
    let few : length c.extend_from_slice-2.new.self.items < threshold r = omega arith in
    let start : c.unwrap_or.result ≡ unwrap_or c.self.inside.start c.args.moment = c.unwrap_or.ensures in
    plan_short r c.self.inside.start pending c.args.moment c.args.spans.now c.args.self.now c.new-batches.result.items c.extend_from_slice-2.new.self.items c.unwrap_or.result c.self.view_is (c.self.invariant.some, c.self.invariant.limit) all few c.new-batches.ensures.items start

pub returns-then-len-threshold-clause-batches : goal.returns-then-len-threshold-clause-batches
returns-then-len-threshold-clause-batches c = (short c).0

pub returns-then-len-threshold-clause-pending : goal.returns-then-len-threshold-clause-pending
returns-then-len-threshold-clause-pending c = (short c).1

-- and where something is
far : (c : After-drop-all-2) →
    (c.in_ok-batches.batches.items ≡ cuts c.args.self.now.rules c.args.moment (c.args.self.now.spans ++ c.args.spans.now))
    × (record { rules = c.args.self.now.rules; start = c.start_in-start.result; spans = c.in_ok-batches.rest.items } ≡ added c.args.moment c.args.spans.now c.args.self.now)
far c =
    let r = rules_of c.self.inside.timeout c.self.inside.size c.self.inside.most in
    let pending : List ℕ = c.self.inside.spans.items in
    let all : c.extend_from_slice-2.new.self.items ≡ pending ++ c.args.spans.now = c.in_ok-extend_from_slice-2.ensures.items ∙ ap (λ (ss : List ℕ). ss ++ c.args.spans.now) (c.in_ok-extend_from_slice.ensures.items ∙ (ap (λ (ss : List ℕ). ss ++ c.deref.result.now) c.in_ok-all.ensures.items ∙ c.deref.ensures.value)) in
    let enough : threshold r ≤ length c.extend_from_slice-2.new.self.items = omega arith in
    plan_far r c.self.inside.start pending c.args.moment c.args.spans.now c.args.self.now c.in_ok-batches.batches.items c.extend_from_slice-2.new.self.items c.in_ok-batches.rest.items c.start_in-start.result c.self.view_is all enough (c.in_ok-batches.ensures.batches ∙ ap (cuts r c.args.moment) c.deref-2.ensures.value) (c.in_ok-batches.ensures.rest ∙ ap (uncut r) c.deref-2.ensures.value) (c.start_in-start.ensures ∙ ap (start_in c.args.moment) c.deref-3.ensures.value)

pub returns-clause-batches : goal.returns-clause-batches
returns-clause-batches c = (far c).0

pub returns-clause-pending : goal.returns-clause-pending
returns-clause-pending c = (far c).1
