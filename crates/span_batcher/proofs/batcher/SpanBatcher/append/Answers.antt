use Rattle.std.proofs.Common.{◌≡◌, ◌++◌, List, ℕ}
use Rattle.span_batcher.specs.Machine.{rules_of}
use Rattle.span_batcher.proofs.Calls.{append_cuts, append_is, appends}
use Rattle.span_batcher.proofs.batcher.SpanBatcher.append.Goals as goal

pub returns-clause-adds : goal.returns-clause-adds
returns-clause-adds c =
    let r = rules_of c.self.inside.timeout c.self.inside.size c.self.inside.most in
    let pending : List ℕ = c.self.inside.spans.items in
    let all : c.extend_from_slice.new.self.items ≡ pending ++ c.args.spans.now = c.in_ok-extend_from_slice.ensures.items in
    appends r c.self.inside.start pending c.args.moment c.args.spans.now c.args.self.now c.extend_from_slice.new.self.items c.unwrap_or.result c.self.view_is (c.self.invariant.some, c.self.invariant.limit)
    c.requires.timer c.requires.not_empty all c.requires.fills_none c.unwrap_or.ensures

pub returns-clause-pending : goal.returns-clause-pending
returns-clause-pending c =
    let r = rules_of c.self.inside.timeout c.self.inside.size c.self.inside.most in
    let pending : List ℕ = c.self.inside.spans.items in
    let all : c.extend_from_slice.new.self.items ≡ pending ++ c.args.spans.now = c.in_ok-extend_from_slice.ensures.items in
    append_is r c.self.inside.start pending c.args.moment c.args.spans.now c.args.self.now c.extend_from_slice.new.self.items c.unwrap_or.result c.self.view_is (c.self.invariant.some, c.self.invariant.limit)
    all c.requires.fills_none c.unwrap_or.ensures

pub returns-clause-batches : goal.returns-clause-batches
returns-clause-batches c =
    let r = rules_of c.self.inside.timeout c.self.inside.size c.self.inside.most in
    append_cuts r c.self.inside.start c.self.inside.spans.items c.args.moment c.args.spans.now c.args.self.now c.self.view_is (c.self.invariant.some, c.self.invariant.limit) c.requires.fills_none

pub returns-in_err-extend_from_slice-clause-batches : goal.returns-in_err-extend_from_slice-clause-batches
returns-in_err-extend_from_slice-clause-batches c =
    let r = rules_of c.self.inside.timeout c.self.inside.size c.self.inside.most in
    append_cuts r c.self.inside.start c.self.inside.spans.items c.args.moment c.args.spans.now c.args.self.now c.self.view_is (c.self.invariant.some, c.self.invariant.limit) c.requires.fills_none
