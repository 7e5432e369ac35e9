use Rattle.std.proofs.Common.{◌≡◌, ◌≤◌, length, sym, ◌∙◌, arith}
use Rattle.std.proofs.lemmas.List.{at_drop_all}
use Rattle.tail_policy.specs.Meaning.{earliest_start, latest_end}
use Rattle.tail_policy.specs.Ends.{least, greatest, least-starts, greatest-ends}
use Rattle.tail_policy.proofs.time.duration.Goals as goal

pub returns : goal.returns
returns c =
    let first = c.in-Some.first.now in
    let others = c.in-Some.others.now in
    let seen = c.loop-span in
    let done : length others ≤ seen.span-index = omega arith in
    let started : least c.start-start.result others ≡ earliest_start first others = rw c.start-start.ensures (least-starts first others) in
    let ended : greatest c.end-end.result others ≡ latest_end first others = rw c.end-end.ensures (greatest-ends first others) in
    let start : seen.start ≡ earliest_start first others =
    sym (at_drop_all (least seen.start) others seen.span-index done) ∙ seen.invariant.start ∙ started in
    let end : seen.end ≡ latest_end first others =
    sym (at_drop_all (greatest seen.end) others seen.span-index done) ∙ seen.invariant.end ∙ ended in
    rw (c.in-Some.ensures.cases.0, ← start, ← end) c.whole_milliseconds.ensures
