use Rattle.std.proofs.Common.{rules, ◌≡◌, ◌<◌, ◌+◌, [], length, ap, sym, ◌∙◌, arith, subst}
use Rattle.crossbeam_queue.specs.Passes.{view as known}
use Rattle.job_lane.specs.Lane.{LaneName, LaneShape}
use Rattle.job_lane.specs.Rule.{seat_view}
use Rattle.job_lane.proofs.Moves.{counts}
use Rattle.job_lane.proofs.Closing.{IsTakenIn, taken_first, taken_next, taken_end}
use Rattle.job_lane.proofs.lane.Lane.close.Goals as goal

pub loop-last-init : goal.loop-last-init
loop-last-init g c =
    let name = c.keeper.view_is ∙ c.requires.keeper ∙ sym (ap (λ (s : LaneShape). s.name) c.self.view_is) in
    let root = c.keeper.invariant.2 ∙ ap (λ n. seat_view 0 n [] []) (ap (λ (l : LaneName). l.seats) c.keeper.view_is) in
    ((ap (λ (l : LaneName). l.table) name, c.keeper.invariant.0), taken_first _ _ _ root c.requires.same_lane)

pub loop-last-preserved : goal.loop-last-preserved
loop-last-preserved g c =
    let t = c.take_in.ensures in
    let n = taken_next _ _ _ _ _ _ _ _ _ c.loop-last.invariant.1 c.in-Some.ensures.items t.root.1 t.pushed t.rising in
    (t.root.0, subst (λ m. IsTakenIn c.args.keeper c.args.seats.items c.pop.new.self.items (known c.take_in.new.root) (c.loop-last.pushed + m)) (sym c.from-pushed.ensures) n)

pub len_as-left-requires-clause-rule : goal.len_as-left-requires-clause-rule
len_as-left-requires-clause-rule g c = counts _ _

pub overflow_sub-result : goal.overflow_sub-result
overflow_sub-result g c =
    let none : length c.loop-last.seats.items ≡ 0 = search rules in
    let all = sym c.args.seats.ok.0 ∙ c.requires.all in
    let some = subst (λ n. 0 < n) (ap (λ (l : LaneName). l.seats) c.keeper.view_is) c.keeper.invariant.1 in
    (taken_end _ _ _ _ _ _ c.loop-last.invariant.1 none all some c.len_as-left.ensures.rule.1).0

pub returns-clause-run : goal.returns-clause-run
returns-clause-run g c =
    let none : length c.loop-last.seats.items ≡ 0 = search rules in
    let all = sym c.args.seats.ok.0 ∙ c.requires.all in
    let some = subst (λ n. 0 < n) (ap (λ (l : LaneName). l.seats) c.keeper.view_is) c.keeper.invariant.1 in
    (taken_end _ _ _ _ _ _ c.loop-last.invariant.1 none all some c.len_as-left.ensures.rule.1).1

pub returns-clause-pushed : goal.returns-clause-pushed
returns-clause-pushed g c =
    let none : length c.loop-last.seats.items ≡ 0 = search rules in
    let all = sym c.args.seats.ok.0 ∙ c.requires.all in
    let some = subst (λ n. 0 < n) (ap (λ (l : LaneName). l.seats) c.keeper.view_is) c.keeper.invariant.1 in
    omega (arith, (taken_end _ _ _ _ _ _ c.loop-last.invariant.1 none all some c.len_as-left.ensures.rule.1).0)
