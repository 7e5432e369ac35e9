use Rattle.std.proofs.Common.{◌≡◌, ◌++◌, codes, rules, ap}
use Rattle.service_control.specs.Control.{standing_with, standing_of}
use Rattle.service_control.proofs.Answered.{answers_report, answers_add, answers_retire}
use Rattle.service_control.proofs.control.Control.run_command.Goals as goal

pub returns-in-Some-clause-answered : goal.returns-in-Some-clause-answered
returns-in-Some-clause-answered g c =
    let name = c.in-Some.name.now in
    let text : c.args.line.now ≡ codes "report " ++ name = search rules in
    answers_report _ _ _ _ c.args.line.now _ _ _ _ name _ _ _ _ text (ap (standing_with c.args.roster.now) c.report.ensures.changes) c.report.ensures.reported

pub returns-in-Some-strip_prefix-clause-answered : goal.returns-in-Some-strip_prefix-clause-answered
returns-in-Some-strip_prefix-clause-answered g c =
    let path = c.in-Some-strip_prefix.path.now in
    let text : c.args.line.now ≡ codes "add " ++ path = search rules in
    answers_add _ _ _ _ c.args.line.now _ _ _ _ path (standing_of c.add.new.self c.add.new.roster) _ _ _ text c.add.ensures.last c.add.ensures.added

pub returns-in-Some-strip_prefix-2-clause-answered : goal.returns-in-Some-strip_prefix-2-clause-answered
returns-in-Some-strip_prefix-2-clause-answered g c =
    let name = c.in-Some-strip_prefix-2.name.now in
    let text : c.args.line.now ≡ codes "retire " ++ name = search rules in
    answers_retire _ _ _ _ c.args.line.now _ _ _ _ name (standing_of c.retire.new.self c.retire.new.roster) _ _ _ text c.retire.ensures.retired
