use Rattle.std.proofs.Common.{sym, ◌∙◌}
use Rattle.replay_script.proofs.Places.{none_before, ends_at, none_in}
use Rattle.replay_script.proofs.input.find_fragment.Goals as goal

pub returns-in-Some-clause-inside : goal.returns-in-Some-clause-inside
returns-in-Some-clause-inside c = none_before c.args.shown.now c.in-Some.at (sym c.line_end.ensures ∙ c.in-Some.is)

pub returns-in-Some-clause-taken : goal.returns-in-Some-clause-taken
returns-in-Some-clause-taken c = ends_at c.args.shown.now c.in-Some.at (sym c.line_end.ensures ∙ c.in-Some.is)

pub returns-else-is_empty-clause-inside : goal.returns-else-is_empty-clause-inside
returns-else-is_empty-clause-inside c = none_in c.args.shown.now (sym c.line_end.ensures ∙ c.in-None.is)
