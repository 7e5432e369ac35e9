use Rattle.std.proofs.Common.{◌≡◌, true, arith, rules}
use Rattle.std.specs.List.{list_all}
use Rattle.std.specs.Char.{is_ascii_digit}
use Rattle.std.proofs.lemmas.Grind.{common_steps}
use Rattle.replay_script.specs.Word.{number_of}
use Rattle.replay_script.proofs.Words.{number_is}
use Rattle.collector_command.proofs.task.number.Goals as goal

pub returns : goal.returns
returns c =
    let word = c.args.word.now in
    let all : list_all is_ascii_digit word ≡ true = grind (arith, common_steps) in
    number_is word c.parse.result c.ok.result (grind (arith, common_steps)) (omega arith) all c.parse.ensures.value.0 c.ok.ensures.value

pub returns-then-is_empty : goal.returns-then-is_empty
unfolding number_of
returns-then-is_empty c = first_of (search rules, grind (arith, common_steps))
