use Rattle.std.proofs.Common.{◌≡◌, true, sym, ◌∙◌, arith}
use Rattle.std.specs.List.{list_all}
use Rattle.std.proofs.lemmas.Grind.{common_steps}
use Rattle.replay_script.specs.Word.{is_name_byte}
use Rattle.replay_script.proofs.Words.{told, ascii_of_name, name_is}
use Rattle.replay_script.proofs.word.name.Goals as goal

pub returns : goal.returns
returns c =
    let word = c.args.word.now in
    let all : list_all is_name_byte c.args.word.now ≡ true = grind (arith, common_steps) in
    told _ c.from_utf8.result c.ok.result word (ascii_of_name word all) c.from_utf8.ensures.cases c.ok.ensures.value
    ∙ sym (name_is word (grind (arith, common_steps)) (omega arith) all)
