use Rattle.std.proofs.Common.{◌≡◌, true, arith, subst}
use Rattle.std.specs.List.{list_all}
use Rattle.std.specs.Char.{is_ascii_digit}
use Rattle.std.specs.Str.Parse.{ParsesUnsigned}
use Rattle.std.proofs.lemmas.Grind.{common_steps}
use Rattle.replay_script.proofs.Words.{told, ascii_of_digits, number_is, no_text, same_text}
use Rattle.replay_script.proofs.word.number.Goals as goal

pub returns-in_err-digits : goal.returns-in_err-digits
returns-in_err-digits c =
    let word = c.args.word.now in
    let all : list_all is_ascii_digit c.args.word.now ≡ true = grind (arith, common_steps) in
    let text = told _ c.from_utf8.result c.ok.result word (ascii_of_digits word all) c.from_utf8.ensures.cases c.ok.ensures.value in
    absurd (no_text c.ok.result word text c.in_err-digits.was)

pub returns : goal.returns
returns c =
    let word = c.args.word.now in
    let all : list_all is_ascii_digit c.args.word.now ≡ true = grind (arith, common_steps) in
    let text = told _ c.from_utf8.result c.ok.result word (ascii_of_digits word all) c.from_utf8.ensures.cases c.ok.ensures.value in
    let same = same_text c.ok.result word _ text c.in_ok-digits.was in
    let parsed = subst (λ digits. ParsesUnsigned 64 10 digits c.parse.result) same c.parse.ensures.value.0 in
    number_is word c.parse.result c.ok-2.result (grind (arith, common_steps)) (omega arith) all parsed c.ok-2.ensures.value
