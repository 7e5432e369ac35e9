-- What an answer unfolds to compute the lines of a script, and those that answer them, on literals.
use Rattle.std.specs.Fmt.{digits}
use Rattle.std.specs.Prelude.{⊤}
use Rattle.hex.specs.Hex.{encode_with, decode_pairs}
use Rattle.replay_script.specs.Word.{name_of, number_of, body_of, bytes_of, random_word_of, status_of, seconds_of}
use Rattle.replay_script.specs.Command.{post_of, turn_of, answer_of, back_end_answer_from, back_end_answer_of, tenant_of, add_of, command_from, command_of}
use Rattle.replay_script.specs.Line.{kind_of}

unfoldable pub script_on_literals : ⊤
unfolding kind_of command_of command_from post_of turn_of answer_of back_end_answer_from back_end_answer_of tenant_of add_of name_of number_of body_of bytes_of random_word_of status_of seconds_of decode_pairs
script_on_literals = tt

unfoldable pub answers_on_literals : ⊤
unfolding digits encode_with
answers_on_literals = tt
