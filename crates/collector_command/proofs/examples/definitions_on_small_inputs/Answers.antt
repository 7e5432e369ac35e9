use Rattle.std.proofs.Common.{◌≡◌, ℕ, true, false, List, [], ◌∷◌, refl, sym, ◌∙◌}
use Rattle.std.proofs.lemmas.Bool.{false≢true}
use Rattle.std.proofs.lemmas.Str.{IsUtf8-from_is_utf8, is_utf8-from_IsUtf8}
use Rattle.std.specs.Char.{encode_utf8}
use Rattle.std.specs.Str.{IsUtf8, chars, is_utf8}
use Rattle.std.specs.declared.io.ErrorKind.TheVariants as kinds
use Rattle.replay_script.specs.Word.{number_of}
use Rattle.trace_collector.specs.declared.engine.ReplayFault.TheVariants as replay_faults
use Rattle.collector_command.specs.Task.{options_from}
use Rattle.collector_command.specs.declared.fault.ProgramFault.TheVariants.{Usage, Replay}
use Rattle.collector_command.proofs.examples.definitions_on_small_inputs.Goals as goal

pub returns-clause-arguments : goal.returns-clause-arguments
unfolding number_of options_from
returns-clause-arguments c = record {
  named = refl;
  same_word = refl;
  empty_path = refl;
  option_as_path = refl;
  checked = refl;
  check_alone = refl;
  check_two = refl;
  help_alone = refl;
  version_alone = refl;
  help_and_more = refl;
  no_option = refl;
  one_word_more = refl;
  no_path = refl;
  none = refl;
  served = refl;
  audited = refl;
  serve_alone = refl;
  serve_two = refl;
  audit_first = refl;
  audit_alone = refl;
  options_alone = refl;
  as_a_path = refl;
  audited_and_more = refl;
  verbose = refl;
  both = refl;
  other_way_round = refl;
  twice = refl;
  both_and_more = refl;
  all = refl;
  token_behind_port = refl;
  port_alone = refl;
  token_alone = refl;
  token_first = refl;
  token_last = refl;
  port_as_token = refl;
  no_value = refl;
  option_as_value = refl;
  too_few = refl;
  too_many = refl;
  too_many_senders = refl;
  too_long = refl;
  too_long_request = refl;
  too_long_back_end = refl;
  least_memory = refl;
  too_little_memory = refl;
  too_much_memory = refl;
  memory_twice = refl;
  no_queue = refl;
  too_much_queue = refl;
  queue_twice = refl;
  signed = refl;
  no_digits = refl;
  joined = refl;
  twice_numbered = refl;
  unknown = refl;
  replay_audited = refl;
  other_command = refl;
  capital = refl;
  longer_command = refl;
  other_order = refl;
}

pub returns-clause-statuses : goal.returns-clause-statuses
returns-clause-statuses c = record { done = refl; checked = refl; faults = refl; usage = refl; memory = refl; ended = refl }

-- ---- faults

is_memory : kinds.NotFound ≡ kinds.OutOfMemory → ⊥
is_memory same = cc

pub returns-clause-of_files : goal.returns-clause-of_files
returns-clause-of_files c = record {
  memory = record { memory = λ same. refl; other = λ apart. absurd (apart refl) };
  memory_as_other = λ is. let told : Replay replay_faults.Line ≡ Replay replay_faults.OutOfMemory = is.memory refl in cc;
  not_found = record { memory = λ same. absurd (is_memory same); other = λ apart. refl };
  not_found_as_memory = λ is. let told : Replay replay_faults.OutOfMemory ≡ Replay replay_faults.Line = is.other is_memory in cc;
  not_found_as_usage = λ is. let told : Usage ≡ Replay replay_faults.Line = is.other is_memory in cc;
}

is_invalid : kinds.InvalidData ≡ kinds.OutOfMemory → ⊥
is_invalid same = cc

pub returns-clause-of_arguments : goal.returns-clause-of_arguments
returns-clause-of_arguments c = record {
  memory = record { memory = λ same. refl; other = λ apart. absurd (apart refl) };
  not_utf8 = record { memory = λ same. absurd (is_invalid same); other = λ apart. refl };
  not_utf8_as_input = λ is. let told : Replay replay_faults.Line ≡ Usage = is.other is_invalid in cc;
}

is_text : (bytes : List ℕ) → is_utf8 bytes ≡ true → IsUtf8 bytes
is_text bytes e = IsUtf8-from_is_utf8 bytes e

no_text : (bytes : List ℕ) → is_utf8 bytes ≡ false → IsUtf8 bytes → ⊥
no_text bytes e text = false≢true (sym e ∙ is_utf8-from_IsUtf8 bytes text)

pub returns-clause-of_texts : goal.returns-clause-of_texts
unfolding is_utf8 chars encode_utf8
returns-clause-of_texts c = record {
  no_text = record { unspelled = no_text (255 ∷ []) refl; told = refl };
  cut = record { unspelled = no_text (97 ∷ 226 ∷ 130 ∷ []) refl; told = refl };
  as_usage = λ is. let told = is.told in cc;
  whole = λ fault is. is.unspelled (is_text (97 ∷ 226 ∷ 130 ∷ 172 ∷ []) refl);
  letter = λ fault is. is.unspelled (is_text (97 ∷ []) refl);
  empty = λ fault is. is.unspelled (is_text [] refl);
}

a_text : IsUtf8 (97 ∷ [])
unfolding is_utf8 chars encode_utf8
a_text = is_text (97 ∷ []) refl

unspelled : IsUtf8 (255 ∷ []) → ⊥
unfolding is_utf8 chars encode_utf8
unspelled = no_text (255 ∷ []) refl

pub returns-clause-runs : goal.returns-clause-runs
returns-clause-runs c = record {
  no_text = λ script. record { spelled = λ text. absurd (unspelled text); nothing_written = λ none. refl; not_toml = λ none. refl };
  written_without_settings = λ script is. let nothing = is.nothing_written unspelled in cc;
  no_text_is_done = λ script written is. let ended = is.not_toml unspelled in cc;
  no_text_is_no_memory = λ script is. let ended = is.not_toml unspelled in cc;
  replayed = λ script written is. record { spelled = λ text. is; nothing_written = λ none. absurd (none a_text); not_toml = λ none. absurd (none a_text) };
  not_replayed = λ script written never is. never (is.spelled a_text);
  wrong_usage = λ script written is. is.spelled a_text;
}

pub returns-clause-tokens : goal.returns-clause-tokens
returns-clause-tokens c = record {
  plain = refl;
  padded = refl;
  empty = refl;
  padding_alone = refl;
  padded_within = refl;
  blank_within = refl;
  blank_behind = refl;
  tab_behind = refl;
  two_lines = refl;
  quoted = refl;
  not_ascii = refl;
}

pub returns-clause-ends : goal.returns-clause-ends
returns-clause-ends c = record {
  line_feed = refl;
  both = refl;
  carriage_return = refl;
  no_end = refl;
  two_line_feeds = refl;
  two_carriage_returns = refl;
  other_order = refl;
  within = refl;
  blank = refl;
  end_alone = refl;
  empty = refl;
}
