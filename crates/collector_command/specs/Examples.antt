-- What the definitions give on small arguments, faults and texts, for the tests, worked out by hand. This project's own
-- rules.
use Rattle.std.specs.Prelude.{◌≡◌, true, false, codes, ℕ, List, [], ◌∷◌, map, Option, Some, None, Ok, Err}
use Rattle.std.specs.declared.io.ErrorKind.TheVariants as kinds
use Rattle.tail_settings.specs.declared.fault.SettingsFault.TheVariants as settings
use Rattle.trace_collector.specs.declared.engine.ReplayFault.TheVariants as replay_faults
use Rattle.trace_collector.specs.Replay.{IsReplay}
use Rattle.collector_command.specs.Fault.{IsOfFile, IsOfArguments, IsOfText}
use Rattle.collector_command.specs.Run.{IsRun}
use Rattle.collector_command.specs.Status.{status_of, end_status}
use Rattle.collector_command.specs.Task.{OptionsData, TaskData, replay, serve, check, help, version, none_given, task_of}
use Rattle.collector_command.specs.Token.{is_token, without_end}
use Rattle.collector_command.specs.declared.check.End.TheVariants.{Good, Faulty}
use Rattle.collector_command.specs.declared.fault.ProgramFault.{ProgramFault}
use Rattle.collector_command.specs.declared.fault.ProgramFault.TheVariants.{Usage, Replay}

-- ---- arguments

abbrev pub command : List ℕ
command = codes "replay"

abbrev pub path : List ℕ
path = codes "settings.toml"

-- what these options behind a path ask for
abbrev pub served_with : List (List ℕ) → Option TaskData
served_with options = task_of (codes "serve" ∷ path ∷ options)

abbrev pub audited_and_verbose : OptionsData
audited_and_verbose = record none_given { audit = true; verbose = true }

-- the options that have a number
abbrev pub numbered : List (List ℕ)
numbered = codes "--connections" ∷ codes "--senders" ∷ codes "--client-timeout" ∷ codes "--request-timeout"
    ∷ codes "--back-end-timeout" ∷ []

pub record Arguments : Type 0 where
  pub named : task_of (command ∷ path ∷ []) ≡ Some (replay path)
  -- any word is a path, also that of the command, and an empty one
  pub same_word : task_of (command ∷ command ∷ []) ≡ Some (replay command)
  pub empty_path : task_of (command ∷ [] ∷ []) ≡ Some (replay [])
  pub option_as_path : task_of (command ∷ codes "--help" ∷ []) ≡ Some (replay (codes "--help"))
  pub checked : task_of (codes "check" ∷ path ∷ []) ≡ Some (check path)
  pub check_alone : task_of (codes "check" ∷ []) ≡ None
  pub check_two : task_of (codes "check" ∷ path ∷ path ∷ []) ≡ None
  pub help_alone : task_of (codes "--help" ∷ []) ≡ Some help
  pub version_alone : task_of (codes "--version" ∷ []) ≡ Some version
  pub help_and_more : task_of (codes "--help" ∷ path ∷ []) ≡ None
  pub no_option : task_of (codes "-h" ∷ []) ≡ None
  pub one_word_more : task_of (command ∷ path ∷ path ∷ []) ≡ None
  pub no_path : task_of (command ∷ []) ≡ None
  pub none : task_of [] ≡ None
  pub served : task_of (codes "serve" ∷ path ∷ []) ≡ Some (serve path none_given)
  pub audited : served_with (codes "--audit" ∷ []) ≡ Some (serve path (record none_given { audit = true }))
  pub serve_alone : task_of (codes "serve" ∷ []) ≡ None
  pub serve_two : served_with (path ∷ []) ≡ None
  pub audit_first : task_of (codes "serve" ∷ codes "--audit" ∷ path ∷ []) ≡ None
  pub audit_alone : task_of (codes "serve" ∷ codes "--audit" ∷ []) ≡ None
  pub options_alone : task_of (codes "serve" ∷ codes "--verbose" ∷ codes "--audit" ∷ []) ≡ None
  pub as_a_path : task_of (codes "serve" ∷ codes "./--audit" ∷ []) ≡ Some (serve (codes "./--audit") none_given)
  pub audited_and_more : served_with (codes "--audit" ∷ path ∷ []) ≡ None
  pub verbose : served_with (codes "--verbose" ∷ []) ≡ Some (serve path (record none_given { verbose = true }))
  pub both : served_with (codes "--audit" ∷ codes "--verbose" ∷ []) ≡ Some (serve path audited_and_verbose)
  pub other_way_round : served_with (codes "--verbose" ∷ codes "--audit" ∷ []) ≡ Some (serve path audited_and_verbose)
  pub twice : served_with (codes "--verbose" ∷ codes "--verbose" ∷ []) ≡ None
  pub both_and_more : served_with (codes "--audit" ∷ codes "--verbose" ∷ path ∷ []) ≡ None
  pub all : served_with (codes "--back-end-timeout" ∷ codes "4294967295" ∷ codes "--audit" ∷ codes "--senders" ∷ codes "4096"
      ∷ codes "--client-timeout" ∷ codes "1" ∷ codes "--verbose" ∷ codes "--request-timeout" ∷ codes "20"
      ∷ codes "--connections" ∷ codes "065536" ∷ codes "--admin-token-file" ∷ codes "token"
      ∷ codes "--body-memory" ∷ codes "9999999999999999999" ∷ codes "--queue-bytes" ∷ codes "1"
      ∷ codes "--admin" ∷ codes "[::1]:9464" ∷ [])
      ≡ Some (serve path (record {
        audit = true;
        verbose = true;
        connections = Some 65536;
        senders = Some 4096;
        client_timeout = Some 1;
        request_timeout = Some 20;
        back_end_timeout = Some 4294967295;
        body_memory = Some 9999999999999999999;
        queue_bytes = Some 1;
        admin = Some (codes "[::1]:9464");
        admin_token_file = Some (codes "token");
      }))
  pub token_behind_port : served_with (codes "--admin" ∷ codes "[::1]:9464" ∷ codes "--admin-token-file" ∷ codes "token" ∷ [])
      ≡ Some (serve path (record none_given { admin = Some (codes "[::1]:9464"); admin_token_file = Some (codes "token") }))
  pub port_alone : served_with (codes "--admin" ∷ codes "[::1]:9464" ∷ [])
      ≡ Some (serve path (record none_given { admin = Some (codes "[::1]:9464") }))
  pub token_alone : served_with (codes "--admin-token-file" ∷ codes "token" ∷ []) ≡ None
  pub token_first : served_with (codes "--admin-token-file" ∷ codes "token" ∷ codes "--audit" ∷ []) ≡ None
  pub token_last : served_with (codes "--senders" ∷ codes "1" ∷ codes "--admin-token-file" ∷ codes "token" ∷ []) ≡ None
  -- the port's option is the token's file here
  pub port_as_token : served_with (codes "--admin-token-file" ∷ codes "--admin" ∷ []) ≡ None
  pub no_value : served_with (codes "--connections" ∷ []) ≡ None
  pub option_as_value : served_with (codes "--connections" ∷ codes "--audit" ∷ []) ≡ None
  pub too_few : map (λ option. served_with (option ∷ codes "0" ∷ [])) numbered ≡ None ∷ None ∷ None ∷ None ∷ None ∷ []
  pub too_many : served_with (codes "--connections" ∷ codes "65537" ∷ []) ≡ None
  pub too_many_senders : served_with (codes "--senders" ∷ codes "4097" ∷ []) ≡ None
  pub too_long : served_with (codes "--client-timeout" ∷ codes "4294967296" ∷ []) ≡ None
  pub too_long_request : served_with (codes "--request-timeout" ∷ codes "4294967296" ∷ []) ≡ None
  pub too_long_back_end : served_with (codes "--back-end-timeout" ∷ codes "4294967296" ∷ []) ≡ None
  pub least_memory : served_with (codes "--body-memory" ∷ codes "20971520" ∷ [])
      ≡ Some (serve path (record none_given { body_memory = Some 20971520 }))
  pub too_little_memory : served_with (codes "--body-memory" ∷ codes "20971519" ∷ []) ≡ None
  pub too_much_memory : served_with (codes "--body-memory" ∷ codes "10000000000000000000" ∷ []) ≡ None
  pub memory_twice : served_with (codes "--body-memory" ∷ codes "20971520" ∷ codes "--body-memory" ∷ codes "20971520" ∷ [])
      ≡ None
  pub no_queue : served_with (codes "--queue-bytes" ∷ codes "0" ∷ []) ≡ None
  pub too_much_queue : served_with (codes "--queue-bytes" ∷ codes "10000000000000000000" ∷ []) ≡ None
  pub queue_twice : served_with (codes "--queue-bytes" ∷ codes "1" ∷ codes "--queue-bytes" ∷ codes "2" ∷ []) ≡ None
  pub signed : served_with (codes "--senders" ∷ codes "+1" ∷ []) ≡ None
  pub no_digits : served_with (codes "--senders" ∷ [] ∷ []) ≡ None
  pub joined : served_with (codes "--senders=1" ∷ []) ≡ None
  pub twice_numbered : served_with (codes "--senders" ∷ codes "1" ∷ codes "--audit" ∷ codes "--senders" ∷ codes "1" ∷ []) ≡ None
  pub unknown : served_with (codes "--receivers" ∷ codes "1" ∷ []) ≡ None
  pub replay_audited : task_of (command ∷ path ∷ codes "--audit" ∷ []) ≡ None
  pub other_command : task_of (codes "run" ∷ path ∷ []) ≡ None
  pub capital : task_of (codes "Replay" ∷ path ∷ []) ≡ None
  pub longer_command : task_of (codes "replays" ∷ path ∷ []) ≡ None
  pub other_order : task_of (path ∷ command ∷ []) ≡ None

-- ---- statuses

-- the four of the program's own words: 0 done, 1 a fault, 2 wrong usage, 3 no memory
pub record Statuses : Type 0 where
  pub done : end_status (Ok Good) ≡ 0
  pub checked : end_status (Ok Faulty) ≡ 1
  pub faults : map status_of (Replay (replay_faults.Settings settings.NotToml) ∷ Replay (replay_faults.Script 7)
      ∷ Replay replay_faults.Line ∷ [])
      ≡ 1 ∷ 1 ∷ 1 ∷ []
  pub usage : status_of Usage ≡ 2
  pub memory : status_of (Replay replay_faults.OutOfMemory) ≡ 3
  pub ended : map (λ fault. end_status (Err fault))
      (Replay replay_faults.Line ∷ Usage ∷ Replay replay_faults.OutOfMemory ∷ [])
      ≡ 1 ∷ 2 ∷ 3 ∷ []

-- ---- faults

-- of a file that isn't there, and of one for which there was no memory
pub record OfFiles : Type 0 where
  pub memory : IsOfFile kinds.OutOfMemory (Replay replay_faults.OutOfMemory)
  pub memory_as_other : IsOfFile kinds.OutOfMemory (Replay replay_faults.Line) → ⊥
  pub not_found : IsOfFile kinds.NotFound (Replay replay_faults.Line)
  pub not_found_as_memory : IsOfFile kinds.NotFound (Replay replay_faults.OutOfMemory) → ⊥
  pub not_found_as_usage : IsOfFile kinds.NotFound Usage → ⊥

-- of arguments that aren't UTF-8, and of those for which there was no memory
pub record OfArguments : Type 0 where
  pub memory : IsOfArguments kinds.OutOfMemory (Replay replay_faults.OutOfMemory)
  pub not_utf8 : IsOfArguments kinds.InvalidData Usage
  pub not_utf8_as_input : IsOfArguments kinds.InvalidData (Replay replay_faults.Line) → ⊥

-- no letter of UTF-8 begins with 255, and 226 130 are two of the three bytes of a euro sign; 97 is the letter a
pub record OfTexts : Type 0 where
  pub no_text : IsOfText (255 ∷ []) (Replay (replay_faults.Settings settings.NotToml))
  pub cut : IsOfText (97 ∷ 226 ∷ 130 ∷ []) (Replay (replay_faults.Settings settings.NotToml))
  pub as_usage : IsOfText (255 ∷ []) Usage → ⊥
  pub whole : (fault : ProgramFault) → IsOfText (97 ∷ 226 ∷ 130 ∷ 172 ∷ []) fault → ⊥
  pub letter : (fault : ProgramFault) → IsOfText (97 ∷ []) fault → ⊥
  pub empty : (fault : ProgramFault) → IsOfText [] fault → ⊥

-- ---- runs

-- of a file that is no text whatever the script, and of one that is, the letter a, as its replay ends
pub record Runs : Type 0 where
  pub no_text : (script : List ℕ) → IsRun (255 ∷ []) script [] (Err (Replay (replay_faults.Settings settings.NotToml)))
  pub written_without_settings : (script : List ℕ)
      → IsRun (255 ∷ []) script (10 ∷ []) (Err (Replay (replay_faults.Settings settings.NotToml))) → ⊥
  pub no_text_is_done : (script written : List ℕ) → IsRun (255 ∷ []) script written (Ok tt) → ⊥
  pub no_text_is_no_memory : (script : List ℕ) → IsRun (255 ∷ []) script [] (Err (Replay replay_faults.OutOfMemory)) → ⊥
  pub replayed : (script written : List ℕ) → IsReplay (97 ∷ []) script written (Err replay_faults.Line)
      → IsRun (97 ∷ []) script written (Err (Replay replay_faults.Line))
  pub not_replayed : (script written : List ℕ) → (IsReplay (97 ∷ []) script written (Ok tt) → ⊥)
      → IsRun (97 ∷ []) script written (Ok tt) → ⊥
  pub wrong_usage : (script written : List ℕ) → IsRun (97 ∷ []) script written (Err Usage) → ⊥

-- ---- tokens

-- characters that one may have, `=` at its end alone, and no blank anywhere
pub record Tokens : Type 0 where
  pub plain : is_token (codes "aZ09-._~+/") ≡ true
  pub padded : is_token (codes "QUJD==") ≡ true
  pub empty : is_token [] ≡ false
  pub padding_alone : is_token (codes "==") ≡ false
  pub padded_within : is_token (codes "QU=JD") ≡ false
  pub blank_within : is_token (codes "QU JD") ≡ false
  pub blank_behind : is_token (codes "QUJD ") ≡ false
  pub tab_behind : is_token (codes "QUJD\t") ≡ false
  pub two_lines : is_token (codes "QUJD\nQUJD") ≡ false
  pub quoted : is_token (codes "\"QUJD\"") ≡ false
  pub not_ascii : is_token (195 ∷ 169 ∷ []) ≡ false

-- a line feed, and a carriage return before it, are no part of the text; each once, at its end alone, in that order
pub record Ends : Type 0 where
  pub line_feed : without_end (codes "QUJD\n") ≡ codes "QUJD"
  pub both : without_end (codes "QUJD\r\n") ≡ codes "QUJD"
  pub carriage_return : without_end (codes "QUJD\r") ≡ codes "QUJD"
  pub no_end : without_end (codes "QUJD") ≡ codes "QUJD"
  pub two_line_feeds : without_end (codes "QUJD\n\n") ≡ codes "QUJD\n"
  pub two_carriage_returns : without_end (codes "QUJD\r\r\n") ≡ codes "QUJD\r"
  pub other_order : without_end (codes "QUJD\n\r") ≡ codes "QUJD\n"
  pub within : without_end (codes "QU\nJD") ≡ codes "QU\nJD"
  pub blank : without_end (codes "QUJD ") ≡ codes "QUJD "
  pub end_alone : without_end (codes "\r\n") ≡ []
  pub empty : without_end [] ≡ []
