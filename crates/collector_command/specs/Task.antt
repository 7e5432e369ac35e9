-- What the program's arguments ask for. This project's own rule (docs/OPERATING.md).
use Rattle.std.specs.Prelude.{ℕ, List, [], ◌∷◌, codes, Bool, true, false, ◌&&◌, ◌||◌, not, ◌==◌, nat_le, nat_lt, length, Option, Some, None, option_map, option_and_then, is_none, is_some, if◌then◌else◌}
use Rattle.std.specs.Str.{bytes_eq}
use Rattle.replay_script.specs.Word.{most_body_bytes, number_of, tested}
use Rattle.collector_command.specs.declared.task.ServeOptions.{ServeOptions}
use Rattle.collector_command.specs.declared.task.Task.{Task}
use Rattle.collector_command.specs.declared.task.Task.TheVariants.{Replay, Serve, Check, Help, Version}

-- the options of `serve`, as docs/OPERATING.md has them
pub record OptionsData : Type 0 where
  pub audit : Bool
  pub verbose : Bool
  pub connections : Option ℕ
  pub senders : Option ℕ
  pub client_timeout : Option ℕ
  pub request_timeout : Option ℕ
  pub back_end_timeout : Option ℕ
  pub body_memory : Option ℕ
  pub queue_bytes : Option ℕ
  pub admin : Option (List ℕ)
  pub admin_token_file : Option (List ℕ)

-- those that a value of the code stands for
abbrev pub options_view : ServeOptions → OptionsData
options_view o = record {
  audit = o.audit;
  verbose = o.verbose;
  connections = o.connections;
  senders = o.senders;
  client_timeout = o.client_timeout;
  request_timeout = o.request_timeout;
  back_end_timeout = o.back_end_timeout;
  body_memory = o.body_memory;
  queue_bytes = o.queue_bytes;
  admin = option_map (λ text. text.now) o.admin;
  admin_token_file = option_map (λ text. text.now) o.admin_token_file;
}

-- what the program is to do
pub data TaskData : Type 0 where
  -- the script on standard input is replayed under the settings in the file of this path
  replay : List ℕ → TaskData
  -- the collector serves under the settings in the file of this path, and so
  serve : List ℕ → OptionsData → TaskData
  -- the settings in the file of this path are checked
  check : List ℕ → TaskData
  -- the help is printed
  help : TaskData
  -- the version is printed
  version : TaskData

-- the task that a value of the code stands for
abbrev pub task_view : Task → TaskData
task_view (Replay settings) = replay settings.now
task_view (Serve settings options) = serve settings.now (options_view options)
task_view (Check settings) = check settings.now
task_view Help = help
task_view Version = version

-- `--help` or `--version`
abbrev pub option_of : List ℕ → Option TaskData
option_of word =
    if bytes_eq word (codes "--help") then Some help
    else if bytes_eq word (codes "--version") then Some version
    else None

-- no option of `serve`
abbrev pub none_given : OptionsData
none_given = record {
  audit = false;
  verbose = false;
  connections = None;
  senders = None;
  client_timeout = None;
  request_timeout = None;
  back_end_timeout = None;
  body_memory = None;
  queue_bytes = None;
  admin = None;
  admin_token_file = None;
}

-- the number from 1 to `most` that a word writes in decimal digits
abbrev pub up_to : ℕ → List ℕ → Option ℕ
up_to most word = tested (λ number. nat_le 1 number && nat_le number most) (number_of word)

-- the number of at least so many that a word writes in decimal digits
abbrev pub at_least : ℕ → List ℕ → Option ℕ
at_least least word = tested (λ number. nat_le least number) (number_of word)

-- the value of an option that may stand once
abbrev pub once : Option ℕ → Option ℕ → Option ℕ
once None value = value
once (Some before) value = None

-- an option that has no value
abbrev pub is_flag : List ℕ → Bool
is_flag word = bytes_eq word (codes "--audit") || bytes_eq word (codes "--verbose")

-- what is given with such an option more, which may stand once
abbrev pub with_flag : OptionsData → List ℕ → Option OptionsData
with_flag given word =
    if bytes_eq word (codes "--audit") && not given.audit then Some (record given { audit = true })
    else if bytes_eq word (codes "--verbose") && not given.verbose then Some (record given { verbose = true })
    else None

-- a limit of time is below 2^32 milliseconds
abbrev pub most_millis : ℕ
most_millis = 4294967295

-- what is given with another option more whose value is any text, which may stand once
abbrev pub with_text : OptionsData → List ℕ → List ℕ → Option OptionsData
with_text given name value =
    if bytes_eq name (codes "--admin") && is_none given.admin then Some (record given { admin = Some value })
    else if bytes_eq name (codes "--admin-token-file") && is_none given.admin_token_file then
    Some (record given { admin_token_file = Some value })
    else None

-- what is given with another option more whose value is so many bytes, which may stand once: the longest body has room,
-- and a queue has some
abbrev pub with_bytes : OptionsData → List ℕ → List ℕ → Option OptionsData
with_bytes given name value =
    if bytes_eq name (codes "--body-memory") && is_none given.body_memory then
    option_map (λ n. record given { body_memory = Some n }) (at_least most_body_bytes value)
    else if bytes_eq name (codes "--queue-bytes") && is_none given.queue_bytes then
    option_map (λ n. record given { queue_bytes = Some n }) (at_least 1 value)
    else with_text given name value

-- what is given with another option more and its value: so many connections and senders, and milliseconds
abbrev pub with_value : OptionsData → List ℕ → List ℕ → Option OptionsData
with_value given name value =
    if bytes_eq name (codes "--connections") then
    option_map (λ n. record given { connections = Some n }) (once given.connections (up_to 65536 value))
    else if bytes_eq name (codes "--senders") then
    option_map (λ n. record given { senders = Some n }) (once given.senders (up_to 4096 value))
    else if bytes_eq name (codes "--client-timeout") then
    option_map (λ n. record given { client_timeout = Some n }) (once given.client_timeout (up_to most_millis value))
    else if bytes_eq name (codes "--request-timeout") then
    option_map (λ n. record given { request_timeout = Some n }) (once given.request_timeout (up_to most_millis value))
    else if bytes_eq name (codes "--back-end-timeout") then
    option_map (λ n. record given { back_end_timeout = Some n })
    (once given.back_end_timeout (up_to most_millis value))
    else with_bytes given name value

-- what is given lacks nothing: a file with a token needs an admin port
abbrev pub is_whole : OptionsData → Bool
is_whole given = is_none given.admin_token_file || is_some given.admin

-- What is given with all options that these words spell, in any order, where it is whole: first of all the value of the
-- option of this name, where one is awaited.
unfoldable pub options_from : OptionsData → Option (List ℕ) → List (List ℕ) → Option OptionsData
options_from given None [] = if is_whole given then Some given else None
options_from given (Some name) [] = None
options_from given (Some name) (word ∷ words) =
    option_and_then (λ more. options_from more None words) (with_value given name word)
options_from given None (word ∷ words) =
    if is_flag word then option_and_then (λ more. options_from more None words) (with_flag given word)
    else options_from given (Some word) words

-- an option, where the path of a file to serve is to stand: one that begins so is spelled `./--`
abbrev pub is_option : List ℕ → Bool
is_option (a ∷ b ∷ rest) = a == 45 && b == 45
is_option (a ∷ []) = false
is_option [] = false

-- `serve` with a path and options behind it, or `replay` or `check` with a path and nothing more
abbrev pub on_file : List ℕ → List ℕ → List (List ℕ) → Option TaskData
on_file command path words =
    if bytes_eq command (codes "serve") then
    if is_option path then None else option_map (serve path) (options_from none_given None words)
    else if nat_lt 0 (length words) then None
    else if bytes_eq command (codes "replay") then Some (replay path)
    else if bytes_eq command (codes "check") then Some (check path)
    else None

-- an option alone, or a command with a path and what stands behind it
abbrev pub task_of : List (List ℕ) → Option TaskData
task_of (word ∷ []) = option_of word
task_of (command ∷ path ∷ words) = on_file command path words
task_of [] = None
