-- What the definitions give on a small script, worked out by hand, for the tests. Scripts are this project's own rule
-- (docs/SCRIPT.md), bodies OTLP 1.x's, in the proto3 encoding.
use Rattle.std.specs.Prelude.{◌≡◌, ℕ, pos, List, [], ◌∷◌, ◌++◌, length, replicate, codes, Some, None, Ok, Err}
use Rattle.otlp_trace.specs.Data.{SpanData, RequestData}
use Rattle.tail_settings.specs.Fault.{not_toml}
use Rattle.tail_settings.specs.Examples.{default_global}
use Rattle.tail_settings.specs.SendingQueue.{most_queue_bytes}
use Rattle.tail_settings.specs.Settings.{SettingsData, TenantData, settings_of}
use Rattle.tail_settings.specs.declared.fault.SettingsFault.TheVariants.{NotToml, TooMany}
use Rattle.send_retry.specs.Class.{Failed}
use Rattle.collector_tests.specs.Parts.{plain, body}
use Rattle.replay_script.specs.Command.{CommandData, Post, Turn, Answer, Report, Drain}
use Rattle.trace_collector.specs.declared.engine.ReplayFault.TheVariants.{Settings, Script, Line, OutOfMemory}
use Rattle.trace_collector.specs.Script.{ScriptText, BeginsScriptText}
use Rattle.replay_script.specs.Line.{lines_of}
use Rattle.trace_collector.specs.Own.{commands_of, lines_for, own_commands}
use Rattle.trace_collector.specs.Alone.{AnswersAlone}
use Rattle.trace_collector.specs.Replay.{IsReplay}

-- ---- bodies

-- a span of these ids alone, as a message
abbrev pub span_data : ℕ → ℕ → SpanData
span_data trace id = record {
  trace_id = replicate 16 trace;
  span_id = replicate 8 id;
  trace_state = [];
  parent_span_id = [];
  name = [];
  kind = pos 0;
  start_time_unix_nano = 0;
  end_time_unix_nano = 0;
  attributes = [];
  dropped_attributes_count = 0;
  events = [];
  dropped_events_count = 0;
  links = [];
  dropped_links_count = 0;
  status = None;
  flags = 0;
  unknown = [];
}

-- what `body` means: that span in no resource and no scope
abbrev pub value : ℕ → ℕ → RequestData
value trace id = record {
  resource_spans = record {
    resource = None;
    scope_spans = record { scope = None; spans = span_data trace id ∷ []; schema_url = [] } ∷ [];
    schema_url = [];
  } ∷ [];
}

-- ---- tenants in shards

-- so many shards, and else the defaults
abbrev pub with_shards : ℕ → List TenantData → SettingsData
with_shards shards tenants = record {
  global = record default_global { shards = shards };
  tenants = tenants;
  next = length tenants;
  queue_bytes = most_queue_bytes;
}

-- ---- one tenant, whose name is `a`, in one shard

abbrev pub one_tenant : SettingsData
one_tenant = with_shards 1 (record { number = 0; name = codes "a"; section = plain } ∷ [])

-- a body of one span, whose trace id is 11 and whose span id is 21 again and again, in hexadecimal digits
abbrev pub hex : List ℕ
hex = codes "0a20121e121c0a101111111111111111111111111111111112082121212121212121"

-- the counters before any span came
abbrev pub counters : List ℕ
counters = codes "accepted=0 undecided=0 pending=0 queued=0 active=0 exported=0 not_sampled=0 too_early=0 queue_full=0 retry_exhausted=0 back_end_refused=0 back_end_rejected=0 invalid=0 over_budget=0"

-- a post, a turn before its span is due and one just then; the job has the 34 bytes that came
abbrev pub script : List ℕ
script = codes "post a 0 " ++ (hex ++ codes "\nturn 0 999\nturn 0 1000\n")

abbrev pub told : List ℕ
told = codes "reply a 200 -\nidle 0\njob a 1 " ++ (hex ++ codes "\n")

-- as far as it was written when a reader or a writer failed
abbrev pub begun : List ℕ
begun = codes "reply a 200 -\nid"

-- there is no shard 1
abbrev pub faulty_script : List ℕ
faulty_script = codes "turn 0 0\nturn 1 0\n"

pub record Scripts : Type 0 where
  pub text : ScriptText one_tenant script told None
  pub begins : BeginsScriptText one_tenant script begun
  pub fault : ScriptText one_tenant faulty_script (codes "idle 0\n") (Some 2)

-- ---- a tenant's own part

-- two tenants do all that a script can say, and of three turns one is idle
abbrev pub shared_script : List ℕ
shared_script = codes "post a 0 -\n# b 1\npost b 5 0a\nturn 0 999\nturn 2 1000\nturn 1 2000\npost a 2000 00\nanswer b 3 1 0 failed - -\nreport a 7\ndrain b 8\n"

abbrev pub shared_text : List ℕ
shared_text = codes "reply a 200 -\nreply b 200 -\nidle 0\njob a 1 0aff\nworked b\nreply a 400 00\nrefused b 21\nreport a b=1\ndone b\n"

abbrev pub shared_commands : List CommandData
shared_commands = commands_of (lines_of shared_script)

-- each line is the tenant's whose name is its second word; a shard's number is none, also where a tenant is called `0`.
-- Where a turn went is not the tenant's matter
pub record OwnParts : Type 0 where
  pub lines_of_a : lines_for (codes "a") shared_commands (lines_of shared_text)
      ≡ codes "reply a 200 -" ∷ codes "job a 1 0aff" ∷ codes "reply a 400 00" ∷ codes "report a b=1" ∷ []
  pub lines_of_b : lines_for (codes "b") shared_commands (lines_of shared_text)
      ≡ codes "reply b 200 -" ∷ codes "worked b" ∷ codes "refused b 21" ∷ codes "done b" ∷ []
  pub lines_of_0 : lines_for (codes "0") shared_commands (lines_of shared_text) ≡ []
  pub a_longer_name : lines_for (codes "ab") shared_commands (lines_of shared_text) ≡ []
  pub commands_of_a : own_commands (codes "a") shared_commands (lines_of shared_text)
      ≡ Post (codes "a") 0 [] ∷ Turn 0 1000 ∷ Post (codes "a") 2000 (0 ∷ []) ∷ Report (codes "a") 7 ∷ []
  pub commands_of_b : own_commands (codes "b") shared_commands (lines_of shared_text)
      ≡ Post (codes "b") 5 (10 ∷ []) ∷ Turn 0 2000 ∷ Answer (codes "b") 3 1 0 Failed ∷ Drain (codes "b") 8 ∷ []
  pub commands_of_0 : own_commands (codes "0") shared_commands (lines_of shared_text) ≡ []

-- of the script of one tenant, the idle turn is not the tenant's own; alone it is answered 200 and has its job
pub record AloneParts : Type 0 where
  pub commands : own_commands (codes "a") (commands_of (lines_of script)) (lines_of told)
      ≡ Post (codes "a") 0 (body 17 33) ∷ Turn 0 1000 ∷ []
  pub lines : lines_for (codes "a") (commands_of (lines_of script)) (lines_of told)
      ≡ codes "reply a 200 -" ∷ (codes "job a 1 " ++ hex) ∷ []
  pub alone : AnswersAlone (codes "a") plain [] (Post (codes "a") 0 (body 17 33) ∷ Turn 0 1000 ∷ [])
      (codes "reply a 200 -" ∷ (codes "job a 1 " ++ hex) ∷ [])
  pub no_value : AnswersAlone (codes "a") plain [] (Post (codes "a") 0 (0 ∷ 0 ∷ []) ∷ [])
      (codes "reply a 400 120c6261642070726f746f627566" ∷ [])
  pub asked : AnswersAlone (codes "a") plain []
      (Answer (codes "a") 5 1 0 Failed ∷ Drain (codes "a") 6 ∷ Report (codes "a") 7 ∷ [])
      (codes "refused a 21" ∷ codes "done a" ∷ (codes "report a " ++ counters) ∷ [])
  pub a_line_less : AnswersAlone (codes "a") plain [] (Turn 0 1000 ∷ []) [] → ⊥

-- ---- replays

-- each end of a replay, of a document that means `one_tenant` and of one that is no TOML. Where the settings are
-- faulty, nothing may be written; done is a replay only when all is written
pub record Replays : Type 0 where
  pub done : (d : List ℕ) → settings_of d ≡ Ok one_tenant → IsReplay d script told (Ok tt)
  pub half_done : (d : List ℕ) → settings_of d ≡ Ok one_tenant → IsReplay d script begun (Ok tt) → ⊥
  pub script_fault : (d : List ℕ) → settings_of d ≡ Ok one_tenant
      → IsReplay d faulty_script (codes "idle 0\n") (Err (Script 2))
  pub failed : (d : List ℕ) → settings_of d ≡ Ok one_tenant → IsReplay d script begun (Err Line)
  pub no_memory : (d : List ℕ) → settings_of d ≡ Ok one_tenant → IsReplay d script begun (Err OutOfMemory)
  pub settings_fault : (d : List ℕ) → settings_of d ≡ Err not_toml → IsReplay d script [] (Err (Settings NotToml))
  pub other_fault : (d : List ℕ) → settings_of d ≡ Err not_toml → IsReplay d script [] (Err (Settings TooMany)) → ⊥
  pub written_after_fault : (d : List ℕ) → settings_of d ≡ Err not_toml
      → IsReplay d script told (Err (Settings NotToml)) → ⊥
  pub no_fault : (d : List ℕ) → settings_of d ≡ Ok one_tenant → IsReplay d script [] (Err (Settings NotToml)) → ⊥
  pub no_memory_for_settings : (d : List ℕ) → settings_of d ≡ Err not_toml → IsReplay d script [] (Err OutOfMemory)
  pub written_without_settings : (d : List ℕ) → settings_of d ≡ Err not_toml
      → IsReplay d script told (Err OutOfMemory) → ⊥
