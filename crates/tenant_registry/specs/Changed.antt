-- What whoever asks for a tenant to come or to go is told. This project's own rule.
use Rattle.std.specs.Prelude.{◌≡◌, ◌≢◌, ℕ, ◌<◌, ◌≤◌, Bool, true, false, List, [], ◌++◌, length, get_or, Option, Some, None, if◌then◌else◌, codes, bytes_eq, string_bytes, IsUtf8, String}
use Rattle.std.specs.Str.{trim_end}
use Rattle.std.specs.declared.alloc.Global.{Global}
use Rattle.admin_pages.specs.Figures.{no_usage}
use Rattle.admin_pages.specs.Json.{gone_text}
use Rattle.drop_ledger.specs.Ledger.{LedgerData, LedgerInvariant}
use Rattle.drop_ledger.specs.Report.{report_text as counters_text}
use Rattle.http_edge.specs.Message.{Response}
use Rattle.http_edge.specs.declared.message.MediaType.TheVariants.{Json}
use Rattle.replay_script.specs.Answer.{refused_text, report_text}
use Rattle.service_runtime.specs.Notice.{came_reply, notice_of, reply_of, unknown_reply}
use Rattle.service_runtime.specs.declared.desk.Asked.{Asked}
use Rattle.service_runtime.specs.declared.desk.Asked.TheVariants.{Told, Late, Busy, Ended}
use Rattle.settings_check.specs.Report.{IsFileReport}
use Rattle.tenant_registry.specs.Replies.{no_memory}

-- the number by which a shard refuses a tenant that is no member of it (`refusals_agree` of trace_service)
abbrev pub not_member : ℕ
not_member = 22

-- and the one by which it refuses that a tenant goes that holds spans
abbrev pub not_empty : ℕ
not_empty = 26

-- that the tenant of this name goes
abbrev pub going_text : List ℕ → List ℕ
going_text name = codes "the tenant " ++ name ++ codes " is going: try again"

-- another tenant is coming or going (503, RFC 9110, section 15.6.4); one that is known to go is named
abbrev pub busy_reply : Option (String Global) → Response
busy_reply (Some name) = notice_of 503 (codes "error") (going_text (string_bytes name))
busy_reply None = notice_of 503 (codes "error") (codes "another tenant is coming or going: try again")

-- what is told where nothing was answered in time: it goes on (202, RFC 9110, section 15.3.3), or it isn't begun since
-- the input has ended or another tenant is coming or going
abbrev pub untold_reply : Asked → Response
untold_reply Late = notice_of 202 (codes "state") (codes "it is being done")
untold_reply Ended = notice_of 503 (codes "error") (codes "shutting down")
untold_reply (Busy going) = busy_reply going
untold_reply (Told line) = busy_reply None

-- the line behind which the report on a good document has its settings
abbrev pub settings_line : List ℕ
settings_line = codes "# the settings in force\n"

-- no line of the report is that one
abbrev pub HasNoSettings : List ℕ → Type 0
HasNoSettings report = (before after : List ℕ) → report ≢ before ++ (settings_line ++ after)

-- the warnings of a report: what stands before the settings of a good one, without the white space at its end
pub data HasWarnings (report : List ℕ) : Bool → List ℕ → Type 0 where
  good : (before after : List ℕ) → report ≡ before ++ (settings_line ++ after)
      → ((other rest : List ℕ) → report ≡ other ++ (settings_line ++ rest) → length before ≤ length other)
      → HasWarnings report true (trim_end before)
  all_else : HasNoSettings report → HasWarnings report true []
  bad : HasWarnings report false []

-- the tenant of a document came, and its warnings are told with it
pub record TellsCome (document name : List ℕ) (told : Response) : Type 0 where
  pub is_good : Bool
  pub report : List ℕ
  pub doubts : List ℕ
  pub checked : IsFileReport document is_good report doubts
  pub warnings : List ℕ
  pub warned : HasWarnings report is_good warnings
  pub reply : told ≡ came_reply name warnings

-- nobody could come with a document: it gives no settings, and its report is told; or by itself it does, and this is
-- told (422, RFC 9110, section 15.5.21)
pub data TellsFaulty (document otherwise : List ℕ) (told : Response) : Type 0 where
  no_settings : (report doubts : List ℕ) → IsFileReport document false report doubts
      → told ≡ notice_of 422 (codes "error") (trim_end report) → TellsFaulty document otherwise told
  by_itself : (report doubts : List ℕ) → IsFileReport document true report doubts
      → told ≡ notice_of 422 (codes "error") otherwise → TellsFaulty document otherwise told

-- what is told of a tenant that was refused for this (docs/SETTINGS.md), unless its document is to be looked at: its
-- name is taken (409, RFC 9110, section 15.5.10)
abbrev pub refused_reply : List ℕ → Option Response
refused_reply why =
    if bytes_eq why (codes "14\n") then Some (notice_of 409 (codes "error") (codes "a tenant of that name is present"))
    else if bytes_eq why (codes "memory\n") then Some no_memory else None

-- what is told of one that was refused for this though its document is good by itself
abbrev pub refused_otherwise : List ℕ → List ℕ
refused_otherwise why =
    if bytes_eq why (codes "15\n")
    then codes "there would be more tenants, or more spans at a time, than settings allow"
    else codes "the document doesn't have exactly one tenant"

-- the reply is that one, or else what is told of a faulty document
abbrev pub TellsRefused : List ℕ → List ℕ → Option Response → Response → Type 0
TellsRefused document why (Some due) told = told ≡ due
TellsRefused document why None told = TellsFaulty document (refused_otherwise why) told

-- a name as it stands in a line
abbrev pub HasNoSpace : List ℕ → Type 0
HasNoSpace name = (i : ℕ) → i < length name → get_or name i 0 ≢ 32

-- the line that answers says that the tenant of this name came
abbrev pub SaysCame : List ℕ → List ℕ → Type 0
SaysCame line name =
    (number : List ℕ) × (line ≡ codes "added " ++ name ++ codes " " ++ number) × HasNoSpace name

-- it says why none did
abbrev pub SaysRefused : List ℕ → List ℕ → Type 0
SaysRefused line why = line ≡ codes "refused add " ++ why

-- what whoever posted a document is told, where this line answered
pub data TellsAdded (document line : List ℕ) (told : Response) : Type 0 where
  came : (name : List ℕ) → SaysCame line name → TellsCome document name told → TellsAdded document line told
  refused : (why : List ℕ) → SaysRefused line why → TellsRefused document why (refused_reply why) told
      → TellsAdded document line told
  -- no such line: memory was refused for its bytes
  no_word : (IsUtf8 line → ((name : List ℕ) → SaysCame line name → ⊥) × ((why : List ℕ) → SaysRefused line why → ⊥))
      → told ≡ no_memory → TellsAdded document line told

-- the line with which a tenant of this name goes that had this ledger
abbrev pub last_line : List ℕ → LedgerData → List ℕ
last_line name ledger = report_text name (counters_text ledger)

-- a tenant of this name went with this ledger: nothing of it is there any more, and nothing of it waits
abbrev pub went_reply : List ℕ → LedgerData → Response
went_reply name ledger =
    reply_of 200 Json
    (gone_text (record { name = name; ledger = ledger; usage = no_usage; ready = None; back_end = None }))

-- the tenant stays (409, RFC 9110, section 15.5.10)
abbrev pub stays_reply : Response
stays_reply = notice_of 409 (codes "error") (codes "the tenant stays: it holds spans")

-- what whoever asked that the tenant of this name goes is told, where this line answered
pub data TellsRetired (name line : List ℕ) (told : Response) : Type 0 where
  -- nobody of that name was there any more
  nobody : line ≡ [] → told ≡ unknown_reply → TellsRetired name line told
  went : (ledger : LedgerData) → line ≡ last_line name ledger
      → told ≡ went_reply name ledger → TellsRetired name line told
  -- its shard had it no more: a try before, for whose report memory was refused, had let it go
  gone : line ≡ refused_text name not_member → told ≡ unknown_reply → TellsRetired name line told
  -- it holds spans, and stays
  stays : line ≡ refused_text name not_empty → told ≡ stays_reply → TellsRetired name line told
  -- no such line: memory was refused for its bytes
  no_line : line ≢ [] → (IsUtf8 line → ((ledger : LedgerData) → LedgerInvariant ledger → line ≢ last_line name ledger)
      × (line ≢ refused_text name not_member) × (line ≢ refused_text name not_empty))
      → told ≡ no_memory → TellsRetired name line told

-- what whoever posted a document is told, by what came of the question
abbrev pub TellsAdding : Asked → List ℕ → Response → Type 0
TellsAdding (Told line) document told = TellsAdded document line.items told
TellsAdding asked document told = told ≡ untold_reply asked

-- the same of whoever asked that the tenant of this name goes
abbrev pub TellsRetiring : Asked → List ℕ → Response → Type 0
TellsRetiring (Told line) name told = TellsRetired name line.items told
TellsRetiring asked name told = told ≡ untold_reply asked
