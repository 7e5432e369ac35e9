-- What is doubtful in settings that are good: they load, and most likely won't do what was meant. This project's own
-- rule.
use Rattle.std.specs.Prelude.{codes, ℕ, List, [], ◌∷◌, ◌++◌, ◌-◌, ◌*◌, ◌/◌, Bool, false, ◌||◌, ◌==◌, length, sum_by, nat_le, int_le, Option, Some, None, Result, Ok, Err, if◌then◌else◌}
use Rattle.std.specs.Fmt.{decimal}
use Rattle.std.specs.Str.{bytes_eq}
use Rattle.tail_settings.specs.Batch.{BatchData}
use Rattle.tail_settings.specs.Fault.{FaultData}
use Rattle.tail_settings.specs.Policy.{LeafData, PolicyData, always_sample, latency, status_code, string_attribute, numeric_attribute, leaf, and}
use Rattle.tail_settings.specs.RetryOnFailure.{RetryData}
use Rattle.tail_settings.specs.Section.{SectionData}
use Rattle.tail_settings.specs.Settings.{TenantData, SettingsData}
use Rattle.settings_check.specs.Address.{address_fault, behind_colon}
use Rattle.settings_check.specs.Shown.{shown}

-- the line of what is wrong with an address, behind the words of whose it is
abbrev pub wrong_line : List ℕ → List ℕ → Option (List ℕ) → List ℕ
wrong_line place address None = []
wrong_line place address (Some wrong) =
    codes "warning: " ++ place ++ codes " " ++ address ++ codes " " ++ wrong ++ codes "\n"

-- the line of a text that can't be an address
abbrev pub address_line : List ℕ → List ℕ → List ℕ
address_line place address = wrong_line place address (address_fault address)

-- the line of fewer receivers than tenants: a client that keeps its connection keeps a receiver, so not a client of
-- each tenant can
abbrev pub receivers_line : ℕ → ℕ → List ℕ
receivers_line receivers tenants =
    if nat_le tenants receivers then []
    else codes "warning: table global: receivers is " ++ decimal receivers ++ codes ", and there are " ++ decimal tenants
    ++ codes " tenants: each client that keeps its connection keeps a receiver\n"

-- how many consumers tenants have together
abbrev pub consumers_of : List TenantData → ℕ
consumers_of = sum_by (λ t. t.section.sending_queue.num_consumers)

-- the line of fewer senders than consumers: a back end that doesn't answer keeps as many senders as its tenant has
-- consumers
abbrev pub senders_line : ℕ → ℕ → List ℕ
senders_line senders consumers =
    if nat_le consumers senders then []
    else codes "warning: table global: senders is " ++ decimal senders ++ codes ", and the tenants' num_consumers are "
    ++ decimal consumers ++ codes " together: back ends that don't answer can keep every sender\n"

-- the header fields that the service reads for another purpose: how a message is framed and whether more follow (RFC
-- 9112), the host, an expectation, and what the body is (RFC 9110)
abbrev pub has_purpose : List ℕ → Bool
has_purpose field =
    bytes_eq field (codes "connection") || bytes_eq field (codes "content-encoding")
    || bytes_eq field (codes "content-length") || bytes_eq field (codes "content-type")
    || bytes_eq field (codes "expect") || bytes_eq field (codes "host") || bytes_eq field (codes "transfer-encoding")

-- the line of such a field for the tenant's name: what it has to say for its own purpose is hardly ever a name
abbrev pub header_line : List ℕ → List ℕ
header_line field =
    if has_purpose field
    then codes "warning: table global: tenant_header is " ++ field
    ++ codes ", which a request has for another purpose: hardly any can name a tenant by it\n"
    else []

-- the line of a tenant's back end
abbrev pub endpoint_line : List ℕ → List ℕ → List ℕ
endpoint_line name endpoint = address_line (codes "tenant " ++ name ++ codes ": endpoint") endpoint

-- the line of a tenant that may hold fewer spans than a batch is cut at: its spans then wait for their time, and what
-- comes meanwhile is left out; with a time of 0 they don't wait
abbrev pub spans_line : List ℕ → ℕ → BatchData → List ℕ
spans_line name max_spans batch =
    if nat_le batch.send_batch_size max_spans || batch.timeout == 0 then []
    else codes "warning: tenant " ++ name ++ codes ": max_spans is " ++ decimal max_spans
    ++ codes ", and send_batch_size is " ++ decimal batch.send_batch_size
    ++ codes ": a batch is cut by timeout_ms alone, and posts can get 429 until then\n"

-- the line of a tenant whose endpoint is the text of `listen`: its back end would be this service itself
abbrev pub own_line : List ℕ → List ℕ → List ℕ → List ℕ
own_line listen name endpoint =
    if bytes_eq endpoint listen
    then codes "warning: tenant " ++ name ++ codes ": endpoint is " ++ endpoint
    ++ codes ", as listen is: the service would post to itself\n"
    else []

-- a port at which OTLP is spoken over gRPC (OTLP/gRPC Default Port)
abbrev pub is_grpc_port : Option (List ℕ) → Bool
is_grpc_port None = false
is_grpc_port (Some port) = bytes_eq port (codes "4317")

-- the line of a tenant whose back end is at such a port, where mostly gRPC alone is answered
abbrev pub grpc_line : List ℕ → List ℕ → List ℕ
grpc_line name endpoint =
    if is_grpc_port (behind_colon None endpoint)
    then codes "warning: tenant " ++ name ++ codes ": endpoint is " ++ endpoint
    ++ codes ", whose port is that of OTLP over gRPC: batches are posted by HTTP, for which it is 4318\n"
    else []

-- the shortest delay before a batch is sent again
abbrev pub least_delay : RetryData → ℕ
least_delay retry = retry.initial_interval - retry.initial_interval * retry.randomization_factor / 1000

-- the line of a tenant whose batches are given up before the shortest delay is over; a longest time of 0 is none, and 1
-- is how retries are turned off
abbrev pub retry_line : List ℕ → RetryData → List ℕ
retry_line name retry =
    if nat_le retry.max_elapsed_time 1 || nat_le (least_delay retry) retry.max_elapsed_time then []
    else codes "warning: tenant " ++ name ++ codes ": max_elapsed_time_ms is " ++ decimal retry.max_elapsed_time
    ++ codes ", and the delay before a retry is at least " ++ decimal (least_delay retry)
    ++ codes " ms: no batch is sent again\n"

-- the line of a policy whose bounds no number lies within
abbrev pub bounds_line : List ℕ → LeafData → List ℕ
bounds_line name always_sample = []
bounds_line name (latency threshold) = []
bounds_line name (status_code statuses) = []
bounds_line name (string_attribute key values) = []
bounds_line name (numeric_attribute key low high) =
    if int_le low high then []
    else codes "warning: tenant " ++ name ++ codes ": the numeric_attribute policy of the key " ++ shown key
    ++ codes " has a min_value above its max_value: it keeps nothing\n"

-- the lines of policies that hold no other
abbrev pub leaf_lines : List ℕ → List LeafData → List ℕ
leaf_lines name [] = []
leaf_lines name (l ∷ ls) = bounds_line name l ++ leaf_lines name ls

-- the lines of a policy
abbrev pub policy_lines : List ℕ → PolicyData → List ℕ
policy_lines name (leaf l) = bounds_line name l
policy_lines name (and ls) = leaf_lines name ls

-- the lines of policies
abbrev pub lines_of_policies : List ℕ → List PolicyData → List ℕ
lines_of_policies name [] = []
lines_of_policies name (p ∷ ps) = policy_lines name p ++ lines_of_policies name ps

-- the lines of a tenant of this name
unfoldable pub tenant_lines : List ℕ → List ℕ → SectionData → List ℕ
tenant_lines listen name section =
    endpoint_line name section.endpoint ++ own_line listen name section.endpoint ++ grpc_line name section.endpoint
    ++ spans_line name section.max_spans section.batch ++ retry_line name section.retry_on_failure
    ++ lines_of_policies name section.tail_sampling.policies

-- the lines of tenants
abbrev pub lines_of_tenants : List ℕ → List TenantData → List ℕ
lines_of_tenants listen [] = []
lines_of_tenants listen (t ∷ ts) = tenant_lines listen t.name t.section ++ lines_of_tenants listen ts

-- the lines of all settings
abbrev pub doubts_of : SettingsData → List ℕ
doubts_of s =
    address_line (codes "table global: listen") s.global.listen ++ receivers_line s.global.receivers (length s.tenants)
    ++ senders_line s.global.senders (consumers_of s.tenants) ++ header_line s.global.tenant_header
    ++ lines_of_tenants s.global.listen s.tenants

-- what is doubtful in the settings that a document means; nothing where it has a fault
abbrev pub doubts_in : Result SettingsData FaultData → List ℕ
doubts_in (Ok settings) = doubts_of settings
doubts_in (Err fault) = []
