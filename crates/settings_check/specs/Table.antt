-- The kinds of tables that a settings document has, and the keys of each (src/table.rt). Which tables and keys there
-- are is for `tail_settings` to say, and for docs/SETTINGS.md in words. This project's own rule.
use Rattle.std.specs.Prelude.{codes, ℕ, List, [], ◌∷◌, Bool, Option, Some, None, is_some, if◌then◌else◌}
use Rattle.std.specs.Str.{bytes_eq}
use Rattle.settings_check.specs.declared.table.Key.{Key}
use Rattle.settings_check.specs.declared.table.Key.TheVariants as keys
use Rattle.settings_check.specs.declared.table.TableKind.{TableKind}
use Rattle.settings_check.specs.declared.table.TableKind.TheVariants as kinds
use Rattle.settings_check.specs.declared.table.TheConstants as words

-- the keys of a kind of table
abbrev pub keys_of_kind : TableKind → List Key
keys_of_kind kinds.Document = words.DOCUMENT
keys_of_kind kinds.Global = words.GLOBAL
keys_of_kind kinds.Tenant = words.TENANT
keys_of_kind kinds.TailSampling = words.TAIL_SAMPLING
keys_of_kind kinds.DecisionCache = words.DECISION_CACHE
keys_of_kind kinds.Batch = words.BATCH
keys_of_kind kinds.SendingQueue = words.SENDING_QUEUE
keys_of_kind kinds.RetryOnFailure = words.RETRY_ON_FAILURE
keys_of_kind kinds.AlwaysSample = words.ALWAYS_SAMPLE
keys_of_kind kinds.Latency = words.LATENCY
keys_of_kind kinds.StatusCode = words.STATUS_CODE
keys_of_kind kinds.StringAttribute = words.STRING_ATTRIBUTE
keys_of_kind kinds.NumericAttribute = words.NUMERIC_ATTRIBUTE
keys_of_kind kinds.And = words.AND
keys_of_kind kinds.AnyPolicy = words.ANY_POLICY

-- a key as a document has it
abbrev pub name_of : Key → List ℕ
name_of keys.Global = codes "global"
name_of keys.Tenant = codes "tenant"
name_of keys.Shards = codes "shards"
name_of keys.Parts = codes "parts"
name_of keys.Receivers = codes "receivers"
name_of keys.Senders = codes "senders"
name_of keys.LaneSize = codes "lane_size"
name_of keys.Listen = codes "listen"
name_of keys.TenantHeader = codes "tenant_header"
name_of keys.Name = codes "name"
name_of keys.Endpoint = codes "endpoint"
name_of keys.MaxSpans = codes "max_spans"
name_of keys.Seed = codes "seed"
name_of keys.TailSampling = codes "tail_sampling"
name_of keys.Batch = codes "batch"
name_of keys.SendingQueue = codes "sending_queue"
name_of keys.RetryOnFailure = codes "retry_on_failure"
name_of keys.DecisionWaitMs = codes "decision_wait_ms"
name_of keys.NumTraces = codes "num_traces"
name_of keys.DecisionCache = codes "decision_cache"
name_of keys.Policy = codes "policy"
name_of keys.SampledCacheSize = codes "sampled_cache_size"
name_of keys.NonSampledCacheSize = codes "non_sampled_cache_size"
name_of keys.SendBatchSize = codes "send_batch_size"
name_of keys.TimeoutMs = codes "timeout_ms"
name_of keys.SendBatchMaxSize = codes "send_batch_max_size"
name_of keys.QueueSize = codes "queue_size"
name_of keys.NumConsumers = codes "num_consumers"
name_of keys.InitialIntervalMs = codes "initial_interval_ms"
name_of keys.MaxIntervalMs = codes "max_interval_ms"
name_of keys.MaxElapsedTimeMs = codes "max_elapsed_time_ms"
name_of keys.Multiplier = codes "multiplier"
name_of keys.RandomizationFactor = codes "randomization_factor"
name_of keys.Type = codes "type"
name_of keys.ThresholdMs = codes "threshold_ms"
name_of keys.StatusCodes = codes "status_codes"
name_of keys.AttributeKey = codes "key"
name_of keys.Values = codes "values"
name_of keys.MinValue = codes "min_value"
name_of keys.MaxValue = codes "max_value"
name_of keys.AndSubPolicy = codes "and_sub_policy"

-- what a key's value may be, in words
abbrev pub allowed_of : Key → List ℕ
allowed_of keys.Global = words.GLOBAL_MAY_BE.now
allowed_of keys.Tenant = words.TENANT_MAY_BE.now
allowed_of keys.Shards = words.SHARDS_MAY_BE.now
allowed_of keys.Parts = words.PARTS_MAY_BE.now
allowed_of keys.Receivers = words.RECEIVERS_MAY_BE.now
allowed_of keys.Senders = words.SENDERS_MAY_BE.now
allowed_of keys.LaneSize = words.LANE_SIZE_MAY_BE.now
allowed_of keys.Listen = words.LISTEN_MAY_BE.now
allowed_of keys.TenantHeader = words.TENANT_HEADER_MAY_BE.now
allowed_of keys.Name = words.NAME_MAY_BE.now
allowed_of keys.Endpoint = words.ENDPOINT_MAY_BE.now
allowed_of keys.MaxSpans = words.MAX_SPANS_MAY_BE.now
allowed_of keys.Seed = words.SEED_MAY_BE.now
allowed_of keys.TailSampling = words.TAIL_SAMPLING_MAY_BE.now
allowed_of keys.Batch = words.BATCH_MAY_BE.now
allowed_of keys.SendingQueue = words.SENDING_QUEUE_MAY_BE.now
allowed_of keys.RetryOnFailure = words.RETRY_ON_FAILURE_MAY_BE.now
allowed_of keys.DecisionWaitMs = words.DECISION_WAIT_MS_MAY_BE.now
allowed_of keys.NumTraces = words.NUM_TRACES_MAY_BE.now
allowed_of keys.DecisionCache = words.DECISION_CACHE_MAY_BE.now
allowed_of keys.Policy = words.POLICY_MAY_BE.now
allowed_of keys.SampledCacheSize = words.SAMPLED_CACHE_SIZE_MAY_BE.now
allowed_of keys.NonSampledCacheSize = words.NON_SAMPLED_CACHE_SIZE_MAY_BE.now
allowed_of keys.SendBatchSize = words.SEND_BATCH_SIZE_MAY_BE.now
allowed_of keys.TimeoutMs = words.TIMEOUT_MS_MAY_BE.now
allowed_of keys.SendBatchMaxSize = words.SEND_BATCH_MAX_SIZE_MAY_BE.now
allowed_of keys.QueueSize = words.QUEUE_SIZE_MAY_BE.now
allowed_of keys.NumConsumers = words.NUM_CONSUMERS_MAY_BE.now
allowed_of keys.InitialIntervalMs = words.INITIAL_INTERVAL_MS_MAY_BE.now
allowed_of keys.MaxIntervalMs = words.MAX_INTERVAL_MS_MAY_BE.now
allowed_of keys.MaxElapsedTimeMs = words.MAX_ELAPSED_TIME_MS_MAY_BE.now
allowed_of keys.Multiplier = words.MULTIPLIER_MAY_BE.now
allowed_of keys.RandomizationFactor = words.RANDOMIZATION_FACTOR_MAY_BE.now
allowed_of keys.Type = words.TYPE_MAY_BE.now
allowed_of keys.ThresholdMs = words.THRESHOLD_MS_MAY_BE.now
allowed_of keys.StatusCodes = words.STATUS_CODES_MAY_BE.now
allowed_of keys.AttributeKey = words.KEY_MAY_BE.now
allowed_of keys.Values = words.VALUES_MAY_BE.now
allowed_of keys.MinValue = words.MIN_VALUE_MAY_BE.now
allowed_of keys.MaxValue = words.MAX_VALUE_MAY_BE.now
allowed_of keys.AndSubPolicy = words.AND_SUB_POLICY_MAY_BE.now

-- a kind of table in words, where these are the words of a policy
abbrev pub title_of : TableKind → List ℕ → List ℕ
title_of kinds.Document policy = codes "the document"
title_of kinds.Global policy = codes "table global"
title_of kinds.Tenant policy = codes "table tenant"
title_of kinds.TailSampling policy = codes "table tail_sampling"
title_of kinds.DecisionCache policy = codes "table decision_cache"
title_of kinds.Batch policy = codes "table batch"
title_of kinds.SendingQueue policy = codes "table sending_queue"
title_of kinds.RetryOnFailure policy = codes "table retry_on_failure"
title_of _ policy = policy

-- the kind of a policy's table by its type, if it has one
abbrev pub policy_kind : Option (List ℕ) → TableKind
policy_kind None = kinds.AnyPolicy
policy_kind (Some type) =
    if bytes_eq type (codes "and") then kinds.And
    else if bytes_eq type (codes "always_sample") then kinds.AlwaysSample
    else if bytes_eq type (codes "latency") then kinds.Latency
    else if bytes_eq type (codes "status_code") then kinds.StatusCode
    else if bytes_eq type (codes "string_attribute") then kinds.StringAttribute
    else if bytes_eq type (codes "numeric_attribute") then kinds.NumericAttribute
    else kinds.AnyPolicy

-- the key of this name among these
abbrev pub key_among : List ℕ → List Key → Option Key
key_among name [] = None
key_among name (key ∷ keys) = if bytes_eq (name_of key) name then Some key else key_among name keys

-- whether a kind of table has a key of this name
abbrev pub is_known : TableKind → List ℕ → Bool
is_known kind name = is_some (key_among name (keys_of_kind kind))

-- a kind of table with its key, or else another answer
abbrev pub found_in : TableKind → Option Key → Option (TableKind × Key) → Option (TableKind × Key)
found_in kind None rest = rest
found_in kind (Some key) rest = Some (kind, key)

-- the first of these kinds that has a key of this name, with the key
abbrev pub place_of : List ℕ → List TableKind → Option (TableKind × Key)
place_of name [] = None
place_of name (kind ∷ kinds) = found_in kind (key_among name (keys_of_kind kind)) (place_of name kinds)
