-- How the keys of src/table.rt stand to those that `tail_settings` reads: other keys have no effect, and each of these
-- has one. This project's own rule.
use Rattle.std.specs.Prelude.{◌≡◌, codes, ℕ, pos, true, List, [], ◌∷◌, Result, Err}
use Rattle.toml.specs.Data.{string, integer, boolean, array, table, no_items, item, Members, no_members, member, get_member}
use Rattle.tail_settings.specs.Batch.{batch_of}
use Rattle.tail_settings.specs.Fault.{FaultData, wrong_kind}
use Rattle.tail_settings.specs.Global.{global_of}
use Rattle.tail_settings.specs.Policy.{policy_of, leaf_of}
use Rattle.tail_settings.specs.RetryOnFailure.{retry_of}
use Rattle.tail_settings.specs.SendingQueue.{sending_queue_of}
use Rattle.tail_settings.specs.Settings.{TenantData, tenant_of, settings_of_table}
use Rattle.tail_settings.specs.TailSampling.{tail_sampling_of}
use Rattle.settings_check.specs.declared.table.Key.{Key}
use Rattle.settings_check.specs.declared.table.TableKind.{TableKind}
use Rattle.settings_check.specs.declared.table.TableKind.TheVariants as kinds
use Rattle.settings_check.specs.Put.{put_member}
use Rattle.settings_check.specs.Table.{keys_of_kind, name_of}
use Rattle.settings_check.specs.Unknown.{kind_of}

-- two tables have the same at each of these keys
abbrev pub AgreeAt : List Key → Members → Members → Type 0
AgreeAt [] one other = Unit {0}
AgreeAt (key ∷ keys) one other =
    (get_member (name_of key) one ≡ get_member (name_of key) other) × AgreeAt keys one other

-- two tables have the same at each key that their kind has
abbrev pub Agree : TableKind → Members → Members → Type 0
Agree kind = AgreeAt (keys_of_kind kind)

-- a table whose one key has this table
abbrev pub holding : List ℕ → Members → Members
holding key inner = member key (table inner) no_members

-- a tenant whose table `tail_sampling` has this table `decision_cache`, and these other keys
abbrev pub with_cache : Members → Members → Members
with_cache cache rest = holding (codes "tail_sampling") (member (codes "decision_cache") (table cache) rest)

-- tables of this kind that agree are read as the same, whatever their other keys have
abbrev pub ReadsAlike : {A : Type 0} → TableKind → (Members → Result A FaultData) → Type 0
ReadsAlike kind read = (one other : Members) → Agree kind one other → read one ≡ read other

-- tables of each kind that agree are read as the same, policies that agree by the kind of the first
pub record UnknownMeanNothing : Type 0 where
  pub document : ReadsAlike kinds.Document settings_of_table
  pub global : ReadsAlike kinds.Global (λ t. global_of (holding (codes "global") t))
  pub tenant : (before : List TenantData) → ReadsAlike kinds.Tenant (tenant_of before)
  pub tail_sampling : ReadsAlike kinds.TailSampling (λ t. tail_sampling_of (holding (codes "tail_sampling") t))
  pub decision_cache : (rest : Members) → ReadsAlike kinds.DecisionCache (λ t. tail_sampling_of (with_cache t rest))
  pub batch : ReadsAlike kinds.Batch (λ t. batch_of (holding (codes "batch") t))
  pub sending_queue : ReadsAlike kinds.SendingQueue (λ t. sending_queue_of (holding (codes "sending_queue") t))
  pub retry_on_failure : ReadsAlike kinds.RetryOnFailure (λ t. retry_of (holding (codes "retry_on_failure") t))
  pub policy : (one other : Members) → Agree (kind_of one) one other → policy_of one ≡ policy_of other
  pub part : (one other : Members) → Agree (kind_of one) one other → leaf_of one ≡ leaf_of other

-- in a table that is good without it, each of these keys with a value of another kind is a fault that names it
abbrev pub EachIsRead : {A : Type 0} → (Members → Result A FaultData) → Members → List Key → Type 0
EachIsRead read good [] = Unit {0}
EachIsRead read good (key ∷ keys) =
    (read (put_member (name_of key) (boolean true) good) ≡ Err (wrong_kind (name_of key))) × EachIsRead read good keys

-- a policy of a type, without its other keys
abbrev pub typed : List ℕ → Members
typed type = member (codes "type") (string type) no_members

-- a tenant that has a name and a policy
abbrev pub small_tenant : Members
small_tenant =
    put_member (codes "name") (string (codes "a"))
    (holding (codes "tail_sampling")
    (member (codes "policy") (array (item (table (typed (codes "always_sample"))) no_items)) no_members))

-- a policy of a type, with an attribute's key and the least number
abbrev pub keyed : List ℕ → Members
keyed type =
    put_member (codes "key") (string (codes "k")) (put_member (codes "min_value") (integer (pos 0)) (typed type))

-- each key of each kind of table is read
pub record KnownAreRead : Type 0 where
  pub document : EachIsRead settings_of_table no_members (keys_of_kind kinds.Document)
  pub global : EachIsRead (λ t. global_of (holding (codes "global") t)) no_members (keys_of_kind kinds.Global)
  pub tenant : EachIsRead (tenant_of []) small_tenant (keys_of_kind kinds.Tenant)
  pub tail_sampling : EachIsRead (λ t. tail_sampling_of (holding (codes "tail_sampling") t)) no_members
      (keys_of_kind kinds.TailSampling)
  pub decision_cache : EachIsRead (λ t. tail_sampling_of (with_cache t no_members)) no_members
      (keys_of_kind kinds.DecisionCache)
  pub batch : EachIsRead (λ t. batch_of (holding (codes "batch") t)) no_members (keys_of_kind kinds.Batch)
  pub sending_queue : EachIsRead (λ t. sending_queue_of (holding (codes "sending_queue") t)) no_members
      (keys_of_kind kinds.SendingQueue)
  pub retry_on_failure : EachIsRead (λ t. retry_of (holding (codes "retry_on_failure") t)) no_members
      (keys_of_kind kinds.RetryOnFailure)
  pub always_sample : EachIsRead policy_of (typed (codes "always_sample")) (keys_of_kind kinds.AlwaysSample)
  pub latency : EachIsRead policy_of (typed (codes "latency")) (keys_of_kind kinds.Latency)
  pub status_code : EachIsRead policy_of (typed (codes "status_code")) (keys_of_kind kinds.StatusCode)
  pub string_attribute : EachIsRead policy_of (keyed (codes "string_attribute")) (keys_of_kind kinds.StringAttribute)
  pub numeric_attribute : EachIsRead policy_of (keyed (codes "numeric_attribute")) (keys_of_kind kinds.NumericAttribute)
  pub and : EachIsRead policy_of (typed (codes "and")) (keys_of_kind kinds.And)
