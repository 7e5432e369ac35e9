-- The keys of a document's tables that no setting has. `tail_settings` reads past them. This project's own rule.
use Rattle.std.specs.Prelude.{codes, ℕ, ◌+◌, List, [], ◌∷◌, ◌++◌, take, Option, unwrap_or, option_and_then, if◌then◌else◌}
use Rattle.std.specs.Fmt.{decimal}
use Rattle.toml.specs.Data.{Data, Items, no_items, item, Members, no_members, member, get_member, as_str, as_array, as_table}
use Rattle.settings_check.specs.declared.table.TableKind.{TableKind}
use Rattle.settings_check.specs.declared.table.TableKind.TheVariants as kinds
use Rattle.settings_check.specs.Shown.{shown}
use Rattle.settings_check.specs.Table.{policy_kind, is_known}

-- a key that its kind of table doesn't have, and in words where that table stands
pub record UnknownKey : Type 0 where
  pub place : List ℕ
  pub kind : TableKind
  pub key : List ℕ

-- the table at a key; one without keys where there is none, or something else
abbrev pub table_in : List ℕ → Members → Members
table_in key table = unwrap_or (option_and_then as_table (get_member key table)) no_members

-- the members of the array at a key; none where there is no array
abbrev pub items_in : List ℕ → Members → Items
items_in key table = unwrap_or (option_and_then as_array (get_member key table)) no_items

-- the text at a key, if there is one
abbrev pub text_in : List ℕ → Members → Option (List ℕ)
text_in key table = option_and_then as_str (get_member key table)

-- a member of an array as a table
abbrev pub table_of : Data → Members
table_of d = unwrap_or (as_table d) no_members

-- those of one table, in its order
abbrev pub unknown_in : List ℕ → TableKind → Members → List UnknownKey
unknown_in place kind no_members = []
unknown_in place kind (member key d rest) =
    if is_known kind key then unknown_in place kind rest
    else record { place = place; kind = kind; key = key } ∷ unknown_in place kind rest

-- a tenant's name, no more of it than a name may have: it stands before each of its tenant's warnings, and one of any
-- length would make a report of as many bytes as it has, times the warnings
abbrev pub name_shown : Members → List ℕ
name_shown tenant = shown (take 64 (unwrap_or (text_in (codes "name") tenant) []))

-- a tenant's number, from 1, and its name
abbrev pub tenant_words : ℕ → Members → List ℕ
tenant_words number tenant = codes "tenant " ++ decimal number ++ codes " (" ++ name_shown tenant ++ codes ")"

-- the kind of a policy's table
abbrev pub kind_of : Members → TableKind
kind_of policy = policy_kind (text_in (codes "type") policy)

-- those of policies that may hold no other, of which the first has this number
abbrev pub unknown_in_leaves : List ℕ → ℕ → Items → List UnknownKey
unknown_in_leaves place number no_items = []
unknown_in_leaves place number (item d rest) =
    unknown_in (place ++ codes ", part " ++ decimal number) (kind_of (table_of d)) (table_of d)
    ++ unknown_in_leaves place (number + 1) rest

-- the policies that a policy holds, which only one of the type `and` does
abbrev pub sub_policies_of : TableKind → Members → Items
sub_policies_of kinds.And policy = items_in (codes "and_sub_policy") policy
sub_policies_of _ policy = no_items

-- those of a policy, and of the policies that it holds
abbrev pub unknown_in_policy : List ℕ → Members → List UnknownKey
unknown_in_policy place policy =
    unknown_in place (kind_of policy) policy ++ unknown_in_leaves place 1 (sub_policies_of (kind_of policy) policy)

-- those of policies, of which the first has this number
abbrev pub unknown_in_policies : List ℕ → ℕ → Items → List UnknownKey
unknown_in_policies place number no_items = []
unknown_in_policies place number (item d rest) =
    unknown_in_policy (place ++ codes ", policy " ++ decimal number) (table_of d)
    ++ unknown_in_policies place (number + 1) rest

-- those of the table `decision_cache` of a tenant's `tail_sampling`
abbrev pub unknown_in_cache : List ℕ → Members → List UnknownKey
unknown_in_cache place sampling =
    unknown_in (place ++ codes ", table decision_cache") kinds.DecisionCache
    (table_in (codes "decision_cache") sampling)

-- those of a tenant's table `tail_sampling`
abbrev pub unknown_in_sampling : List ℕ → Members → List UnknownKey
unknown_in_sampling place sampling =
    unknown_in (place ++ codes ", table tail_sampling") kinds.TailSampling sampling
    ++ unknown_in_cache place sampling
    ++ unknown_in_policies place 1 (items_in (codes "policy") sampling)

-- those of a tenant whose words these are
abbrev pub unknown_in_section : List ℕ → Members → List UnknownKey
unknown_in_section place tenant =
    unknown_in place kinds.Tenant tenant
    ++ unknown_in_sampling place (table_in (codes "tail_sampling") tenant)
    ++ unknown_in (place ++ codes ", table batch") kinds.Batch (table_in (codes "batch") tenant)
    ++ unknown_in (place ++ codes ", table sending_queue") kinds.SendingQueue (table_in (codes "sending_queue") tenant)
    ++ unknown_in (place ++ codes ", table retry_on_failure") kinds.RetryOnFailure
    (table_in (codes "retry_on_failure") tenant)

-- those of tenants, of which the first has this number
abbrev pub unknown_in_tenants : ℕ → Items → List UnknownKey
unknown_in_tenants number no_items = []
unknown_in_tenants number (item d rest) =
    unknown_in_section (tenant_words number (table_of d)) (table_of d) ++ unknown_in_tenants (number + 1) rest

-- those of a document
abbrev pub unknown_of : Members → List UnknownKey
unknown_of document =
    unknown_in (codes "the document") kinds.Document document
    ++ unknown_in (codes "table global") kinds.Global (table_in (codes "global") document)
    ++ unknown_in_tenants 1 (items_in (codes "tenant") document)
