-- Where a document's fault is: in the first tenant that by itself, as a document, has this fault, in the first of its
-- policies of which that is so, and in the first sub-policy of that. This project's own rule.
use Rattle.std.specs.Prelude.{◌≡◌, codes, ℕ, suc, ◌+◌, ◌≤◌, true, List, [], ◌++◌, ◌⊎◌, Option, Some, None, unwrap_or, option_map, IsSome, Err, string_bytes}
use Rattle.std.specs.Borrow.{Bor}
use Rattle.std.specs.Fmt.{decimal}
use Rattle.toml.specs.Data.{Data, string, array, table, Items, no_items, item, Members, no_members, member, as_table, members_depth, members_have_valid_dates}
use Rattle.toml.specs.View.{view}
use Rattle.toml.specs.declared.value.Value.{Value}
use Rattle.tail_settings.specs.Fault.{FaultData}
use Rattle.tail_settings.specs.Settings.{settings_of_table}
use Rattle.settings_check.specs.declared.place.Level.{Level}
use Rattle.settings_check.specs.declared.place.Level.TheVariants as levels
use Rattle.settings_check.specs.declared.place.Place.{Place}
use Rattle.settings_check.specs.Shown.{shown}
use Rattle.settings_check.specs.Unknown.{table_in, items_in, text_in, table_of, tenant_words, kind_of, sub_policies_of}

-- the array of one value
abbrev pub only : Data → Data
only d = array (item d no_items)

-- a policy `and` that has this sub-policy and no other
abbrev pub with_sub_policy : Data → Data
with_sub_policy d =
    table (member (codes "and_sub_policy") (only d) (member (codes "type") (string (codes "and")) no_members))

-- a tenant that has this policy, a name, and nothing else
abbrev pub with_policy : Data → Data
with_policy d =
    table (member (codes "name") (string (codes "a"))
    (member (codes "tail_sampling") (table (member (codes "policy") (only d) no_members)) no_members))

-- the tenant that a tenant is, or that has this policy, or this sub-policy of one, by itself
abbrev pub tenant_with : Level → Data → Data
tenant_with levels.Tenant d = d
tenant_with levels.Policy d = with_policy d
tenant_with levels.SubPolicy d = with_policy (with_sub_policy d)

-- its document
abbrev pub document_with : Level → Data → Members
document_with level d = member (codes "tenant") (only (tenant_with level d)) no_members

-- whether a document can be written as a text and read again: TOML's writer refuses dates that no calendar has, and
-- its reader more than 80 levels
pub record IsWritable (document : Members) : Type 0 where
  pub shallow : members_depth document ≤ 80
  pub dates : members_have_valid_dates document ≡ true

-- a table that has this fault by itself; what is no table is a fault of what it stands in
abbrev pub HasAlone : Level → FaultData → Data → Type 0
HasAlone level fault d = IsSome (as_table d) × (settings_of_table (document_with level d) ≡ Err fault)

-- the first of these that has it, with its number, where the first of all has this number
abbrev pub IsFirst : Level → FaultData → ℕ → Items → Option (ℕ × Data) → Type 0
IsFirst level fault number no_items found = found ≡ None
IsFirst level fault number (item d rest) found =
    IsWritable (document_with level d) → (HasAlone level fault d × (found ≡ Some (number, d)))
    ⊎ ((HasAlone level fault d → ⊥) × IsFirst level fault (number + 1) rest found)

-- what a Rust value says was found
abbrev pub found_view : Option (ℕ × Bor Value) → Option (ℕ × Data)
found_view = option_map (λ found. (found.0, view found.1.now))

-- the table of what was found
abbrev pub table_found : Option (ℕ × Data) → Members
table_found None = no_members
table_found (Some found) = table_of found.1

-- the policies of a tenant
abbrev pub policies_in : Members → Items
policies_in tenant = items_in (codes "policy") (table_in (codes "tail_sampling") tenant)

-- the sub-policies of a policy, which only one of the type `and` has
abbrev pub sub_policies_in : Members → Items
sub_policies_in policy = sub_policies_of (kind_of policy) policy

-- how many there are of these
abbrev pub count_of : Items → ℕ
count_of no_items = 0
count_of (item d rest) = suc (count_of rest)

-- a name in brackets, where there is one
abbrev pub name_words : Option (List ℕ) → List ℕ
name_words None = []
name_words (Some name) = codes " (" ++ shown name ++ codes ")"

-- a word with the number of a table, and with its name
abbrev pub numbered_words : List ℕ → ℕ → Members → List ℕ
numbered_words word number members = word ++ decimal number ++ name_words (text_in (codes "name") members)

-- the words of a tenant, before what follows; nothing where there is none
abbrev pub tenant_place : Option (ℕ × Data) → List ℕ
tenant_place None = []
tenant_place (Some found) = tenant_words found.0 (table_of found.1) ++ codes ", "

-- the words of a sub-policy, behind those of its policy
abbrev pub sub_policy_place : Option (ℕ × Data) → List ℕ
sub_policy_place None = []
sub_policy_place (Some found) = numbered_words (codes ", part ") found.0 (table_of found.1)

-- the words of a policy and of a sub-policy of it
abbrev pub policy_place : Option (ℕ × Data) → Option (ℕ × Data) → List ℕ
policy_place None sub_policy = codes "a policy"
policy_place (Some found) sub_policy = numbered_words (codes "policy ") found.0 (table_of found.1) ++ sub_policy_place sub_policy

-- the tenant, the policy and the sub-policy in which a document has this fault
pub record IsWhere (fault : FaultData) (document : Members) (t p q : Option (ℕ × Data)) : Type 0 where
  pub tenant : IsFirst levels.Tenant fault 1 (items_in (codes "tenant") document) t
  pub policy : IsFirst levels.Policy fault 1 (policies_in (table_found t)) p
  pub sub_policy : IsFirst levels.SubPolicy fault 1 (sub_policies_in (table_found p)) q

-- how many tenants there are, the words of the tenant, and those of the policy
pub record PlaceData : Type 0 where
  pub count : ℕ
  pub tenant : List ℕ
  pub policy : List ℕ

-- what a Rust value says
abbrev pub place_view : Place → PlaceData
place_view p = record { count = p.count; tenant = string_bytes p.tenant; policy = string_bytes p.policy }

-- those of where a document has this fault
abbrev pub IsPlace : FaultData → Members → PlaceData → Type 0
IsPlace fault document place =
    (t : Option (ℕ × Data)) × (p : Option (ℕ × Data)) × (q : Option (ℕ × Data)) × IsWhere fault document t p q
    × (place ≡ record {
      count = count_of (items_in (codes "tenant") document);
      tenant = tenant_place t;
      policy = policy_place p q;
    })

-- the members of a text, if it is a document
abbrev pub members_in : Option Members → Members
members_in document = unwrap_or document no_members
