-- Arrays that aren't empty, and where the tenants of one are read.
use Rattle.std.proofs.Common.{◌≡◌, codes, ◌<◌, ◌≤◌, List, [], ◌∷◌, length, refl, arith, Option, Ok, Err}
use Rattle.toml.specs.declared.value.Value.{Value}
use Rattle.toml.specs.Data.{Data, Members, no_members, as_table}
use Rattle.toml.specs.View.{items_view}
use Rattle.std.proofs.lemmas.Bool.{le-leb, lt-leb}
use Rattle.tail_settings.specs.Change.{only_one}
use Rattle.tail_settings.specs.Fault.{FaultData, missing_key, out_of_range, too_many}
use Rattle.tail_settings.specs.Keys.{all_of, tables_in, tables_at, not_empty, each}
use Rattle.tail_settings.specs.Settings.{tenant_of, tenants_of}

pub length-all_of : {A : Type 0} (kind : Data → Option A) (other : A) (vs : List Value) → length (all_of kind other (items_view vs)) ≡ length vs
length-all_of kind other [] = refl
length-all_of kind other (v ∷ vs) = rw (length-all_of kind other vs)

pub not_empty-some : {A : Type 0} (kind : Data → Option A) (other : A) (fault : FaultData) (vs : List Value) → 0 < length vs → not_empty fault (all_of kind other (items_view vs)) ≡ Ok (all_of kind other (items_view vs))
not_empty-some kind other fault [] h = absurd (omega arith)
not_empty-some kind other fault (v ∷ vs) h = refl

-- two tables and more are too many for one
pub more_than_one : (vs : List Value) → 2 ≤ length vs → only_one (tables_in (items_view vs)) ≡ Err (out_of_range (codes "tenant"))
more_than_one [] some = absurd (omega arith)
more_than_one (v ∷ []) some = absurd (omega (arith, some))
more_than_one (v ∷ w ∷ vs) some = refl

module _ (document : Members) (vs : List Value) (found : tables_at (codes "tenant") document ≡ Ok (tables_in (items_view vs))) (some : 0 < length vs) where
  -- where each tenant of an array is read
  pub tenants_of-array : length vs ≤ 1000 → tenants_of document ≡ each tenant_of [] (tables_in (items_view vs))
  unfolding tenants_of
  tenants_of-array few = rw (found, not_empty-some as_table no_members (missing_key (codes "tenant")) vs some, length-all_of as_table no_members vs, le-leb (length vs) 1000 few)

  pub tenants_of-long : 1000 < length vs → tenants_of document ≡ Err too_many
  unfolding tenants_of
  tenants_of-long many = rw (found, not_empty-some as_table no_members (missing_key (codes "tenant")) vs some, length-all_of as_table no_members vs, lt-leb (length vs) 1000 many)
