-- A list that two holders know, each by a half. This project's own rule.
use Rattle.std.specs.Prelude.{◌≡◌, ℕ, ◌+◌, ◌-◌, ◌<◌, List, [], ◌++◌, sum_by}
use mathlib.Core.Option.{some}
use lib.ListN.{get_elem?}
use Rattle.atomic_table.specs.Seated.{TableId}
use Rattle.atomic_table.specs.Table.{Me}
use Rattle.agreed_list.specs.declared.known.Known.{Known}

-- a half: which list it is of, and what it knows of it
pub record HalfState (E : Type 0) : Type 0 where
  pub list : TableId
  pub items : List E

module _ {E : Type 0} where
  -- a half that knows these items
  abbrev pub half_of : TableId → List E → HalfState E
  half_of list items = record { list = list; items = items }

  -- what a holder knows
  abbrev pub known : ℕ → List E → List E → Known E
  known parts one other = record { parts = parts; one = one; other = other }

  -- who has both halves of an empty list
  abbrev pub whole : Known E
  whole = known 2 [] []

  -- who has none
  abbrev pub no_part : Known E
  no_part = known 0 [] []

  -- a half is cut off
  abbrev pub left_part : Known E → Known E
  left_part v = known (v.parts - 1) v.one v.one

  abbrev pub right_part : Known E → Known E
  right_part v = known 1 v.one v.one

  -- one holder takes in another
  abbrev pub both_parts : Known E → Known E → Known E
  both_parts v w = known (v.parts + w.parts) v.one w.one

  -- whoever has a part knows the list
  abbrev pub KnowsIf : List E → Known E → Type 0
  KnowsIf list v = 0 < v.parts → (v.one ≡ list) × (v.other ≡ list)

  -- there are two parts, and all who have one know one list
  pub record IsAgreed (views : List (Known E)) : Type 0 where
    pub list : List E
    pub parts : sum_by (λ v. v.parts) views ≡ 2
    pub each : (i : ℕ) (v : Known E) → get_elem? views i ≡ some v → KnowsIf list v

  -- a token has one part
  abbrev pub IsHalf : {S : Type 0} → Me S (Known E) → Type 0
  IsHalf me = (me.1 ≡ []) × (me.0.parts ≡ 1) × (me.0.other ≡ me.0.one)

  -- a token has none
  abbrev pub IsNobody : {S : Type 0} → Me S (Known E) → Type 0
  IsNobody me = me ≡ (no_part, [])

  -- both halves know one list, and then more
  abbrev pub MeetsWith : {S : Type 0} → List E → Me S (Known E) → Me S (Known E) → Type 0
  MeetsWith more old new =
      (old.0.one ≡ old.0.other)
      × (new ≡ (known old.0.parts (old.0.one ++ more) (old.0.one ++ more), old.1))
