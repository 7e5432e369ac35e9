-- What rows give when their wait is over, in order: the groups of their spans, say (`decision_wait` of the Collector's
-- tailsamplingprocessor).
use Rattle.std.specs.Prelude.{ℕ, ◌+◌, Bool, not, List, [], ◌∷◌, ◌++◌, length, Option, if◌then◌else◌, ◌&&◌, nat_le}
use Rattle.tail_settings.specs.Section.{SectionData}
use Rattle.span_batcher.specs.Batches.{Group, is_by}
use Rattle.tenant_rules.specs.Rows.{Opened}
use Rattle.tenant_rules.specs.Fate.{due_of, is_decided}

-- a row that the drain finds before its wait is over
abbrev pub is_cut_short : SectionData → Option ℕ → Opened → Bool
is_cut_short section drain row = not (is_by (due_of section row.moment) drain)

-- what the rows give whose wait is over by the moment, by row number: each by itself and its number
abbrev pub picked : {X : Type 0} → SectionData → ℕ → Option ℕ → (Opened → ℕ → List (Group X)) → List Opened →
    List Opened → List (Group X)
picked section reached drain pick all [] = []
picked section reached drain pick all (row ∷ rows) =
    picked section reached drain pick all rows
    ++ (if is_decided section reached drain all row (length rows + 1) && not (is_cut_short section drain row)
    then pick row (length rows + 1) else [])

-- a group before the first one of its moment or of a later one
abbrev pub put : {X : Type 0} → Group X → List (Group X) → List (Group X)
put group [] = group ∷ []
put group (next ∷ groups) = if nat_le group.moment next.moment then group ∷ next ∷ groups else next ∷ put group groups

-- groups by moment; those of one moment stay in their order
abbrev pub by_moment : {X : Type 0} → List (Group X) → List (Group X)
by_moment [] = []
by_moment (group ∷ groups) = put group (by_moment groups)
