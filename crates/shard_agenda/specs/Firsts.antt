-- In which order entries stand, and at each place the first of those below it: this project's own rule.
use Rattle.std.specs.Prelude.{◌≡◌, ◌≢◌, ℕ, ◌+◌, ◌*◌, Bool, true, false, List, length, Option, Some, None, if◌then◌else◌, ◌==◌, ◌||◌, ◌&&◌, nat_lt, slice_get}
use Rattle.std.specs.Ordering.{nat_cmp}
use Rattle.std.specs.BTreeMap.{BTreeMap}
use Rattle.std.specs.BTreeMap as tree
use Rattle.shard_agenda.specs.declared.AgendaEntry.{AgendaEntry}
use Rattle.shard_agenda.specs.Agenda.{AreApart, place}

-- one stands before another: by moment, then by number; a member without a moment stands last
abbrev pub is_before : Option ℕ → ℕ → Option ℕ → ℕ → Bool
is_before None tenant None tenant' = nat_lt tenant tenant'
is_before None tenant (Some moment') tenant' = false
is_before (Some moment) tenant None tenant' = true
is_before (Some moment) tenant (Some moment') tenant' =
    nat_lt moment moment' || moment == moment' && nat_lt tenant tenant'

-- the same of two entries
abbrev pub precedes : AgendaEntry → AgendaEntry → Bool
precedes a b = is_before a.ready a.tenant b.ready b.tenant

-- the one that stands first, of those that there are
abbrev pub first_of : Option AgendaEntry → Option AgendaEntry → Option AgendaEntry
first_of None b = b
first_of (Some a) None = Some a
first_of (Some a) (Some b) = if precedes b a then Some b else Some a

-- the first of a place's own entry and those below it, as the two places there tell
abbrev pub first_below : List AgendaEntry → List AgendaEntry → ℕ → Option AgendaEntry
first_below entries firsts at =
    first_of (first_of (slice_get entries at) (slice_get firsts (2 * at + 1))) (slice_get firsts (2 * at + 2))

-- each place tells the first of those below it
abbrev pub IsRight : List AgendaEntry → List AgendaEntry → Type 0
IsRight entries firsts = (at : ℕ) → slice_get firsts at ≡ first_below entries firsts at

-- the same, but perhaps of one place and of the place above it
abbrev pub IsRightBut : ℕ → List AgendaEntry → List AgendaEntry → Type 0
IsRightBut changed entries firsts = (at : ℕ) → at ≢ changed → 2 * at + 1 ≢ changed → 2 * at + 2 ≢ changed →
    slice_get firsts at ≡ first_below entries firsts at

-- what always holds of an agenda
pub record AgendaInvariant (entries firsts : List AgendaEntry) (places : BTreeMap ℕ ℕ) : Type 0 where
  pub apart : AreApart entries
  pub even : length firsts ≡ length entries
  pub right : IsRight entries firsts
  pub placed : (tenant : ℕ) → tree.get nat_cmp places tenant ≡ place tenant entries
