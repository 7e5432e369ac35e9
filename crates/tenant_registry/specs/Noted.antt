-- The changes that were made of the settings at the start, as both who makes them and the settings in force know them.
-- This project's own rule.
use Rattle.std.specs.Prelude.{List, [], map}
use Rattle.agreed_list.specs.Agreed.{HalfState}
use Rattle.atomic_table.specs.Seated.{TableId}
use Rattle.tail_settings.specs.Change.{Change, admit, strike}
use Rattle.tenant_registry.specs.declared.noted.Change.{Change as Note}
use Rattle.tenant_registry.specs.declared.noted.Change.TheVariants.{Admit, Strike}

-- a change, as the code's type names it
abbrev pub change_of : Note → Change
change_of (Admit text) = admit text
change_of (Strike number) = strike number

-- those that a half of their list knows
abbrev pub changes_in : HalfState Note → List Change
changes_in half = map change_of half.items

-- the name of no table
abbrev pub no_table : TableId
no_table = record {
  words = 0;
  slots = 0;
  views_name = 0;
  atom = 0;
  block = 0;
  offset = 0;
  slot_names = [];
}
