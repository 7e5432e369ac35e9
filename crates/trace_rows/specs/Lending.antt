-- What a block and the table end as, where a `&mut` to one of their rows is returned.
use Rattle.std.specs.Prelude.{◌≡◌, ℕ, Option, Some, OnSome}
use Rattle.std.specs.Borrow.{LendsSo, Fml, RattleType, MutBor}
use Rattle.trace_rows.specs.declared.block.Block.{Block}
use Rattle.trace_rows.specs.declared.table.Row.{Row}
use Rattle.trace_rows.specs.declared.table.TraceRows.{TraceRows}
use Rattle.trace_rows.specs.contracts.block.Block.{the_row as row_of_block}
use Rattle.trace_rows.specs.contracts.table.Row.{the_row as row_of_trace}
use Rattle.trace_rows.specs.contracts.table.TraceRows.{the_row as row_of_table}
use Rattle.trace_rows.specs.Blocks.{slots_of}
use Rattle.trace_rows.specs.Part.{rows_part, with_at, HasRows}

module _ (N : RattleType) (block : MutBor (Block N.Denot)) where
  -- once the borrow r ends, the place has the last row written through r, and at `None` all rows stay
  abbrev pub lends_row : ℕ → Option (MutBor (Row N.Denot)) → Fml
  lends_row place r = LendsSo (row_of_block N) (row_of_trace N) block r
      (λ n w. OnSome r (slots_of n ≡ with_at place (Some w) (slots_of block.now)))
      (λ n. slots_of n ≡ slots_of block.now)

module _ (N : RattleType) (table : MutBor (TraceRows N.Denot)) where
  -- the same of a tenant's row by its number; all else is as it was
  abbrev pub lends_numbered : ℕ → ℕ → Option (MutBor (Row N.Denot)) → Fml
  lends_numbered tenant number r = LendsSo (row_of_table N) (row_of_trace N) table r
      (λ n w. OnSome r (HasRows tenant (with_at number (Some w) (rows_part tenant table.now)) table.now n))
      (λ n. HasRows tenant (rows_part tenant table.now) table.now n)
