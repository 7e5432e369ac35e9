-- Rows in blocks: this project's own rule.
use Rattle.std.specs.Prelude.{ℕ, ◌/◌, ◌%◌, Option, Some, None, get_or}
use Rattle.std.specs.declared.cmp.Reverse.{Reverse}
use Rattle.trace_rows.specs.declared.block.Block.{Block}
use Rattle.trace_rows.specs.declared.table.Row.{Row}

-- how many numbers that follow each other have their rows in one block
abbrev pub block_rows : ℕ
block_rows = 64

-- a block's rows, by place
abbrev pub slots_of : {N : Type 0} → Block N → ℕ → Option (Row N)
slots_of block = λ place. get_or block.slots.items place None

-- the same, where there may be no block
abbrev pub slots_in : {N : Type 0} → Option (Block N) → ℕ → Option (Row N)
slots_in None = λ _. None
slots_in (Some block) = slots_of block

-- rows by number, of blocks by number
unfoldable pub rows_in : {N : Type 0} → (Reverse ℕ → Option (Block N)) → ℕ → Option (Row N)
rows_in blocks number = slots_in (blocks (record { 0 = number / block_rows })) (number % block_rows)
