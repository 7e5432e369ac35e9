-- The bytes that texts are cut from, whoever holds them. This project's own rule.
use Rattle.std.specs.Prelude.{ℕ, List}
use Rattle.text_slice.specs.declared.block.Block.{Block}
use Rattle.text_slice.specs.declared.block.Block.TheVariants as block

-- the bytes
abbrev pub bytes_in : Block → List ℕ
bytes_in (block.Body bytes) = bytes
bytes_in (block.Written bytes) = bytes.items
