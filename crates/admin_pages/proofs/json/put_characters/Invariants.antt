use Rattle.std.proofs.Common.{◌≡◌, ◌++◌, length, flat_map}
use Rattle.admin_pages.specs.Json.{string_byte}
use Rattle.admin_pages.proofs.json.put_characters.Given as goal

abbrev pub invariant-loop-bytes : goal.invariant-loop-bytes
invariant-loop-bytes l = l.out.items ++ flat_map string_byte l.bytes ≡ l.fn.out.items ++ flat_map string_byte l.fn.bytes

abbrev pub decreases-loop-bytes : goal.decreases-loop-bytes
decreases-loop-bytes l = length l.bytes
