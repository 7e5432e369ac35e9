use Rattle.std.proofs.Common.{◌≡◌, ◌++◌, [], length, map}
use Rattle.std.specs.Prelude.{string_bytes}
use Rattle.admin_pages.specs.Settings.{strings_behind}
use Rattle.admin_pages.proofs.settings.put_strings.Given as goal

abbrev pub invariant-loop-texts : goal.invariant-loop-texts
invariant-loop-texts l = l.out.items ++ strings_behind l.mark (map string_bytes l.texts) ≡ l.fn.out.items ++ strings_behind [] (map string_bytes l.fn.texts)

abbrev pub decreases-loop-texts : goal.decreases-loop-texts
decreases-loop-texts l = length l.texts
