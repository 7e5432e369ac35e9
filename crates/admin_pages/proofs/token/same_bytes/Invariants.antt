use Rattle.std.proofs.Common.{◌≡◌, ◌&&◌, drop}
use Rattle.std.specs.Str.{bytes_eq}
use Rattle.admin_pages.proofs.token.same_bytes.Given as goal

abbrev pub invariant-loop-i : goal.invariant-loop-i
invariant-loop-i l = (l.same && bytes_eq (drop l.i l.wanted) (drop l.i l.given)) ≡ bytes_eq l.wanted l.given
