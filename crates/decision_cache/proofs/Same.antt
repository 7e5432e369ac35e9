-- The test of two ids.
use Rattle.std.proofs.Common.{◌≡◌, ℕ, List, true}
use Rattle.std.specs.Cmp.{IsEquivalence}
use Rattle.std.specs.Cmp.Lexicographic.{nat_list_eq_equiv, bytes_decides}
use Rattle.decision_cache.specs.Ids.{is_same}

pub same_laws : IsEquivalence is_same
same_laws = nat_list_eq_equiv

pub same_decides : (one other : List ℕ) → is_same one other ≡ true → one ≡ other
same_decides one other same = (bytes_decides one other).0 same
