-- Texts that a test finds the same.
use Rattle.std.proofs.Common.{◌≡◌, ℕ, true, List, Option, Some, None, refl, ap}
use Rattle.std.specs.Prelude.{Decides}
use Rattle.std.specs.Cmp.Lexicographic.{bytes_decides}
use Rattle.span_pool.specs.Stored.{same_text}

pub text_decides : (a b : Option (List ℕ)) → Decides (same_text a b) (a ≡ b)
text_decides None None = (λ h. refl, λ h. refl)
text_decides None (Some y) = (λ h. absurd (cc), λ h. absurd (cc))
text_decides (Some x) None = (λ h. absurd (cc), λ h. absurd (cc))
text_decides (Some x) (Some y) = (λ h. ap Some ((bytes_decides x y).0 h), λ h. let same : x ≡ y = cc in (bytes_decides x y).1 same)

-- each is the other
pub the_same_text : (a b : Option (List ℕ)) → same_text a b ≡ true → a ≡ b
the_same_text a b same = (text_decides a b).0 same
