-- Strings.
use Rattle.std.proofs.Common.{◌≡◌, ℕ, List, Bool, true, false, Ok, Err, refl}
use Rattle.std.proofs.lemmas.Str.{is_utf8-from_IsUtf8, IsUtf8-from_is_utf8}
use Rattle.std.specs.Str.{IsUtf8, is_utf8}
use Rattle.otlp_read.specs.declared.fault.ReadFault.TheVariants.{NotUtf8}
use Rattle.otlp_read.specs.Numbers.{utf8}

pub utf8_yes : (bs : List ℕ) → IsUtf8 bs → utf8 bs ≡ Ok bs
unfolding utf8
utf8_yes bs h = rw (is_utf8-from_IsUtf8 bs h) refl

by_test : (bs : List ℕ) (b : Bool) → is_utf8 bs ≡ b → (IsUtf8 bs → ⊥) → b ≡ false
by_test bs true e h = absurd (h (IsUtf8-from_is_utf8 bs e))
by_test bs false e h = refl

pub utf8_no : (bs : List ℕ) → (IsUtf8 bs → ⊥) → utf8 bs ≡ Err NotUtf8
unfolding utf8
utf8_no bs h = rw (by_test bs (is_utf8 bs) refl h) refl
