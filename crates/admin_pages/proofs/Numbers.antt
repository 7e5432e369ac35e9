-- Digits that are read as a number.
use Rattle.std.proofs.Common.{◌≡◌, ◌<◌, ◌^◌, ℕ, List, decimal, Option, Some, None, Result, Ok, Err, MatchResult, Bor, sym, ap, ◌∙◌, arith, subst}
use Rattle.std.specs.Option.{option_map}
use Rattle.std.specs.Result.{result_ok}
use Rattle.std.specs.Str.{IsUtf8, IsAscii}
use Rattle.std.specs.Str.Parse.{ParsesUnsigned}
use Rattle.std.proofs.lemmas.Fmt.{IsAscii-decimal, parse-decimal}
use Rattle.std.proofs.lemmas.Str.{IsUtf8-from_ascii}

-- what `from_utf8` gives for a text of ASCII
told : {E : Type 0} (Q : E → Type 0) (r : Result (Bor (List ℕ)) E) (o : Option (Bor (List ℕ))) (bytes : List ℕ) → IsAscii bytes
    → MatchResult r (λ s. (s.now ≡ bytes) × IsUtf8 bytes) (λ e. ¬ (IsUtf8 bytes) × Q e) → o ≡ result_ok r → option_map (λ s. s.now) o ≡ Some bytes
told Q (Ok s) o bytes ascii h e = rw e (ap Some h.0)
told Q (Err x) o bytes ascii h e = absurd (h.0 (IsUtf8-from_ascii bytes ascii))

-- the digits of a number are a text
pub are_text : {E : Type 0} (Q : E → Type 0) (r : Result (Bor (List ℕ)) E) (o : Option (Bor (List ℕ))) (bytes : List ℕ) (n : ℕ) → n < 2 ^ 63 → bytes ≡ decimal n
    → MatchResult r (λ s. (s.now ≡ bytes) × IsUtf8 bytes) (λ e. ¬ (IsUtf8 bytes) × Q e) → o ≡ result_ok r → option_map (λ s. s.now) o ≡ Some bytes
are_text Q r o bytes n small is h e = told Q r o bytes (subst IsAscii (sym is) (IsAscii-decimal n (omega arith))) h e

pub no_text : (o : Option (Bor (List ℕ))) (bytes : List ℕ) → option_map (λ s. s.now) o ≡ Some bytes → o ≡ None → ⊥
no_text (Some s) bytes h e = cc
no_text None bytes h e = cc

pub same_text : (o : Option (Bor (List ℕ))) (bytes : List ℕ) (s : Bor (List ℕ)) → option_map (λ s. s.now) o ≡ Some bytes → o ≡ Some s → s.now ≡ bytes
same_text (Some t) bytes s h e = let same : t ≡ s = cc in sym (ap (λ x. x.now) same) ∙ (cc)
same_text None bytes s h e = absurd (cc)

-- and are read as it
pub parsed : {E : Type 0} (n : ℕ) (text : List ℕ) (r : Result ℕ E) (o : Option ℕ) → n < 2 ^ 63 → text ≡ decimal n → ParsesUnsigned 64 10 text r → o ≡ result_ok r → o ≡ Some n
parsed n text r o small is parses e = e ∙ ap result_ok (parse-decimal 64 n text r (omega arith) (omega arith) is parses)
