-- Ids of traces as numbers.
use Rattle.std.proofs.Common.{◌≡◌, ◌∙◌, ℕ, suc, ◌+◌, ◌*◌, ◌^◌, ◌<◌, ◌≤◌, ◌==◌, ◌&&◌, refl, sym, ap, subst, arith, Bool, true, false, List, [], ◌∷◌, length, get_or, nat_lt}
use Rattle.std.proofs.lemmas.Bool.Decides.{nat_tests}
use Rattle.std.proofs.lemmas.Nat.{same_from_place, mul-le}
use Rattle.std.proofs.Math.Nat.{pow-succ'}
use Rattle.std.specs.List.{list_all}
use Rattle.trace_rows.specs.Maps.{is_id, halves}

abbrev is_byte : ℕ → Bool
is_byte byte = nat_lt byte 256

-- the number that bytes are
abbrev worth : List ℕ → ℕ
worth [] = 0
worth (byte ∷ bytes) = byte * 256 ^ length bytes + worth bytes

pub both : (a b : Bool) → (a && b) ≡ true → (a ≡ true) × (b ≡ true)
both true true e = (refl, refl)
both true false e = absurd (cc)
both false b e = absurd (cc)

below : (bytes : List ℕ) → list_all is_byte bytes ≡ true → worth bytes < 256 ^ length bytes
below [] all = omega arith
below (byte ∷ bytes) all =
    let parts = both (is_byte byte) (list_all is_byte bytes) all in
    let small : byte < 256 = grind (arith, nat_tests, parts.0) in
    let rest : worth bytes < 256 ^ length bytes = below bytes parts.1 in
    let grown : 256 ^ length (byte ∷ bytes) ≡ 256 * 256 ^ length bytes = pow-succ' 256 (length bytes) in
    let most : byte * 256 ^ length bytes ≤ 255 * 256 ^ length bytes = mul-le byte (256 ^ length bytes) 255 (256 ^ length bytes) (omega (arith, small)) (omega arith) in
    omega (arith, rest, grown, most)

same_of_worth : (a b : List ℕ) → length a ≡ length b → list_all is_byte a ≡ true → list_all is_byte b ≡ true → worth a ≡ worth b → a ≡ b
same_of_worth [] [] same all_a all_b e = refl
same_of_worth [] (y ∷ ys) same all_a all_b e = absurd (omega (arith, same))
same_of_worth (x ∷ xs) [] same all_a all_b e = absurd (omega (arith, same))
same_of_worth (x ∷ xs) (y ∷ ys) same all_a all_b e =
    let long : length xs ≡ length ys = omega (arith, same) in
    let in_a = both (is_byte x) (list_all is_byte xs) all_a in
    let in_b = both (is_byte y) (list_all is_byte ys) all_b in
    let e' : x * 256 ^ length xs + worth xs ≡ y * 256 ^ length xs + worth ys = e ∙ ap (λ n. y * 256 ^ n + worth ys) (sym long) in
    let parts = same_from_place x (worth xs) y (worth ys) (256 ^ length xs) (below xs in_a.1) (subst (λ n. worth ys < 256 ^ n) (sym long) (below ys in_b.1)) e' in
    λ i. parts.0 i ∷ same_of_worth xs ys long in_a.1 in_b.1 parts.1 i

-- sixteen bytes are the number of their halves
number_is : (bytes : List ℕ) → length bytes ≡ 16 → (halves bytes).0 * 18446744073709551616 + (halves bytes).1 ≡ worth bytes
number_is (a ∷ b ∷ c ∷ d ∷ e ∷ f ∷ g ∷ h ∷ i ∷ j ∷ k ∷ l ∷ m ∷ n ∷ o ∷ p ∷ []) long = omega arith
number_is [] long = absurd (omega (arith, long))
number_is (a ∷ []) long = absurd (omega (arith, long))
number_is (a ∷ b ∷ []) long = absurd (omega (arith, long))
number_is (a ∷ b ∷ c ∷ []) long = absurd (omega (arith, long))
number_is (a ∷ b ∷ c ∷ d ∷ []) long = absurd (omega (arith, long))
number_is (a ∷ b ∷ c ∷ d ∷ e ∷ []) long = absurd (omega (arith, long))
number_is (a ∷ b ∷ c ∷ d ∷ e ∷ f ∷ []) long = absurd (omega (arith, long))
number_is (a ∷ b ∷ c ∷ d ∷ e ∷ f ∷ g ∷ []) long = absurd (omega (arith, long))
number_is (a ∷ b ∷ c ∷ d ∷ e ∷ f ∷ g ∷ h ∷ []) long = absurd (omega (arith, long))
number_is (a ∷ b ∷ c ∷ d ∷ e ∷ f ∷ g ∷ h ∷ i ∷ []) long = absurd (omega (arith, long))
number_is (a ∷ b ∷ c ∷ d ∷ e ∷ f ∷ g ∷ h ∷ i ∷ j ∷ []) long = absurd (omega (arith, long))
number_is (a ∷ b ∷ c ∷ d ∷ e ∷ f ∷ g ∷ h ∷ i ∷ j ∷ k ∷ []) long = absurd (omega (arith, long))
number_is (a ∷ b ∷ c ∷ d ∷ e ∷ f ∷ g ∷ h ∷ i ∷ j ∷ k ∷ l ∷ []) long = absurd (omega (arith, long))
number_is (a ∷ b ∷ c ∷ d ∷ e ∷ f ∷ g ∷ h ∷ i ∷ j ∷ k ∷ l ∷ m ∷ []) long = absurd (omega (arith, long))
number_is (a ∷ b ∷ c ∷ d ∷ e ∷ f ∷ g ∷ h ∷ i ∷ j ∷ k ∷ l ∷ m ∷ n ∷ []) long = absurd (omega (arith, long))
number_is (a ∷ b ∷ c ∷ d ∷ e ∷ f ∷ g ∷ h ∷ i ∷ j ∷ k ∷ l ∷ m ∷ n ∷ o ∷ []) long = absurd (omega (arith, long))
number_is (a ∷ b ∷ c ∷ d ∷ e ∷ f ∷ g ∷ h ∷ i ∷ j ∷ k ∷ l ∷ m ∷ n ∷ o ∷ p ∷ q ∷ bytes) long = absurd (omega (arith, long))

pub same_of_halves : (a b : List ℕ) → is_id a ≡ true → is_id b ≡ true → (halves a).0 ≡ (halves b).0 → (halves a).1 ≡ (halves b).1 → a ≡ b
same_of_halves a b is_a is_b high low =
    let in_a = both (length a == 16) (list_all is_byte a) is_a in
    let in_b = both (length b == 16) (list_all is_byte b) is_b in
    let long_a : length a ≡ 16 = grind (arith, nat_tests, in_a.0) in
    let long_b : length b ≡ 16 = grind (arith, nat_tests, in_b.0) in
    let numbers = ap (λ n. n * 18446744073709551616 + (halves a).1) high ∙ ap (λ n. (halves b).0 * 18446744073709551616 + n) low in
    same_of_worth a b (long_a ∙ sym long_b) in_a.1 in_b.1 (sym (number_is a long_a) ∙ (numbers ∙ number_is b long_b))

pub all_bytes : (bytes : List ℕ) → ((i : ℕ) → get_or bytes i 0 < 256) → list_all is_byte bytes ≡ true
all_bytes [] small = refl
all_bytes (byte ∷ bytes) small =
    let first : is_byte byte ≡ true = grind (arith, nat_tests, small 0) in
    let rest = all_bytes bytes (λ i. small (suc i)) in
    grind (arith, first, rest)

pub bytes_are_id : (bytes : List ℕ) → length bytes ≡ 16 → ((i : ℕ) → get_or bytes i 0 < 256) → is_id bytes ≡ true
bytes_are_id bytes long small =
    let all = all_bytes bytes small in
    grind (arith, nat_tests, long, all)
