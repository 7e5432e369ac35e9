-- A number behind a label, and what stands behind it.
use Rattle.std.proofs.Common.{◌≡◌, ◌≢◌, ◌<◌, ◌^◌, ◌-◌, ◌&&◌, ◌+◌, ℕ, Bool, true, false, cond, List, [], ◌∷◌, ◌++◌, length, take, drop, decimal, Option, Some, None, Bor, refl, sym, ap, ◌∙◌, arith, rules, append_assoc}
use Rattle.std.specs.Prelude.{MatchOption}
use Rattle.std.specs.Char.{is_ascii_digit}
use Rattle.std.specs.List.{list_all, prefix_len}
use Rattle.std.specs.Str.{bytes_eq}
use Rattle.std.specs.Str.Parse.{digits_value}
use Rattle.std.proofs.Math.Seq.{take-append_seam, drop-append_seam}
use Rattle.std.proofs.lemmas.Fmt.{digits_decimal}
use Rattle.std.proofs.lemmas.List.{take_rest, take-append-drop, append_cancel_left}
use Rattle.std.proofs.lemmas.Slice.Eq.{bytes_eq-Decides}
use Rattle.std.proofs.lemmas.Str.Parse.{IsNumeralModel, numerals_by_value}
use Rattle.admin_pages.specs.Report.{begins_with_digit}

own : IsNumeralModel (λ ds. list_all is_ascii_digit ds ≡ true) (digits_value 10)
own = numerals_by_value _ (search rules)

step : (b c : Bool) (n m : ℕ) → (b && c) ≡ true → (c ≡ true → n ≡ m) → cond b (1 + n) 0 ≡ 1 + m
step true c n m h ih = let e : n ≡ m = ih h in omega arith
step false c n m h ih = absurd (cc)

-- digits and what begins with none have as many digits at their front
front : (xs rest : List ℕ) → list_all is_ascii_digit xs ≡ true → begins_with_digit rest ≡ false → prefix_len is_ascii_digit (xs ++ rest) ≡ length xs
front [] [] all other = refl
front [] (b ∷ bs) all other = rw other refl
front (x ∷ xs) rest all other =
    let more : cond (is_ascii_digit x) (1 + prefix_len is_ascii_digit (xs ++ rest)) 0 ≡ 1 + length xs =
    step (is_ascii_digit x) (list_all is_ascii_digit xs) (prefix_len is_ascii_digit (xs ++ rest)) (length xs) all (λ h. front xs rest h other) in
    more ∙ (omega arith)

pub digits_at : (n len : ℕ) (text rest : List ℕ) → n < 2 ^ 63 → begins_with_digit rest ≡ false → len ≡ prefix_len is_ascii_digit text → text ≡ decimal n ++ rest → len ≡ length (decimal n)
digits_at n len text rest small other at is =
    at ∙ ap (λ t. prefix_len is_ascii_digit t) is ∙ front (decimal n) rest (digits_decimal own n (omega arith)) other

-- the digits, and what stands behind them
pub digits_are : (n len : ℕ) (text rest : List ℕ) → len ≡ length (decimal n) → text ≡ decimal n ++ rest → take len text ≡ decimal n
digits_are n len text rest at is = rw (at, is) (take-append_seam (decimal n) rest)

pub rest_is : (n len : ℕ) (text rest : List ℕ) → len ≡ length (decimal n) → text ≡ decimal n ++ rest → take (length text - len) (drop len text) ≡ rest
rest_is n len text rest at is = take_rest text len ∙ (rw (at, is) (drop-append_seam (decimal n) rest))

-- what stands behind the label
pub behind : (label text whole digits rest : List ℕ) → whole ≡ label ++ text → whole ≡ label ++ digits ++ rest → text ≡ digits ++ rest
behind label text whole digits rest cut is = append_cancel_left label text (digits ++ rest) (sym cut ∙ (is ∙ append_assoc label digits rest))

-- a text in its parts
pub parted : (label text whole : List ℕ) (n len : ℕ) → whole ≡ label ++ text → take len text ≡ decimal n → whole ≡ label ++ decimal n ++ take (length text - len) (drop len text)
parted label text whole n len cut digits =
    let split : text ≡ decimal n ++ drop len text = sym (take-append-drop len text) ∙ ap (λ d. d ++ drop len text) digits in
    cut ∙ ap (λ t. label ++ t) split ∙ sym (append_assoc label (decimal n) (drop len text)) ∙ ap (λ r. label ++ decimal n ++ r) (sym (take_rest text len))

pub missing : (r : Option (Bor (List ℕ))) (s p t : List ℕ) → MatchOption r ((rest : List ℕ) → s ≢ p ++ rest) (λ x. s ≡ p ++ x.now) → r ≡ None → s ≡ p ++ t → ⊥
missing None s p t h e is = h t is
missing (Some x) s p t h e is = absurd (cc)

pub stripped : (r : Option (Bor (List ℕ))) (s p : List ℕ) (x : Bor (List ℕ)) → MatchOption r ((rest : List ℕ) → s ≢ p ++ rest) (λ y. s ≡ p ++ y.now) → r ≡ Some x → s ≡ p ++ x.now
stripped None s p x h e = absurd (cc)
stripped (Some y) s p x h e = let same : y ≡ x = cc in h ∙ ap (λ z. p ++ z.now) same

pub clash : (o : Option ℕ) (n : ℕ) → o ≡ Some n → o ≡ None → ⊥
clash None n a b = absurd (cc)
clash (Some m) n a b = absurd (cc)

pub same_number : (o : Option ℕ) (m n : ℕ) → o ≡ Some m → o ≡ Some n → m ≡ n
same_number o m n a b = let same : Some m ≡ Some n = sym a ∙ b in cc

pub both : (m n : ℕ) (text rest : List ℕ) → m ≡ n → text ≡ rest → ◌≡◌ {A = Option (ℕ × List ℕ)} (Some (m, text)) (Some (n, rest))
both m n text rest e f = rw (e, f) refl

pub differs : (b : Bool) (xs ys : List ℕ) → b ≡ bytes_eq xs ys → b ≡ false → xs ≡ ys → ⊥
differs b xs ys e f is =
    let all : bytes_eq xs ys ≡ true = (bytes_eq-Decides xs ys).1 is in
    let both : false ≡ true = sym f ∙ e ∙ all in
    absurd (cc)
