-- The options of `serve`, a round at a time.
use Rattle.std.proofs.Common.{◌≡◌, ℕ, suc, ◌-◌, ◌≤◌, ◌<◌, true, false, List, [], ◌∷◌, map, length, length-take, length-drop, get_or, take, take_all, drop, Option, Some, None, String, Global, string_bytes, refl, sym, ap, ◌∙◌, arith}
use Rattle.std.specs.Option.{option_and_then}
use Rattle.collector_command.specs.Task.{OptionsData, is_flag, with_flag, with_value, is_whole, options_from}

-- the words that texts spell
abbrev pub spelled : List (String Global) → List (List ℕ)
spelled xs = map string_bytes xs

pub none_left : (xs : List (String Global)) → length xs < 1 → spelled xs ≡ []
none_left [] none = refl
none_left (x ∷ xs) none = absurd (omega arith)

pub front : (xs : List (String Global)) (x d : String Global) → 1 ≤ length xs → x ≡ get_or xs 0 d
    → spelled xs ≡ string_bytes x ∷ spelled (take (length xs - 1) (drop 1 xs))
front [] x d some same = absurd (omega arith)
front (y ∷ ys) x d some same =
    let all : take (suc (length ys) - 1) ys ≡ ys = take_all _ ys (omega arith) in
    rw (same, all)

-- the rest is shorter
pub shorter : {X : Type 0} (xs : List X) → 1 ≤ length xs → length (take (length xs - 1) (drop 1 xs)) < length xs
shorter xs some = omega (arith, length-take (length xs - 1) (drop 1 xs), length-drop 1 xs)

-- a word that is an option without a value, and what becomes of the rest
pub flagged : (given : OptionsData) (all words : List (List ℕ)) (word : List ℕ) → all ≡ word ∷ words → is_flag word ≡ true
    → options_from given None all ≡ option_and_then (λ more. options_from more None words) (with_flag given word)
unfolding options_from
flagged given all words word front is = rw (front, is) refl

-- another word and its value, and what becomes of the rest
pub valued : (given : OptionsData) (all behind words : List (List ℕ)) (word value : List ℕ) → all ≡ word ∷ behind
    → behind ≡ value ∷ words → is_flag word ≡ false
    → options_from given None all ≡ option_and_then (λ more. options_from more None words) (with_value given word value)
unfolding options_from
valued given all behind words word value front next is = rw (front, next, is) refl

-- another word without a value
pub unvalued : (given : OptionsData) (all behind : List (List ℕ)) (word : List ℕ) → all ≡ word ∷ behind → behind ≡ []
    → is_flag word ≡ false → options_from given None all ≡ None
unfolding options_from
unvalued given all behind word front next is = rw (front, next, is) refl

-- no word more, behind what is whole or not
pub ended : (given : OptionsData) (all : List (List ℕ)) → all ≡ [] → is_whole given ≡ true
    → options_from given None all ≡ Some given
unfolding options_from
ended given all none is = rw (none, is) refl

pub unended : (given : OptionsData) (all : List (List ℕ)) → all ≡ [] → is_whole given ≡ false
    → options_from given None all ≡ None
unfolding options_from
unended given all none is = rw (none, is) refl

-- what becomes of a choice that is known
pub chosen : (F : OptionsData → Option OptionsData) (choice : Option OptionsData) (more : OptionsData) (from : Option OptionsData)
    → from ≡ option_and_then F choice → choice ≡ Some more → from ≡ F more
chosen F choice more from is some = is ∙ ap (option_and_then F) some

pub refused : (F : OptionsData → Option OptionsData) (choice from : Option OptionsData)
    → from ≡ option_and_then F choice → choice ≡ None → from ≡ None
refused F choice from is none = is ∙ ap (option_and_then F) none
