-- Texts one behind another, from the bracketing of a format to that of a definition.
use Rattle.std.proofs.Common.{◌≡◌, ℕ, List, ◌++◌, sym, ◌∙◌, append_assoc}

pub three : (a b c : List ℕ) → a ++ (b ++ c) ≡ a ++ b ++ c
three a b c = sym (append_assoc a b c)

four : (a b c d : List ℕ) → a ++ (b ++ (c ++ d)) ≡ a ++ b ++ c ++ d
four a b c d = sym (append_assoc a b (c ++ d)) ∙ three (a ++ b) c d

pub five : (a b c d e : List ℕ) → a ++ (b ++ (c ++ (d ++ e))) ≡ a ++ b ++ c ++ d ++ e
five a b c d e = sym (append_assoc a b (c ++ (d ++ e))) ∙ four (a ++ b) c d e

pub six : (a b c d e f : List ℕ) → a ++ (b ++ (c ++ (d ++ (e ++ f)))) ≡ a ++ b ++ c ++ d ++ e ++ f
six a b c d e f = sym (append_assoc a b (c ++ (d ++ (e ++ f)))) ∙ five (a ++ b) c d e f

pub seven : (a b c d e f g : List ℕ) → a ++ (b ++ (c ++ (d ++ (e ++ (f ++ g))))) ≡ a ++ b ++ c ++ d ++ e ++ f ++ g
seven a b c d e f g = sym (append_assoc a b (c ++ (d ++ (e ++ (f ++ g))))) ∙ six (a ++ b) c d e f g
