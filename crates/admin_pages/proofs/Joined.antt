-- What is appended piece by piece.
use Rattle.std.proofs.Common.{◌≡◌, ◌<◌, ℕ, List, [], ◌∷◌, ◌++◌, length, sym, ◌∙◌, ap, arith, append_assoc, append-nil}

-- nothing appended yet
pub begun : (text : List ℕ) → text ≡ text ++ []
begun text = sym (append-nil text)

-- one piece more
pub more : (old before new pieces piece : List ℕ) → before ≡ old ++ pieces → new ≡ before ++ piece → new ≡ old ++ (pieces ++ piece)
more old before new pieces piece e f = f ∙ ap (λ text. text ++ piece) e ∙ append_assoc old pieces piece

-- what is left to append after one piece more
pub moved : (old before new piece rest all : List ℕ) → new ≡ before ++ piece → before ++ (piece ++ rest) ≡ all → new ++ rest ≡ all
moved old before new piece rest all e f = ap (λ text. text ++ rest) e ∙ append_assoc before piece rest ∙ f

-- where nothing is left to append, all is there
pub ended : {A : Type 0} (out all : List ℕ) (xs : List A) (text : List A → List ℕ) → text [] ≡ [] → length xs < 1 → out ++ text xs ≡ all → out ≡ all
ended out all [] text none few is = sym (append-nil out) ∙ ap (λ rest. out ++ rest) (sym none) ∙ is
ended out all (x ∷ xs) text none few is = absurd (omega arith)

-- four pieces
pub four : (old one two three new a b c d : List ℕ) → one ≡ old ++ a → two ≡ one ++ b → three ≡ two ++ c → new ≡ three ++ d → new ≡ old ++ (a ++ b ++ c ++ d)
four old one two three new a b c d e f g h =
    more old three new (a ++ b ++ c) d (more old two three (a ++ b) c (more old one two a b e f) g) h
