-- What a function appended as a whole, where it gives what its last call gave.
use Rattle.std.proofs.Common.{◌≡◌, ℕ, List, ◌++◌, cond, Result, Ok, Err, IfOk, OnOk, sym, ◌∙◌, ap, append_assoc}
use Rattle.std.specs.Prelude.{is_ok}
use Rattle.admin_pages.proofs.Joined.{more}

-- the last piece, where it was appended
pub last : {T E : Type 0} (r : Result T E) (old before new pieces piece : List ℕ) → before ≡ old ++ pieces
    → OnOk r (new ≡ before ++ piece) → OnOk r (new ≡ old ++ (pieces ++ piece))
last (Ok t) old before new pieces piece e f = more old before new pieces piece e f
last (Err x) old before new pieces piece e f = tt

-- what a call that appends says, where it succeeds
pub appended : {T E : Type 0} (r : Result T E) (before new added piece : List ℕ) → new ≡ cond (is_ok r) (before ++ added) before
    → added ≡ piece → OnOk r (new ≡ before ++ piece)
appended (Ok t) before new added piece e is = e ∙ ap (λ (text : List ℕ). before ++ text) is
appended (Err x) before new added piece e is = tt

-- the same text in other words
pub shown : {T E : Type 0} (r : Result T E) (before new piece other : List ℕ) → piece ≡ other → OnOk r (new ≡ before ++ piece)
    → OnOk r (new ≡ before ++ other)
shown (Ok t) before new piece other is e = e ∙ ap (λ (text : List ℕ). before ++ text) is
shown (Err x) before new piece other is e = tt

-- the same of a text that is made, where it is
pub written : {T E : Type 0} (r : Result T E) (text : T → List ℕ) (piece other : List ℕ) → piece ≡ other
    → IfOk r (λ t. text t ≡ piece) → IfOk r (λ t. text t ≡ other)
written (Ok t) text piece other is e = e ∙ is
written (Err x) text piece other is e = tt

-- texts one behind another, from the bracketing of a format to that of a definition
three : (a b c : List ℕ) → a ++ (b ++ c) ≡ a ++ b ++ c
three a b c = sym (append_assoc a b c)

pieces4 : (a b c d : List ℕ) → a ++ (b ++ (c ++ d)) ≡ a ++ b ++ c ++ d
pieces4 a b c d = sym (append_assoc a b (c ++ d)) ∙ three (a ++ b) c d

pub pieces5 : (a b c d e : List ℕ) → a ++ (b ++ (c ++ (d ++ e))) ≡ a ++ b ++ c ++ d ++ e
pieces5 a b c d e = sym (append_assoc a b (c ++ (d ++ e))) ∙ pieces4 (a ++ b) c d e

pub pieces6 : (a b c d e f : List ℕ) → a ++ (b ++ (c ++ (d ++ (e ++ f)))) ≡ a ++ b ++ c ++ d ++ e ++ f
pieces6 a b c d e f = sym (append_assoc a b (c ++ (d ++ (e ++ f)))) ∙ pieces5 (a ++ b) c d e f

pub pieces7 : (a b c d e f g : List ℕ) → a ++ (b ++ (c ++ (d ++ (e ++ (f ++ g))))) ≡ a ++ b ++ c ++ d ++ e ++ f ++ g
pieces7 a b c d e f g = sym (append_assoc a b (c ++ (d ++ (e ++ (f ++ g))))) ∙ pieces6 (a ++ b) c d e f g

pub pieces9 : (a b c d e f g h i : List ℕ) → a ++ (b ++ (c ++ (d ++ (e ++ (f ++ (g ++ (h ++ i))))))) ≡ a ++ b ++ c ++ d ++ e ++ f ++ g ++ h ++ i
pieces9 a b c d e f g h i =
    sym (append_assoc a b (c ++ (d ++ (e ++ (f ++ (g ++ (h ++ i)))))))
    ∙ sym (append_assoc (a ++ b) c (d ++ (e ++ (f ++ (g ++ (h ++ i))))))
    ∙ pieces7 (a ++ b ++ c) d e f g h i

pub pieces11 : (a b c d e f g h i j k : List ℕ)
    → a ++ (b ++ (c ++ (d ++ (e ++ (f ++ (g ++ (h ++ (i ++ (j ++ k))))))))) ≡ a ++ b ++ c ++ d ++ e ++ f ++ g ++ h ++ i ++ j ++ k
pieces11 a b c d e f g h i j k =
    sym (append_assoc a b (c ++ (d ++ (e ++ (f ++ (g ++ (h ++ (i ++ (j ++ k)))))))))
    ∙ sym (append_assoc (a ++ b) c (d ++ (e ++ (f ++ (g ++ (h ++ (i ++ (j ++ k))))))))
    ∙ pieces9 (a ++ b ++ c) d e f g h i j k
