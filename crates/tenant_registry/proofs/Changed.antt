-- What the lines that answer say, and where a report's settings begin.
use Rattle.std.proofs.Common.{◌≡◌, ◌∙◌, ℕ, ◌<◌, ◌≤◌, List, ◌++◌, length, ap, sym, inl, inr, Bor, Option, Some, None, IfSome, MatchOption, append_assoc, option_copied}
use Rattle.std.proofs.lemmas.Bool.Decides.{leb_tells}
use Rattle.std.proofs.lemmas.List.{append_cancel_left, append_cancel_right}
use Rattle.std.proofs.lemmas.List.Prefix.{front_rest}
use Rattle.std.specs.Str.Pattern.{FindsTextSuffix, LacksTextAt, StripsSuffix}

-- what stands behind the same front, or before the same end
pub behind : (p s x q : List ℕ) → s ≡ p ++ x → s ≡ p ++ q → x ≡ q
behind p s x q a b = append_cancel_left p x q (sym a ∙ b)

pub before : (t s x q : List ℕ) → s ≡ x ++ t → s ≡ q ++ t → x ≡ q
before t s x q a b = append_cancel_right x q t (sym a ∙ b)

-- where a text stands first
pub first_place : (mark s other rest : List ℕ) (i : ℕ) → ((k : ℕ) → k < i → LacksTextAt mark s k) → s ≡ other ++ (mark ++ rest)
    → i ≤ length other
first_place mark s other rest i lacks is =
    elim (leb_tells i (length other)) as (λ _. i ≤ length other) [
      | inl h ↦ h.1
      | inr h ↦ absurd (lacks (length other) h.1 rest (front_rest s other (mark ++ rest) is))
    ]

-- what stands before the end that was cut off
pub stripped : (t s q : List ℕ) (r : Option (Bor (List ℕ)))
    → MatchOption r (FindsTextSuffix t s None) (λ x. StripsSuffix (FindsTextSuffix t) s x.now) → s ≡ q ++ t
    → option_copied r ≡ Some q
stripped t s q None none is = absurd (none q is)
stripped t s q (Some x) has is = ap Some (before t s x.now q (has.1.1 ∙ ap (λ y. y ++ t) (sym has.2)) is)

-- a line whose pieces were cut off, one after another
pub pieced : (line word named name after gap rest end : List ℕ) (r : Option (Bor (List ℕ))) → line ≡ word ++ named → named ≡ name ++ after
    → after ≡ gap ++ rest → MatchOption r (FindsTextSuffix end rest None) (λ x. StripsSuffix (FindsTextSuffix end) rest x.now)
    → IfSome r (λ x. line ≡ word ++ name ++ gap ++ x.now ++ end)
pieced line word named name after gap rest end None one two three has = tt
pieced line word named name after gap rest end (Some x) one two three has =
    let four : rest ≡ x.now ++ end = has.1.1 ∙ ap (λ y. y ++ end) (sym has.2) in
    let whole : line ≡ word ++ (name ++ (gap ++ (x.now ++ end))) =
    one ∙ ap (λ n. word ++ n) (two ∙ ap (λ a. name ++ a) (three ∙ ap (λ y. gap ++ y) four)) in
    simp append_assoc whole
