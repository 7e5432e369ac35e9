use Rattle.std.proofs.Common.{List, [], ◌∷◌, ◌++◌}
use Rattle.std.proofs.lemmas.Bool.{false≢true}
use Rattle.span_view.specs.Facts.{AttributeFact, AreText}
use Rattle.span_view.specs.Reading.{attributes_in}
use Rattle.span_view.proofs.text.is_text.Goals as goal

both : (xs ys : List AttributeFact) → AreText xs → AreText ys → AreText (xs ++ ys)
both [] ys h k = k
both (x ∷ xs) ys h k = (h.0, both xs ys h.1 k)

first : (xs ys : List AttributeFact) → AreText (xs ++ ys) → AreText xs
first [] ys h = tt
first (x ∷ xs) ys h = (h.0, first xs ys h.1)

second : (xs ys : List AttributeFact) → AreText (xs ++ ys) → AreText ys
second [] ys h = h
second (x ∷ xs) ys h = second xs ys h.1

-- src/text.rt:71:9
pub returns-then-not-are_text : goal.returns-then-not-are_text
returns-then-not-are_text c =
    let own = attributes_in 9 c.args.span.now in
    let others = attributes_in 1 c.args.resource.now in
    (λ wrong. absurd (false≢true wrong), λ text. c.if-not-are_text.ensures.1 (first own others text))

-- src/text.rt:67:1
pub returns : goal.returns
returns c =
    let own = attributes_in 9 c.args.span.now in
    let others = attributes_in 1 c.args.resource.now in
    (λ is. both own others (c.are_text.ensures.0 c.if-not-are_text.false) (c.are_text-2.ensures.0 is), λ text. c.are_text-2.ensures.1 (second own others text))
