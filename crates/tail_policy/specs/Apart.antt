-- A span by itself and its resource by itself, which together tell what a view of both tells. In the text of a Span its
-- attributes are the fields 9, in that of a Resource the fields 1 (OTLP 1.x's trace.proto and resource.proto).
use Rattle.std.proofs.Common.{◌≡◌, ◌∙◌, ℕ, List, [], ◌∷◌, ◌++◌, refl, sym, ap, subst}
use Rattle.std.proofs.lemmas.List.{append-nil}
use Rattle.span_view.specs.Facts.{AttributeFact, SpanFacts, AreText}
use Rattle.span_view.specs.Reading.{fields_in, fields_of, attributes_in, facts_of}

-- the facts of a span whose resource has these attributes, by its facts without a resource
abbrev pub with_attributes : SpanFacts → List AttributeFact → SpanFacts
with_attributes span attributes = record {
  trace_id = span.trace_id;
  span_id = span.span_id;
  start_time_unix_nano = span.start_time_unix_nano;
  end_time_unix_nano = span.end_time_unix_nano;
  status = span.status;
  attributes = span.attributes ++ attributes;
}

-- what a span's text tells, with these attributes in place of its own
abbrev told_with : List ℕ → List AttributeFact → SpanFacts
told_with span attributes = record {
  trace_id = (facts_of span []).trace_id;
  span_id = (facts_of span []).span_id;
  start_time_unix_nano = (facts_of span []).start_time_unix_nano;
  end_time_unix_nano = (facts_of span []).end_time_unix_nano;
  status = (facts_of span []).status;
  attributes = attributes;
}

-- an empty text has no attributes
no_attributes : (n : ℕ) → attributes_in n [] ≡ []
unfolding fields_of fields_in
no_attributes n = refl

-- the attributes of a span without a resource, and of a resource without a span
own_alone : (span : List ℕ) → attributes_in 9 span ++ attributes_in 1 [] ≡ attributes_in 9 span
own_alone span = ap (λ none. attributes_in 9 span ++ none) (no_attributes 1) ∙ append-nil (attributes_in 9 span)

shared_alone : (resource : List ℕ) → attributes_in 9 [] ++ attributes_in 1 resource ≡ attributes_in 1 resource
shared_alone resource = ap (λ none. none ++ attributes_in 1 resource) (no_attributes 9)

-- a view of a span and its resource tells what the span tells by itself, and behind its attributes the resource's
pub apart : (span resource : List ℕ)
    → facts_of span resource ≡ with_attributes (facts_of span []) (facts_of [] resource).attributes
apart span resource =
    ap (told_with span) (ap (λ own. own ++ attributes_in 1 resource) (sym (own_alone span))
    ∙ ap (λ shared. (attributes_in 9 span ++ attributes_in 1 []) ++ shared) (sym (shared_alone resource)))

-- ---- what a view asks of both texts

front_and_back : (xs ys : List AttributeFact) → AreText (xs ++ ys) → AreText xs × AreText ys
front_and_back [] ys all = (tt, all)
front_and_back (x ∷ xs) ys all = let rest = front_and_back xs ys all.1 in ((all.0, rest.0), rest.1)

all_of_both : (xs ys : List AttributeFact) → AreText xs → AreText ys → AreText (xs ++ ys)
all_of_both [] ys front back = back
all_of_both (x ∷ xs) ys front back = (front.0, all_of_both xs ys front.1 back)

-- it asks of each by itself
pub text_of_each : (span resource : List ℕ) → AreText (facts_of span resource).attributes
    → AreText (facts_of span []).attributes × AreText (facts_of [] resource).attributes
text_of_each span resource all =
    let both = front_and_back (attributes_in 9 span) (attributes_in 1 resource) all in (
      subst (λ own. AreText own) (sym (own_alone span)) both.0,
      subst (λ shared. AreText shared) (sym (shared_alone resource)) both.1,
    )

-- and no more
pub text_of_both : (span resource : List ℕ) → AreText (facts_of span []).attributes
    → AreText (facts_of [] resource).attributes → AreText (facts_of span resource).attributes
text_of_both span resource own shared =
    all_of_both (attributes_in 9 span) (attributes_in 1 resource)
    (subst (λ attributes. AreText attributes) (own_alone span) own)
    (subst (λ attributes. AreText attributes) (shared_alone resource) shared)

-- ---- notes

-- where the note of a span with its resource is made of two parts, so it is where these parts come of two texts
pub notes_of_texts : {M R : Type 0} (note_of : SpanFacts → M) (resource_of : List AttributeFact → R) (both : R → M → M)
    → ((span : SpanFacts) (attributes : List AttributeFact)
    → both (resource_of attributes) (note_of span) ≡ note_of (with_attributes span attributes))
    → (span resource : List ℕ) (part : R) → part ≡ resource_of (facts_of [] resource).attributes
    → both part (note_of (facts_of span [])) ≡ note_of (facts_of span resource)
notes_of_texts note_of resource_of both by_parts span resource part is =
    ap (λ r. both r (note_of (facts_of span []))) is
    ∙ by_parts (facts_of span []) (facts_of [] resource).attributes
    ∙ ap note_of (sym (apart span resource))
