-- The bits of what a span is: of a slice's last policy, of a fact, and of all facts.
use Rattle.std.proofs.Common.{◌≡◌, ◌≤◌, ◌<◌, ◌∙◌, ◌^◌, ℕ, Bool, ◌||◌, List, [], ◌∷◌, ◌++◌, map, refl, sym, ap, subst, arith}
use Rattle.std.proofs.Math.Bool.{or-false}
use Rattle.std.proofs.Math.Pow.{pow_mono}
use Rattle.std.proofs.lemmas.List.{map-append, append-nil}
use Rattle.std.specs.Prelude.{bit_or}
use Rattle.tail_settings.specs.declared.policy.LeafPolicy.{LeafPolicy}
use Rattle.tail_settings.specs.declared.policy.PolicySpec.{PolicySpec}
use Rattle.tail_settings.specs.Policy.{LeafData, PolicyData, and, leaves_of, leaf_view, policy_view}
use Rattle.tail_settings.specs.Policy.{always_sample, latency, status_code, string_attribute, numeric_attribute}
use Rattle.span_view.specs.Facts.{AttributeFact, SpanFacts, ValueFact}
use Rattle.tail_policy.specs.Note.{leaves_in, with_bit, bits_below, bits_of, status, attribute, fact_meets, attributes_meet, span_meets}
use Rattle.tail_policy.specs.Parts.{none_any}
use Rattle.tail_policy.specs.NoteBits.{bits_below-append, bits_least, bits_most, leaves_in-append, leaves_in-count, or_none, or_assoc, or_bits, same_bits, no_bits}

module _ (f : LeafData → Bool) where
  pub last_leaf : (left before : List LeafPolicy) (l : LeafPolicy) (n : ℕ) → left ≡ before ++ l ∷ []
      → bits_below f (map leaf_view left) n ≡ bits_below f (map leaf_view before) (with_bit (f (leaf_view l)) n)
  last_leaf left before l n ends =
      ap (λ ls. bits_below f (map leaf_view ls) n) ends
      ∙ ap (λ ls. bits_below f ls n) (map-append leaf_view before (l ∷ []))
      ∙ bits_below-append f (map leaf_view before) (leaf_view l ∷ []) n

  pub last_policy : (left before : List PolicySpec) (p : PolicySpec) (n : ℕ) → left ≡ before ++ p ∷ []
      → bits_below f (leaves_in (map policy_view left)) n ≡ bits_below f (leaves_in (map policy_view before)) (bits_below f (leaves_in (policy_view p ∷ [])) n)
  last_policy left before p n ends =
      ap (λ ps. bits_below f (leaves_in (map policy_view ps)) n) ends
      ∙ ap (λ ps. bits_below f (leaves_in ps) n) (map-append policy_view before (p ∷ []))
      ∙ ap (λ ls. bits_below f ls n) (leaves_in-append (map policy_view before) (policy_view p ∷ []))
      ∙ bits_below-append f (leaves_in (map policy_view before)) (leaves_in (policy_view p ∷ [])) n

  pub below : (ls : List LeafData) (n total : ℕ) → bits_below f ls n ≡ total → total < 2 ^ 64 → n < 2 ^ 64
  below ls n total is room = let least = bits_least f ls n in omega (arith, least, is, room)

  pub few_bits : (ps : List PolicyData) → leaves_of ps ≤ 64 → bits_of f (leaves_in ps) < 2 ^ 64
  few_bits ps few =
      let most : bits_of f (leaves_in ps) < 2 ^ leaves_of ps = subst (λ k. bits_of f (leaves_in ps) < 2 ^ k) (leaves_in-count ps) (bits_most f (leaves_in ps)) in
      let room : 2 ^ leaves_of ps ≤ 2 ^ 64 = pow_mono few in
      omega (arith, most, room)

  pub and_bits : (ls : List LeafData) (n : ℕ) → bits_below f (leaves_in (and ls ∷ [])) n ≡ bits_below f ls n
  and_bits ls n = ap (λ ms. bits_below f ms n) (append-nil ls)

meets_is : (span : SpanFacts) (l : LeafData) → (fact_meets (status span.status) l || attributes_meet span.attributes l) ≡ span_meets span l
meets_is span always_sample = none_any span.attributes
meets_is span (latency threshold) = none_any span.attributes
meets_is span (status_code codes) = ap (λ b. fact_meets (status span.status) (status_code codes) || b) (none_any span.attributes) ∙ or-false _
meets_is span (string_attribute key values) = refl
meets_is span (numeric_attribute key low high) = refl

-- all that a span is, by its status and its attributes
pub met_is : (span : SpanFacts) (ls : List LeafData)
    → bit_or (bits_of (fact_meets (status span.status)) ls) (bits_of (attributes_meet span.attributes) ls) ≡ bits_of (span_meets span) ls
met_is span ls =
    or_bits (fact_meets (status span.status)) (attributes_meet span.attributes) ls
    ∙ same_bits _ (span_meets span) (meets_is span) ls

-- one attribute more, and none left
pub one_more : (a : AttributeFact) (rest all : List AttributeFact) (ls : List LeafData) (bits found total : ℕ) → all ≡ a ∷ rest
    → found ≡ bits_of (fact_meets (attribute a)) ls → bit_or bits (bits_of (attributes_meet all) ls) ≡ total
    → bit_or (bit_or bits found) (bits_of (attributes_meet rest) ls) ≡ total
one_more a rest all ls bits found total steps is so_far =
    let behind : ℕ = bits_of (attributes_meet rest) ls in
    or_assoc bits found behind
    ∙ ap (bit_or bits) (ap (λ n. bit_or n behind) is ∙ or_bits (fact_meets (attribute a)) (attributes_meet rest) ls)
    ∙ ap (λ xs. bit_or bits (bits_of (attributes_meet xs) ls)) (sym steps)
    ∙ so_far

pub none_left : (all : List AttributeFact) (ls : List LeafData) (bits total : ℕ) → all ≡ []
    → bit_or bits (bits_of (attributes_meet all) ls) ≡ total → bits ≡ total
none_left all ls bits total ends so_far =
    sym (or_none bits) ∙ ap (bit_or bits) (sym (no_bits ls))
    ∙ ap (λ xs. bit_or bits (bits_of (attributes_meet xs) ls)) (sym ends)
    ∙ so_far

-- an attribute is its key and its value
pub attribute_is : (a : AttributeFact) (key : List ℕ) (value : ValueFact) → key ≡ a.key → value ≡ a.value
    → ◌≡◌ {A = AttributeFact} (record { key = key; value = value }) a
attribute_is a key value keys values =
    ap (λ k. record { key = k; value = value }) keys ∙ ap (λ v. record { key = a.key; value = v }) values
