-- What policies ask of a span beside its times.
use Rattle.std.proofs.Common.{◌≡◌, ◌∙◌, ◌*◌, ℕ, ℤ, Bool, true, false, ◌||◌, List, [], ◌∷◌, refl, sym, ap}
use Rattle.std.specs.Prelude.{pos, bit_or, if◌then◌else◌}
use Rattle.std.proofs.lemmas.Bool.Decides.{Decides-int_eq}
use Rattle.std.proofs.lemmas.List.Folds.{list_any-append}
use Rattle.std.specs.List.{list_any}
use Rattle.std.specs.Ordering.{int_eq}
use Rattle.tail_settings.specs.Policy.{StatusData, LeafData, PolicyData, leaf, and}
use Rattle.tail_settings.specs.Policy.{always_sample, latency, status_code, string_attribute, numeric_attribute}
use Rattle.tail_settings.specs.Policy as settings
use Rattle.span_view.specs.Facts.{AttributeFact, SpanFacts}
use Rattle.tail_policy.specs.Asks.{leaf_asks, ask_attributes, status_bits_of, bits_at}
use Rattle.tail_policy.specs.Meaning.{number_of}
use Rattle.tail_policy.specs.Note.{leaves_in, with_bit, bits_of, status, fact_meets, attributes_meet, span_meets}
use Rattle.tail_policy.specs.NoteBits.{or_none, same_bits, no_bits}
use Rattle.tail_policy.specs.Parts.{none_any}
use Rattle.tail_policy.proofs.Joined.{met_is}

-- ---- attributes

neither : (a b : Bool) → (a || b) ≡ false → (a ≡ false) × (b ≡ false)
neither true b is = absurd (let clash : true ≡ false = is in cc)
neither false true is = absurd (let clash : true ≡ false = is in cc)
neither false false is = (refl, refl)

unmet : (l : LeafData) (attributes : List AttributeFact) → leaf_asks l ≡ false → attributes_meet attributes l ≡ false
unmet always_sample attributes never = none_any attributes
unmet (latency threshold) attributes never = none_any attributes
unmet (status_code codes) attributes never = none_any attributes
unmet (string_attribute key values) attributes never = absurd (let clash : true ≡ false = never in cc)
unmet (numeric_attribute key low high) attributes never = absurd (let clash : true ≡ false = never in cc)

no_leaf_bits : (ls : List LeafData) (attributes : List AttributeFact) → list_any leaf_asks ls ≡ false
    → bits_of (attributes_meet attributes) ls ≡ 0
no_leaf_bits [] attributes none = refl
no_leaf_bits (l ∷ ls) attributes none =
    let each = neither (leaf_asks l) (list_any leaf_asks ls) none in
    ap (λ b. with_bit b (bits_of (attributes_meet attributes) ls)) (unmet l attributes each.0)
    ∙ ap (λ n. n * 2) (no_leaf_bits ls attributes each.1)

leaves_ask : (ps : List PolicyData) → list_any leaf_asks (leaves_in ps) ≡ ask_attributes ps
leaves_ask [] = refl
leaves_ask (leaf l ∷ ps) = ap (λ b. leaf_asks l || b) (leaves_ask ps)
leaves_ask (and ls ∷ ps) =
    list_any-append leaf_asks ls (leaves_in ps) ∙ ap (λ b. list_any leaf_asks ls || b) (leaves_ask ps)

-- where no policy asks for an attribute, attributes have no bits
pub no_attribute_bits : (ps : List PolicyData) (attributes : List AttributeFact) → ask_attributes ps ≡ false
    → bits_of (attributes_meet attributes) (leaves_in ps) ≡ 0
no_attribute_bits ps attributes none = no_leaf_bits (leaves_in ps) attributes (leaves_ask ps ∙ none)

-- ---- statuses

module _ (z : ℤ) (not_unset : int_eq z (pos 0) ≡ false) (not_ok : int_eq z (pos 1) ≡ false) (not_error : int_eq z (pos 2) ≡ false) where
  other : (s : StatusData) → int_eq z (number_of s) ≡ false
  other settings.unset = not_unset
  other settings.ok = not_ok
  other settings.error = not_error

  unlisted : (codes : List StatusData) → list_any (λ listed. int_eq z (number_of listed)) codes ≡ false
  unlisted [] = refl
  unlisted (s ∷ codes) =
      ap (λ b. b || list_any (λ listed. int_eq z (number_of listed)) codes) (other s) ∙ unlisted codes

  unlisted_meets : (l : LeafData) → fact_meets (status z) l ≡ false
  unlisted_meets always_sample = refl
  unlisted_meets (latency threshold) = refl
  unlisted_meets (status_code codes) = unlisted codes
  unlisted_meets (string_attribute key values) = refl
  unlisted_meets (numeric_attribute key low high) = refl

  -- a number without a name has no bits
  unlisted_bits : (ls : List LeafData) → bits_of (fact_meets (status z)) ls ≡ 0
  unlisted_bits ls = same_bits (fact_meets (status z)) (λ l. false) unlisted_meets ls ∙ no_bits ls

-- the bits of a status are those of the policies that it meets
pub listed_is : (ps : List PolicyData) (z : ℤ) → bits_at (status_bits_of ps) z ≡ bits_of (fact_meets (status z)) (leaves_in ps)
listed_is ps z = by (int_eq z (pos 0)) (int_eq z (pos 1)) (int_eq z (pos 2)) refl refl refl
  where
    bits : ℤ → ℕ
    bits code = bits_of (fact_meets (status code)) (leaves_in ps)

    by : (a b c : Bool) → int_eq z (pos 0) ≡ a → int_eq z (pos 1) ≡ b → int_eq z (pos 2) ≡ c
        → (if a then bits (pos 0) else if b then bits (pos 1) else if c then bits (pos 2) else 0) ≡ bits z
    by true b c is second third = ap bits (sym ((Decides-int_eq z (pos 0)).0 is))
    by false true c first is third = ap bits (sym ((Decides-int_eq z (pos 1)).0 is))
    by false false true first second is = ap bits (sym ((Decides-int_eq z (pos 2)).0 is))
    by false false false first second third = sym (unlisted_bits z first second third (leaves_in ps))

-- where no policy asks for an attribute, a span meets what its status meets
pub status_alone : (ps : List PolicyData) (span : SpanFacts) → ask_attributes ps ≡ false
    → bits_at (status_bits_of ps) span.status ≡ bits_of (span_meets span) (leaves_in ps)
status_alone ps span none =
    let ls : List LeafData = leaves_in ps in
    let listed : ℕ = bits_of (fact_meets (status span.status)) ls in
    listed_is ps span.status
    ∙ sym (or_none listed)
    ∙ ap (bit_or listed) (sym (no_attribute_bits ps span.attributes none))
    ∙ met_is span ls
