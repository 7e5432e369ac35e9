-- Joined notes give what the policies mean. What they mean is Meaning, after the Collector's tailsamplingprocessor;
-- notes are this project's own.
use Rattle.std.proofs.Common.{◌≡◌, ◌∙◌, ◌*◌, ◌+◌, ◌/◌, ◌%◌, ◌^◌, ℕ, suc, Bool, true, false, ◌&&◌, ◌||◌, List, [], ◌∷◌, map, length, min, max, refl, sym, ap, arith}
use Rattle.std.specs.Prelude.{bit_or, nat_eq, fold}
use Rattle.std.specs.List.{list_any, list_all}
use Rattle.std.proofs.lemmas.Nat.{shr-shr}
use Rattle.tail_settings.specs.Policy.{LeafData, PolicyData, leaf, and}
use Rattle.tail_settings.specs.Policy.{always_sample, latency, status_code, string_attribute, numeric_attribute}
use Rattle.span_view.specs.Facts.{SpanFacts}
use Rattle.tail_policy.specs.declared.note.TraceNote.{TraceNote}
use Rattle.tail_policy.specs.Meaning.{earliest_start, latest_end, leaf_samples, policy_samples, keeps}
use Rattle.tail_policy.specs.Note.{leaves_in, with_bit, bits_below, bits_of, span_meets, note_of, joined, leaf_verdict, is_set, all_verdict, any_verdict, verdict_of}
use Rattle.tail_policy.specs.Ends.{least, greatest, least-starts, greatest-ends}
use Rattle.tail_policy.specs.NoteBits.{or_none, or_assoc, or_bits, no_bits, bits_below-append}

-- ---- joining

min_assoc : (a b c : ℕ) → min (min a b) c ≡ min a (min b c)
min_assoc a b c = omega arith

max_assoc : (a b c : ℕ) → max (max a b) c ≡ max a (max b c)
max_assoc a b c = omega arith

-- notes that are joined in any grouping give one note
pub associative : (a b c : TraceNote) → joined (joined a b) c ≡ joined a (joined b c)
unfolding joined
associative a b c = rw (or_assoc a.met b.met c.met, min_assoc a.start b.start c.start, max_assoc a.end b.end c.end) refl

-- one of the spans meets the leaf
abbrev any_meets : List SpanFacts → LeafData → Bool
any_meets spans l = list_any (λ span. span_meets span l) spans

-- the note of spans that come behind what a note was made of
abbrev onto : List LeafData → TraceNote → List SpanFacts → TraceNote
onto ls note spans = record {
  met = bit_or note.met (bits_of (any_meets spans) ls);
  start = least note.start spans;
  end = greatest note.end spans;
}

behind : (policies : List PolicyData) (note : TraceNote) (span : SpanFacts) (spans : List SpanFacts)
    → onto (leaves_in policies) (joined note (note_of policies span)) spans
    ≡ onto (leaves_in policies) note (span ∷ spans)
unfolding joined note_of
behind policies note span spans =
    let ls : List LeafData = leaves_in policies in
    let bits : bit_or (bit_or note.met (bits_of (span_meets span) ls)) (bits_of (any_meets spans) ls)
    ≡ bit_or note.met (bits_of (any_meets (span ∷ spans)) ls) =
    or_assoc note.met (bits_of (span_meets span) ls) (bits_of (any_meets spans) ls)
    ∙ ap (bit_or note.met) (or_bits (span_meets span) (any_meets spans) ls) in
    rw bits refl

gathers : (policies : List PolicyData) (note : TraceNote) (spans : List SpanFacts)
    → fold joined note (map (note_of policies) spans) ≡ onto (leaves_in policies) note spans
gathers policies note [] =
    let same : bit_or note.met (bits_of (any_meets []) (leaves_in policies)) ≡ note.met =
    ap (bit_or note.met) (no_bits (leaves_in policies)) ∙ or_none note.met in
    rw same refl
gathers policies note (span ∷ spans) = gathers policies (joined note (note_of policies span)) spans
    ∙ behind policies note span spans

-- ---- the note of a trace

abbrev whole : List LeafData → SpanFacts → List SpanFacts → TraceNote
whole ls span spans = record {
  met = bits_of (any_meets (span ∷ spans)) ls;
  start = earliest_start span spans;
  end = latest_end span spans;
}

gathers_all : (policies : List PolicyData) (span : SpanFacts) (spans : List SpanFacts)
    → fold joined (note_of policies span) (map (note_of policies) spans) ≡ whole (leaves_in policies) span spans
unfolding note_of
gathers_all policies span spans =
    gathers policies (note_of policies span) spans
    ∙ rw (
      or_bits (span_meets span) (any_meets spans)
          (leaves_in policies),
      least-starts span spans,
      greatest-ends span spans,
    ) refl

-- ---- the verdict

set_is : (b : Bool) (n : ℕ) → is_set (with_bit b n) ≡ b
set_is true n = let odd : (n * 2 + 1) % 2 ≡ 1 = omega arith in ap (λ r. nat_eq r 1) odd
set_is false n = let even : n * 2 % 2 ≡ 0 = omega arith in ap (λ r. nat_eq r 1) even

half_is : (b : Bool) (n : ℕ) → with_bit b n / 2 ≡ n
half_is true n = omega arith
half_is false n = omega arith

above_is : (f : LeafData → Bool) (ls : List LeafData) (n : ℕ) → bits_below f ls n / 2 ^ length ls ≡ n
above_is f [] n = omega arith
above_is f (l ∷ ls) n =
    let e : suc (length ls) ≡ 1 + length ls = omega arith in
    ap (λ k. with_bit (f l) (bits_below f ls n) / 2 ^ k) e
    ∙ sym (shr-shr (with_bit (f l) (bits_below f ls n)) 1 (length ls))
    ∙ ap (λ m. m / 2 ^ length ls) (half_is (f l) (bits_below f ls n))
    ∙ above_is f ls n

module _ (span : SpanFacts) (spans : List SpanFacts) (note : TraceNote) (starts : note.start
    ≡ earliest_start span spans) (ends : note.end ≡ latest_end span spans) where
  leaf_is : (l : LeafData) → leaf_verdict note l (any_meets (span ∷ spans) l) ≡ leaf_samples l (span ∷ spans)
  leaf_is always_sample = refl
  leaf_is (latency threshold) = rw (starts, ends) refl
  leaf_is (status_code codes) = refl
  leaf_is (string_attribute key values) = refl
  leaf_is (numeric_attribute key low high) = refl

  first_is : (l : LeafData) (n : ℕ)
      → leaf_verdict note l (is_set (with_bit (any_meets (span ∷ spans) l) n)) ≡ leaf_samples l (span ∷ spans)
  first_is l n = ap (leaf_verdict note l) (set_is (any_meets (span ∷ spans) l) n) ∙ leaf_is l

  all_is : (ls : List LeafData) (n : ℕ)
      → all_verdict note ls (bits_below (any_meets (span ∷ spans)) ls n)
      ≡ list_all (λ l. leaf_samples l (span ∷ spans)) ls
  all_is [] n = refl
  all_is (l ∷ ls) n =
      let m : ℕ = bits_below (any_meets (span ∷ spans)) ls n in
      ap (λ b. b && all_verdict note ls (with_bit (any_meets (span ∷ spans) l) m / 2)) (first_is l m)
      ∙ ap (λ k. leaf_samples l (span ∷ spans) && all_verdict note ls k) (half_is (any_meets (span ∷ spans) l) m)
      ∙ ap (λ b. leaf_samples l (span ∷ spans) && b) (all_is ls n)

  any_is : (policies : List PolicyData)
      → any_verdict note policies (bits_of (any_meets (span ∷ spans)) (leaves_in policies))
      ≡ list_any (λ policy. policy_samples policy (span ∷ spans)) policies
  any_is [] = refl
  any_is (leaf l ∷ policies) =
      let m : ℕ = bits_of (any_meets (span ∷ spans)) (leaves_in policies) in
      ap (λ b. b || any_verdict note policies (with_bit (any_meets (span ∷ spans) l) m / 2)) (first_is l m)
      ∙ ap (λ k. leaf_samples l (span ∷ spans) || any_verdict note policies k) (half_is (any_meets (span ∷ spans) l) m)
      ∙ ap (λ b. leaf_samples l (span ∷ spans) || b) (any_is policies)
  any_is (and ls ∷ policies) =
      let m : ℕ = bits_of (any_meets (span ∷ spans)) (leaves_in policies) in
      let all : Bool = list_all (λ l. leaf_samples l (span ∷ spans)) ls in
      ap (any_verdict note (and ls ∷ policies)) (bits_below-append (any_meets (span ∷ spans)) ls (leaves_in policies) 0)
      ∙ ap (λ b. b || any_verdict note policies (bits_below (any_meets (span ∷ spans)) ls m / 2 ^ length ls))
      (all_is ls m)
      ∙ ap (λ k. all || any_verdict note policies k) (above_is (any_meets (span ∷ spans)) ls m)
      ∙ ap (λ b. all || b) (any_is policies)

-- the verdict of the joined notes of a trace's spans is what the policies mean
pub means : (policies : List PolicyData) (span : SpanFacts) (spans : List SpanFacts)
    → verdict_of policies (fold joined (note_of policies span) (map (note_of policies) spans))
    ≡ keeps policies (span ∷ spans)
unfolding verdict_of keeps
means policies span spans =
    ap (verdict_of policies) (gathers_all policies span spans)
    ∙ any_is span spans (whole (leaves_in policies) span spans) refl refl policies
