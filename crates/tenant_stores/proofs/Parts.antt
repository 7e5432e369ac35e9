-- Parts that are equal, and what changes of functions of keys do one after the other.
use Rattle.std.proofs.Common.{◌≡◌, ℕ, ◌+◌, ◌<◌, List, [], ◌∷◌, ◌++◌, length, drop, get_or, refl, sym, ap, ◌∙◌, arith, Bool, true, false, Option, Some, None, eqb}
use Rattle.std.specs.Prelude.{IfSome}
use Rattle.std.proofs.lemmas.Bool.Decides.{nat_tests}
use Rattle.std.proofs.lemmas.List.{drop_more}
use Rattle.std.proofs.Math.Path.{fun_ext}
use Rattle.span_pool.specs.Stored.{StoredData}
use Rattle.span_pool.specs.Pool.{with_span, without}
use Rattle.text_pool.specs.Part.{with_text, text_of}
use Rattle.text_pool.specs.Part as texts
use Rattle.text_pool.specs.declared.pool.CountedText.{CountedText}
use Rattle.trace_rows.specs.declared.table.Row.{Row}
use Rattle.tenant_stores.specs.Part.{Part}
use Rattle.tenant_stores.specs.Changes.{all_released, texts_without, Leaves}

-- a part from its four
pub part_by : {N : Type 0} (a a' : ℕ → Option StoredData) (t t' : ℕ → Option CountedText) (b b' : ℕ → Option (Row N)) (s s' : List ℕ → Option ℕ) → a ≡ a' → t ≡ t' → b ≡ b' → s ≡ s' →
    (let left : Part N = record { spans = a; texts = t; rows = b; latest_rows = s } in let right : Part N = record { spans = a'; texts = t'; rows = b'; latest_rows = s' } in left ≡ right)
part_by a a' t t' b b' s s' p o q r = λ i. record { spans = p i; texts = o i; rows = q i; latest_rows = r i }

module _ {X : Type 0} where
  -- what is at a key once it was put there
  pub span_here : (key : ℕ) (slot : Option X) (f : ℕ → Option X) → with_span key slot f key ≡ slot
  span_here key slot f = grind (arith, nat_tests)

  -- what was there, written over a change
  pub span_restored : (f : ℕ → Option X) (key : ℕ) (slot was : Option X) → f key ≡ was → with_span key was (with_span key slot f) ≡ f
  span_restored f key slot was had = fun_ext (λ j. one j (eqb j key) refl)
    where
      one : (j : ℕ) (b : Bool) → eqb j key ≡ b → with_span key was (with_span key slot f) j ≡ f j
      one j true e = let same : j ≡ key = grind (arith, nat_tests, e) in let there : f j ≡ was = ap f same ∙ had in grind (arith, nat_tests, e, there)
      one j false e = grind (arith, nat_tests, e)

-- uses that are given back, one list after the other
pub all_released-append : (xs ys : List ℕ) (at : ℕ → Option CountedText) → all_released (xs ++ ys) at ≡ all_released ys (all_released xs at)
all_released-append [] ys at = refl
all_released-append (x ∷ xs) ys at = all_released-append xs ys (with_text x (texts.released (at x)) at)

pub four_released : (a b c d : List ℕ) (t u v w x : ℕ → Option CountedText) → u ≡ all_released a t → v ≡ all_released b u → w ≡ all_released c v → x ≡ all_released d w → x ≡ all_released (a ++ (b ++ (c ++ d))) t
four_released a b c d t u v w x p q r s =
    let one : all_released (a ++ (b ++ (c ++ d))) t ≡ all_released (b ++ (c ++ d)) u = all_released-append a (b ++ (c ++ d)) t ∙ ap (all_released (b ++ (c ++ d))) (sym p) in
    let two : all_released (b ++ (c ++ d)) u ≡ all_released (c ++ d) v = all_released-append b (c ++ d) u ∙ ap (all_released (c ++ d)) (sym q) in
    let three : all_released (c ++ d) v ≡ all_released d w = all_released-append c d v ∙ ap (all_released d) (sym r) in
    s ∙ sym (one ∙ (two ∙ three))

-- the text of a key that was held
pub held_text : (tenant key : ℕ) (text : List ℕ) (at : ℕ → Option CountedText) → IfSome (at key) (λ kept. kept.text ≡ text) → text_of (with_text key (texts.held tenant text (at key)) at key) ≡ Some text
held_text tenant key text at same = ap text_of (text_here key (texts.held tenant text (at key)) at) ∙ by_slot (at key) same
  where
    text_here : (k : ℕ) (slot : Option CountedText) (f : ℕ → Option CountedText) → with_text k slot f k ≡ slot
    text_here k slot f = grind (arith, nat_tests)

    by_slot : (o : Option CountedText) → IfSome o (λ kept. kept.text ≡ text) → text_of (texts.held tenant text o) ≡ Some text
    by_slot None is = refl
    by_slot (Some kept) is = ap Some is

-- spans at some keys leave, the first first
pub leave_more : {N : Type 0} (keys : List ℕ) (i : ℕ) (now next : Part N) → i < length keys → Leaves (get_or keys i 0 ∷ []) now next →
    (without (drop (i + 1) keys) next.spans ≡ without (drop i keys) now.spans)
    × (texts_without (drop (i + 1) keys) next.spans next.texts ≡ texts_without (drop i keys) now.spans now.texts)
leave_more keys i now next lt leaves =
    let more : drop i keys ≡ get_or keys i 0 ∷ drop (i + 1) keys = drop_more keys i 0 lt in
    let rest = drop (i + 1) keys in (
      ap (without rest) leaves.spans ∙ sym (ap (λ (ks : List ℕ). without ks now.spans) more),
      ap (λ (f : ℕ → Option StoredData). texts_without rest f next.texts) leaves.spans
          ∙ (ap (texts_without rest (without (get_or keys i 0 ∷ []) now.spans)) leaves.texts
          ∙ sym (ap (λ (ks : List ℕ). texts_without ks now.spans now.texts) more)),
    )
