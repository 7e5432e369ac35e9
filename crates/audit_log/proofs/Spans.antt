-- Spans whose texts follow one another.
use Rattle.std.proofs.Common.{◌≡◌, ℕ, ◌≤◌, ◌<◌, ◌+◌, ◌-◌, List, [], ◌∷◌, ◌++◌, length, map, take, drop, get_or, flat_map, drop-drop, append-nil, append_assoc, refl, ap, ◌∙◌, sym, arith}
use Rattle.std.specs.Prelude.{slice_range}
use Rattle.std.proofs.lemmas.List.{length-append, at_drop_more}
use Rattle.std.proofs.Math.ListN.{drop_of_length-le}
use Rattle.std.proofs.Math.Seq.{take-append_seam, drop-append_seam}
use Rattle.prepared_body.specs.declared.noted.NotedSpan.{NotedSpan}
use Rattle.audit_log.specs.declared.body.PackedSpan.{PackedSpan}
use Rattle.audit_log.specs.Bodies.{without_text, spans_from, texts_size}

abbrev pub text_in : NotedSpan → List ℕ
text_in s = s.text

-- a span of this text
abbrev pub span_with : PackedSpan → List ℕ → NotedSpan
span_with s text = record { trace = s.trace; text = text; origin = s.origin; note = s.note }

-- spans without their texts and these are the spans
pub all_from : (spans : List NotedSpan) → spans_from (flat_map text_in spans) (map without_text spans) ≡ spans
all_from [] = refl
all_from (s ∷ ss) =
    let rest = flat_map text_in ss in
    let left = map without_text ss in
    ap (λ (text : List ℕ). span_with (without_text s) text ∷ spans_from (drop (length s.text) (s.text ++ rest)) left) (take-append_seam s.text rest)
    ∙ (ap (λ (texts : List ℕ). s ∷ spans_from texts left) (drop-append_seam s.text rest) ∙ ap (λ (others : List NotedSpan). s ∷ others) (all_from ss))

-- as long as the texts together
pub all_fit : (spans : List NotedSpan) → texts_size (map without_text spans) ≡ length (flat_map text_in spans)
all_fit [] = refl
all_fit (s ∷ ss) = ap (λ (n : ℕ). length s.text + n) (all_fit ss) ∙ sym (length-append s.text (flat_map text_in ss))

-- stands where there is no span
abbrev pub no_span : PackedSpan
no_span = record { trace = []; note = record { met = 0; start = 0; end = 0 }; origin = 0; length = 0 }

module _ (spans : List PackedSpan) (i : ℕ) (within : i < length spans) where
  abbrev next : PackedSpan
  next = get_or spans i no_span

  -- the texts that are left are as long as the next one and those behind it
  pub next_size : texts_size (drop i spans) ≡ next.length + texts_size (drop (i + 1) spans)
  next_size = at_drop_more texts_size spans i no_span within

  -- the next one is there
  pub next_fits : (start size : ℕ) → start + texts_size (drop i spans) ≤ size → start + next.length ≤ size
  next_fits start size fits = let all = next_size in omega (arith, all, fits)

  -- and those behind it
  pub others_fit : (start size : ℕ) → start + texts_size (drop i spans) ≤ size → (start + next.length) + texts_size (drop (i + 1) spans) ≤ size
  others_fit start size fits = let all = next_size in omega (arith, all, fits)

  -- the spans that are left of texts from here on: the next one, and those behind it
  pub next_from : (texts : List ℕ) (start : ℕ) → spans_from (drop start texts) (drop i spans)
      ≡ span_with next (slice_range texts start (start + next.length)) ∷ spans_from (drop (start + next.length) texts) (drop (i + 1) spans)
  next_from texts start =
      let size : next.length ≡ (start + next.length) - start = omega (arith) in
      at_drop_more (λ (ss : List PackedSpan). spans_from (drop start texts) ss) spans i no_span within
      ∙ (ap (λ (n : ℕ). span_with next (take n (drop start texts)) ∷ spans_from (drop next.length (drop start texts)) (drop (i + 1) spans)) size
      ∙ ap (λ (left : List ℕ). span_with next (slice_range texts start (start + next.length)) ∷ spans_from left (drop (i + 1) spans)) (drop-drop next.length start texts))

  -- so one that was made goes on from there
  pub one_made : (made more : List NotedSpan) (texts text whole : List ℕ) (start : ℕ) → whole ≡ texts → text ≡ slice_range whole start (start + next.length) → more ≡ made ++ span_with next text ∷ []
      → made ++ spans_from (drop start texts) (drop i spans) ≡ spans_from texts spans
      → more ++ spans_from (drop (start + next.length) texts) (drop (i + 1) spans) ≡ spans_from texts spans
  one_made made more texts text whole start same cut pushed so_far =
      let rest = spans_from (drop (start + next.length) texts) (drop (i + 1) spans) in
      let is : text ≡ slice_range texts start (start + next.length) = cut ∙ ap (λ (bs : List ℕ). slice_range bs start (start + next.length)) same in
      ap (λ (ss : List NotedSpan). ss ++ rest) (pushed ∙ ap (λ (bs : List ℕ). made ++ span_with next bs ∷ []) is)
      ∙ (append_assoc made (span_with next (slice_range texts start (start + next.length)) ∷ []) rest
      ∙ (ap (λ (ss : List NotedSpan). made ++ ss) (sym (next_from texts start)) ∙ so_far))

-- all were made
pub all_made : (spans : List PackedSpan) (i : ℕ) (made : List NotedSpan) (texts left : List ℕ) → length spans ≤ i → made ++ spans_from left (drop i spans) ≡ spans_from texts spans → made ≡ spans_from texts spans
all_made spans i made texts left end so_far =
    sym (append-nil made) ∙ (ap (λ (ss : List PackedSpan). made ++ spans_from left ss) (sym (drop_of_length-le spans end)) ∙ so_far)
