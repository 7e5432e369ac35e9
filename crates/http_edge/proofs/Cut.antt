-- Fields whose places lie at the front of bytes: what stands behind is none of theirs.
use Rattle.std.proofs.Common.{◌≡◌, ℕ, ◌-◌, ◌≤◌, List, [], ◌∷◌, ◌++◌, length, map, take, drop, slice_range, All, refl, sym, ap, ◌∙◌, arith, length-append, length-drop, length-take-le, subst, append_assoc, drop_at, take_at}
use Rattle.std.proofs.lemmas.List.{take-append-le, drop-append-le, take-append-drop, append-nil, map-append}
use Rattle.std.proofs.lemmas.List.Elements.{All-head, All-tail}
use Rattle.httparse.specs.declared.spans.Span.{Span}
use Rattle.httparse.specs.declared.spans.HeaderSpan.{HeaderSpan}
use Rattle.httparse.specs.Spans.{IsWithin, IsHeaderWithin, span_bytes, header_bytes}

span_front : (xs ys : List ℕ) (s : Span) → IsWithin (length xs) s → span_bytes (xs ++ ys) s ≡ span_bytes xs s
span_front xs ys s h =
    ap (take (s.end - s.start)) (drop-append-le s.start xs ys (omega (arith, h.0, h.1)))
    ∙ take-append-le (s.end - s.start) (drop s.start xs) ys (omega (arith, h.0, h.1, length-drop s.start xs))

pub fields_front : (xs ys : List ℕ) (spans : List HeaderSpan) → All (IsHeaderWithin (length xs)) spans
    → map (header_bytes (xs ++ ys)) spans ≡ map (header_bytes xs) spans
fields_front xs ys [] h = refl
fields_front xs ys (s ∷ ss) h =
    let at = All-head (IsHeaderWithin (length xs)) s ss h in
    ap (λ n. (n, span_bytes (xs ++ ys) s.value) ∷ map (header_bytes (xs ++ ys)) ss) (span_front xs ys s.name at.0)
    ∙ ap (λ v. (span_bytes xs s.name, v) ∷ map (header_bytes (xs ++ ys)) ss) (span_front xs ys s.value at.1)
    ∙ ap (λ fs. header_bytes xs s ∷ fs) (fields_front xs ys ss (All-tail (IsHeaderWithin (length xs)) s ss h))

pub fields_more : (xs ys zs : List ℕ) (spans : List HeaderSpan) → All (IsHeaderWithin (length xs)) spans
    → map (header_bytes ((xs ++ ys) ++ zs)) spans ≡ map (header_bytes xs) spans
fields_more xs ys zs spans h =
    ap (λ bs. map (header_bytes bs) spans) (append_assoc xs ys zs) ∙ fields_front xs (ys ++ zs) spans h

pub fields_cut : (bytes : List ℕ) (n : ℕ) (spans : List HeaderSpan) → n ≤ length bytes → All (IsHeaderWithin n) spans
    → map (header_bytes (take n bytes)) spans ≡ map (header_bytes bytes) spans
fields_cut bytes n spans within h =
    let size : n ≡ length (take n bytes) = sym (length-take-le n bytes within) in
    sym (fields_front (take n bytes) (drop n bytes) spans (subst (λ k. All (IsHeaderWithin k) spans) size h))
    ∙ ap (λ bs. map (header_bytes bs) spans) (take-append-drop n bytes)

part_between : (xs ys zs : List ℕ) (start end : ℕ) → length xs ≡ start → length ys ≡ end - start
    → slice_range (xs ++ (ys ++ zs)) start end ≡ ys
part_between xs ys zs start end before size =
    ap (take (end - start)) (drop_at xs (ys ++ zs) start before) ∙ take_at ys zs (end - start) size

-- a name and a value more, which stand at the end
pub fields_pushed : (xs name value : List ℕ) (spans : List HeaderSpan) (start middle end : ℕ)
    → All (IsHeaderWithin (length xs)) spans
    → start ≡ length xs → middle ≡ length (xs ++ name) → end ≡ length ((xs ++ name) ++ value)
    → map (header_bytes ((xs ++ name) ++ value)) (spans ++ (record {
      name = record { start = start; end = middle };
      value = record { start = middle; end = end };
    }) ∷ []) ≡ map (header_bytes xs) spans ++ (name, value) ∷ []
fields_pushed xs name value spans start middle end h s m e =
    let text = (xs ++ name) ++ value in
    let whole : text ≡ xs ++ (name ++ value) = append_assoc xs name value in
    let named : slice_range text start middle ≡ name = ap (λ bs. slice_range bs start middle) whole
    ∙ part_between xs name value start middle (sym s) (omega (arith, s, m, length-append xs name)) in
    let valued : slice_range text middle end ≡ value = ap (λ bs. slice_range bs middle end) (ap (λ v. (xs ++ name) ++ v) (sym (append-nil value)))
    ∙ part_between (xs ++ name) value [] middle end (sym m) (omega (arith, m, e, length-append (xs ++ name) value)) in
    let before : map (header_bytes text) spans ≡ map (header_bytes xs) spans = fields_more xs name value spans h in
    map-append (header_bytes text) spans _
    ∙ ap (λ fs. fs ++ (slice_range text start middle, slice_range text middle end) ∷ []) before
    ∙ ap (λ n. map (header_bytes xs) spans ++ (n, slice_range text middle end) ∷ []) named
    ∙ ap (λ v. map (header_bytes xs) spans ++ (name, v) ∷ []) valued
