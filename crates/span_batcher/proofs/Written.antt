-- The text of spans that share a resource, or a scope.
use Rattle.std.proofs.Common.{◌≡◌, ℕ, ◌+◌, ◌<◌, List, [], ◌∷◌, ◌++◌, length, map, drop, get_or, slice_get, Some, refl, sym, ap, ◌∙◌, append_assoc, flat_map}
use Rattle.std.proofs.lemmas.List.{at_drop_more}
use Rattle.otlp_trace.specs.Text.{bytes_field, repeated, scope_spans_of, resource_spans_of}
use Rattle.span_pool.specs.Stored.{SpanTexts}
use Rattle.span_batcher.specs.ExportText.{runs, same_scope, scope_spans_field, resource_spans_field}

pub repeated-append : {A : Type 0} (n : ℕ) (text : A → List ℕ) (xs ys : List A) → repeated n text (xs ++ ys) ≡ repeated n text xs ++ repeated n text ys
repeated-append n text [] ys = refl
repeated-append n text (x ∷ xs) ys =
    ap (λ bs. bytes_field n (text x) ++ bs) (repeated-append n text xs ys) ∙ sym (append_assoc (bytes_field n (text x)) (repeated n text xs) (repeated n text ys))

pub repeated-map : {A B : Type 0} (n : ℕ) (text : B → List ℕ) (f : A → B) (xs : List A) → repeated n text (map f xs) ≡ repeated n (λ x. text (f x)) xs
repeated-map n text f [] = refl
repeated-map n text f (x ∷ xs) = ap (λ bs. bytes_field n (text (f x)) ++ bs) (repeated-map n text f xs)

-- what is left of a list, by the next of it
pub next_part : {A B : Type 0} (f : List A → B) (xs : List A) (i : ℕ) (x : A) → i < length xs → x ≡ get_or xs i x → f (drop i xs) ≡ f (x ∷ drop (i + 1) xs)
next_part f xs i x within at = at_drop_more f xs i x within ∙ ap (λ y. f (y ∷ drop (i + 1) xs)) (sym at)

-- three parts, one behind the other
pub three_written : (out one two new first second third : List ℕ) → one ≡ out ++ first → two ≡ one ++ second → new ≡ two ++ third → new ≡ out ++ (first ++ (second ++ third))
three_written out one two new first second third is_one is_two is_new =
    is_new ∙ (ap (λ bs. bs ++ third) (is_two ∙ ap (λ bs. bs ++ second) is_one) ∙ (append_assoc (out ++ first) second third ∙ append_assoc out first (second ++ third)))

-- spans of which this is the first
pub scope_field : (x : SpanTexts) (spans : List SpanTexts) → slice_get spans 0 ≡ Some x →
    scope_spans_field spans ≡ bytes_field 2 (scope_spans_of x.origin.scope (repeated 2 (λ (a : SpanTexts). a.text) spans) x.origin.scope_schema_url)
scope_field x [] at = absurd (cc)
scope_field x (y ∷ spans) at =
    let same : y ≡ x = cc in
    ap (λ (z : SpanTexts). bytes_field 2 (scope_spans_of z.origin.scope (repeated 2 (λ (a : SpanTexts). a.text) (y ∷ spans)) z.origin.scope_schema_url)) same

pub resource_field : (x : SpanTexts) (spans : List SpanTexts) → slice_get spans 0 ≡ Some x →
    resource_spans_field spans ≡ bytes_field 1 (resource_spans_of x.origin.resource (flat_map scope_spans_field (runs same_scope spans)) x.origin.resource_schema_url)
resource_field x [] at = absurd (cc)
resource_field x (y ∷ spans) at =
    let same : y ≡ x = cc in
    ap (λ (z : SpanTexts). bytes_field 1 (resource_spans_of z.origin.resource (flat_map scope_spans_field (runs same_scope (y ∷ spans))) z.origin.resource_schema_url)) same
