-- The request of a batch: its text, the spans in it, and that a reader takes it.
use Rattle.std.specs.Prelude.{◌&&◌}
use Rattle.std.proofs.Common.{◌≡◌, ℕ, Bool, true, List, [], ◌∷◌, ◌++◌, map, flat_map, Option, Some, None, option_map, IfSome, Ok, refl, sym, ap, ◌∙◌, subst, append-nil}
use Rattle.std.proofs.lemmas.Bool.{and_parts}
use Rattle.std.proofs.lemmas.Grind.{flat_map-append}
use Rattle.std.proofs.lemmas.List.{map-append, map-id}
use Rattle.std.proofs.lemmas.Option.{IfSome_then}
use Rattle.std.specs.Cmp.Lexicographic.{bytes_decides}
use Rattle.std.specs.List.{AllByRecursion}
use Rattle.otlp_trace.specs.Data.{ResourceData, ScopeData, SpanData, ScopeSpansData, ResourceSpansData, RequestData}
use Rattle.otlp_trace.specs.Text.{bytes_field, repeated, resource_text, scope_text, span_text, scope_spans_of, scope_spans_text, resource_spans_of, resource_spans_text, request_text}
use Rattle.otlp_read.specs.Nested.{NestedSpan, NestedScopeSpans, NestedResourceSpans, NestedRequest}
use Rattle.otlp_read.specs.RoundTrip.{IsShort, RequestReadsBack, ResourceReadsBack, ScopeReadsBack}
use Rattle.otlp_read.specs.Typed.{TypedResource, TypedScope, TypedSpan, TypedScopeSpans, TypedResourceSpans, TypedRequest}
use Rattle.otlp_trace.specs.Defaults.{no_resource, no_scope}
use Rattle.otlp_read.specs.Value.{resource_step, scope_step, IsValue}
use Rattle.otlp_read.specs.Walk.{read_with}
use Rattle.span_pool.specs.Stored.{SpanTexts, same_text, same_bytes}
use Rattle.span_batcher.specs.ExportText.{runs, same_resource, same_scope, scope_spans_field, resource_spans_field, export_text}
use Rattle.span_batcher.specs.Request.{PlacedSpan, written, spans_of_scope, spans_of_resource, spans_of, one_scope_spans, one_resource_spans, request_of, IsReadableResource, IsReadableScope, IsReadable}
use Rattle.span_batcher.proofs.Runs.{runs_whole, runs_each, Uniform, runs_uniform, fields_of_runs}
use Rattle.span_batcher.proofs.Written.{repeated-append, repeated-map}

-- ---- the text

one_field : {A : Type 0} (n : ℕ) (text : A → List ℕ) (x : A) → repeated n text (x ∷ []) ≡ bytes_field n (text x)
one_field n text x = append-nil (bytes_field n (text x))

-- groups of which each is written as a field is
module _ {A B R : Type 0} (f : A → B) (same : B → B → Bool) (n : ℕ) (text : R → List ℕ) (group : List A → List R) (field : List B → List ℕ) (one : (run : List A) → repeated n text (group run) ≡ field (map f run)) where
  grouped : (rs : List (List A)) → repeated n text (flat_map group rs) ≡ flat_map (λ run. field (map f run)) rs
  grouped [] = refl
  grouped (run ∷ rs) =
      repeated-append n text (group run) (flat_map group rs)
      ∙ (ap (λ bs. bs ++ repeated n text (flat_map group rs)) (one run) ∙ ap (λ bs. field (map f run) ++ bs) (grouped rs))

  runs_written : (xs : List A) → repeated n text (flat_map group (runs (λ a b. same (f a) (f b)) xs)) ≡ flat_map field (runs same (map f xs))
  runs_written xs = grouped (runs (λ a b. same (f a) (f b)) xs) ∙ fields_of_runs f same field xs

-- those of a run, and of the whole batch
abbrev scopes : List PlacedSpan → List (List PlacedSpan)
scopes spans = runs (λ a b. same_scope (written a) (written b)) spans

abbrev resources : List PlacedSpan → List (List PlacedSpan)
resources spans = runs (λ a b. same_resource (written a) (written b)) spans

abbrev around : PlacedSpan → List ScopeSpansData → ResourceSpansData
around x groups = record { resource = x.resource; scope_spans = groups; schema_url = x.resource_schema_url }

abbrev within : PlacedSpan → List PlacedSpan → ScopeSpansData
within x spans = record { scope = x.scope; spans = map (λ p. p.span) spans; schema_url = x.scope_schema_url }

scope_written : (run : List PlacedSpan) → repeated 2 scope_spans_text (one_scope_spans run) ≡ scope_spans_field (map written run)
scope_written [] = refl
scope_written (x ∷ xs) =
    let texts : repeated 2 span_text (map (λ (p : PlacedSpan). p.span) (x ∷ xs)) ≡ repeated 2 (λ (a : SpanTexts). a.text) (map written (x ∷ xs)) =
    repeated-map 2 span_text (λ (p : PlacedSpan). p.span) (x ∷ xs) ∙ sym (repeated-map 2 (λ (a : SpanTexts). a.text) written (x ∷ xs)) in
    one_field 2 scope_spans_text (within x (x ∷ xs)) ∙ ap (λ (bs : List ℕ). bytes_field 2 (scope_spans_of (option_map scope_text x.scope) bs x.scope_schema_url)) texts

resource_written : (run : List PlacedSpan) → repeated 1 resource_spans_text (one_resource_spans run) ≡ resource_spans_field (map written run)
resource_written [] = refl
resource_written (x ∷ xs) =
    one_field 1 resource_spans_text (around x (flat_map one_scope_spans (scopes (x ∷ xs))))
    ∙ ap (λ (bs : List ℕ). bytes_field 1 (resource_spans_of (option_map resource_text x.resource) bs x.resource_schema_url)) (runs_written written same_scope 2 scope_spans_text one_scope_spans scope_spans_field scope_written (x ∷ xs))

-- what is sent is the text of the request
pub text_is : (spans : List PlacedSpan) → export_text (map written spans) ≡ request_text (request_of spans)
text_is spans = sym (runs_written written same_resource 1 resource_spans_text one_resource_spans resource_spans_field resource_written spans)

-- ---- the spans

fused : {A B C : Type 0} (f : B → List C) (g : A → List B) (xs : List A) → flat_map f (flat_map g xs) ≡ flat_map (λ x. flat_map f (g x)) xs
fused f g [] = refl
fused f g (x ∷ xs) = flat_map-append f (g x) (flat_map g xs) ∙ ap (λ ys. flat_map f (g x) ++ ys) (fused f g xs)

both_each : {A : Type 0} (P Q : A → Type 0) (xs : List A) → AllByRecursion P xs → AllByRecursion Q xs → AllByRecursion (λ x. P x × Q x) xs
both_each P Q [] ps qs = tt
both_each P Q (x ∷ xs) ps qs = ((ps.0, qs.0), both_each P Q xs ps.1 qs.1)

each_kept : {A C D : Type 0} (Good : List A → Type 0) (g : List A → List C) (p : C → D) (o : A → D) → ((run : List A) → Good run → map p (g run) ≡ map o run)
    → (rs : List (List A)) → AllByRecursion Good rs → map p (flat_map g rs) ≡ map o (flat_map (λ (r : List A). r) rs)
each_kept Good g p o one [] are = refl
each_kept Good g p o one (run ∷ rs) are =
    map-append p (g run) (flat_map g rs) ∙ ((λ i. one run are.0 i ++ each_kept Good g p o one rs are.1 i) ∙ sym (map-append o run (flat_map (λ (r : List _). r) rs)))

-- a span with the resource of x and the scope of y
abbrev standing : PlacedSpan → PlacedSpan → SpanData → PlacedSpan
standing x y span = record {
  resource = x.resource;
  resource_schema_url = x.resource_schema_url;
  scope = y.scope;
  scope_schema_url = y.scope_schema_url;
  span = span;
}

-- what o tells of spans is the same in the request, where it goes by keys that the runs have in common
module _ {O K L : Type 0} (o : PlacedSpan → O) (of_resource : PlacedSpan → K) (of_scope : PlacedSpan → L) (P : PlacedSpan → Type 0) (again : (x y z : PlacedSpan) → of_resource z ≡ of_resource x → of_scope z ≡ of_scope y → o (standing x y z.span) ≡ o z) (one_resource : (a b : PlacedSpan) → P a → P b → same_resource (written a) (written b) ≡ true → of_resource a ≡ of_resource b) (one_scope : (a b : PlacedSpan) → P a → P b → same_scope (written a) (written b) ≡ true → of_scope a ≡ of_scope b) where
  all_again : (x y : PlacedSpan) (zs : List PlacedSpan) → AllByRecursion (λ z. of_resource z ≡ of_resource x) zs → AllByRecursion (λ z. of_scope z ≡ of_scope y) zs
      → map o (map (standing x y) (map (λ (p : PlacedSpan). p.span) zs)) ≡ map o zs
  all_again x y [] rs ss = refl
  all_again x y (z ∷ zs) rs ss = λ i. again x y z rs.0 ss.0 i ∷ all_again x y zs rs.1 ss.1 i

  abbrev InScope : PlacedSpan → List PlacedSpan → Type 0
  InScope x run = AllByRecursion (λ z. of_resource z ≡ of_resource x) run × Uniform of_scope run

  scope_kept : (x : PlacedSpan) (groups : List ScopeSpansData) (run : List PlacedSpan) → InScope x run → map o (flat_map (spans_of_scope (around x groups)) (one_scope_spans run)) ≡ map o run
  scope_kept x groups [] good = refl
  scope_kept x groups (y ∷ ys) good =
      ap (map o) (append-nil (map (standing x y) (map (λ (p : PlacedSpan). p.span) (y ∷ ys)))) ∙ all_again x y (y ∷ ys) good.0 (refl, good.1)

  abbrev InResource : List PlacedSpan → Type 0
  InResource run = AllByRecursion P run × Uniform of_resource run

  resource_kept : (run : List PlacedSpan) → InResource run → map o (flat_map spans_of_resource (one_resource_spans run)) ≡ map o run
  resource_kept [] good = refl
  resource_kept (x ∷ xs) good =
      let groups = flat_map one_scope_spans (scopes (x ∷ xs)) in
      let same : PlacedSpan → PlacedSpan → Bool = λ a b. same_scope (written a) (written b) in
      let of_x = runs_each same (λ z. of_resource z ≡ of_resource x) (x ∷ xs) (refl, good.1) in
      let alike = runs_uniform same P of_scope one_scope (x ∷ xs) good.0 in
      ap (map o) (append-nil (spans_of_resource (around x groups)))
      ∙ (ap (map o) (fused (spans_of_scope (around x groups)) one_scope_spans (scopes (x ∷ xs)))
      ∙ (each_kept (InScope x) (λ run. flat_map (spans_of_scope (around x groups)) (one_scope_spans run)) o o (scope_kept x groups) (scopes (x ∷ xs)) (both_each (AllByRecursion (λ z. of_resource z ≡ of_resource x)) (Uniform of_scope) (scopes (x ∷ xs)) of_x alike)
      ∙ ap (map o) (runs_whole same (x ∷ xs))))

  kept : (spans : List PlacedSpan) → AllByRecursion P spans → map o (spans_of (request_of spans)) ≡ map o spans
  kept spans each =
      let same : PlacedSpan → PlacedSpan → Bool = λ a b. same_resource (written a) (written b) in
      let ps = runs_each same P spans each in
      let alike = runs_uniform same P of_resource one_resource spans each in
      ap (map o) (fused spans_of_resource one_resource_spans (resources spans))
      ∙ (each_kept InResource (λ run. flat_map spans_of_resource (one_resource_spans run)) o o resource_kept (resources spans) (both_each (AllByRecursion P) (Uniform of_resource) (resources spans) ps alike)
      ∙ ap (map o) (runs_whole same spans))

anything : {A : Type 0} (xs : List A) → AllByRecursion (λ x. Unit {0}) xs
anything [] = tt
anything (x ∷ xs) = (tt, anything xs)

-- the spans themselves are the batch's
pub values_are : (spans : List PlacedSpan) → map (λ p. p.span) (spans_of (request_of spans)) ≡ map (λ p. p.span) spans
values_are spans =
    let none : PlacedSpan → Unit {0} = λ p. tt in
    kept (λ (p : PlacedSpan). p.span) none none (λ _. Unit {0}) (λ x y z r s. refl) (λ a b p q is. refl) (λ a b p q is. refl) spans (anything spans)

-- ---- by texts

same_texts : (a b : Option (List ℕ)) → same_text a b ≡ true → a ≡ b
same_texts None None is = refl
same_texts (Some s) (Some t) is = let same = (bytes_decides s t).0 is in cc
same_texts _ _ is = cc

same_names : (a b : Option (List ℕ)) (u v : List ℕ) → same_text a b && same_bytes u v ≡ true → (a ≡ b) × (u ≡ v)
same_names a b u v is =
    let parts = and_parts (same_text a b) (same_bytes u v) is in
    (same_texts a b parts.0, (bytes_decides u v).0 parts.1)

abbrev resource_named : PlacedSpan → Option (List ℕ) × List ℕ
resource_named p = (option_map resource_text p.resource, p.resource_schema_url)

abbrev scope_named : PlacedSpan → Option (List ℕ) × List ℕ
scope_named p = (option_map scope_text p.scope, p.scope_schema_url)

one_named_resource : (a b : PlacedSpan) → same_resource (written a) (written b) ≡ true → resource_named a ≡ resource_named b
one_named_resource a b is =
    let same = same_names (option_map resource_text a.resource) (option_map resource_text b.resource) a.resource_schema_url b.resource_schema_url is in
    λ i. (same.0 i, same.1 i)

one_named_scope : (a b : PlacedSpan) → same_scope (written a) (written b) ≡ true → scope_named a ≡ scope_named b
one_named_scope a b is =
    let same = same_names (option_map scope_text a.scope) (option_map scope_text b.scope) a.scope_schema_url b.scope_schema_url is in
    λ i. (same.0 i, same.1 i)

written_again : (x y z : PlacedSpan) → resource_named z ≡ resource_named x → scope_named z ≡ scope_named y → written (standing x y z.span) ≡ written z
written_again x y z r s = λ i. record {
  origin = record {
    resource = (sym r i).0;
    resource_schema_url = (sym r i).1;
    scope = (sym s i).0;
    scope_schema_url = (sym s i).1;
  };
  text = span_text z.span;
}

-- their texts are, and those of their resources and scopes
pub texts_are : (spans : List PlacedSpan) → map written (spans_of (request_of spans)) ≡ map written spans
texts_are spans =
    kept written resource_named scope_named (λ _. Unit {0}) written_again (λ a b p q is. one_named_resource a b is) (λ a b p q is. one_named_scope a b is) spans (anything spans)

-- ---- by values, where these are read again

module _ (resource_back : (v : ResourceData) (room : ℕ) → TypedResource v → ResourceReadsBack room v) (scope_back : (v : ScopeData) (room : ℕ) → TypedScope v → ScopeReadsBack room v) where
  one_value_resource : (a b : Option ResourceData) → IfSome a IsReadableResource → IfSome b IsReadableResource → option_map resource_text a ≡ option_map resource_text b → a ≡ b
  one_value_resource None None p q is = refl
  one_value_resource (Some a) (Some b) p q is =
      let same : resource_text a ≡ resource_text b = cc in
      let first = resource_back a 99 p.typed p.nested p.short in
      let second = resource_back b 99 q.typed q.nested q.short in
      let both : read_with resource_step 99 no_resource (resource_text a) ≡ Ok b = ap (read_with resource_step 99 no_resource) same ∙ second in
      let value : a ≡ b = cc in
      ap Some value
  one_value_resource _ _ p q is = cc

  one_value_scope : (a b : Option ScopeData) → IfSome a IsReadableScope → IfSome b IsReadableScope → option_map scope_text a ≡ option_map scope_text b → a ≡ b
  one_value_scope None None p q is = refl
  one_value_scope (Some a) (Some b) p q is =
      let same : scope_text a ≡ scope_text b = cc in
      let first = scope_back a 98 p.typed p.nested p.short in
      let second = scope_back b 98 q.typed q.nested q.short in
      let both : read_with scope_step 98 no_scope (scope_text a) ≡ Ok b = ap (read_with scope_step 98 no_scope) same ∙ second in
      let value : a ≡ b = cc in
      ap Some value
  one_value_scope _ _ p q is = cc

  abbrev resource_of : PlacedSpan → Option ResourceData × List ℕ
  resource_of p = (p.resource, p.resource_schema_url)

  abbrev scope_of : PlacedSpan → Option ScopeData × List ℕ
  scope_of p = (p.scope, p.scope_schema_url)

  one_resource_of : (a b : PlacedSpan) → IsReadable a → IsReadable b → same_resource (written a) (written b) ≡ true → resource_of a ≡ resource_of b
  one_resource_of a b p q is =
      let same = same_names (option_map resource_text a.resource) (option_map resource_text b.resource) a.resource_schema_url b.resource_schema_url is in
      let value = one_value_resource a.resource b.resource p.resource q.resource same.0 in
      λ i. (value i, same.1 i)

  one_scope_of : (a b : PlacedSpan) → IsReadable a → IsReadable b → same_scope (written a) (written b) ≡ true → scope_of a ≡ scope_of b
  one_scope_of a b p q is =
      let same = same_names (option_map scope_text a.scope) (option_map scope_text b.scope) a.scope_schema_url b.scope_schema_url is in
      let value = one_value_scope a.scope b.scope p.scope q.scope same.0 in
      λ i. (value i, same.1 i)

  placed_again : (x y z : PlacedSpan) → resource_of z ≡ resource_of x → scope_of z ≡ scope_of y → standing x y z.span ≡ z
  placed_again x y z r s = λ i. record {
    resource = (sym r i).0;
    resource_schema_url = (sym r i).1;
    scope = (sym s i).0;
    scope_schema_url = (sym s i).1;
    span = z.span;
  }

  -- the spans of the request are the batch's, with what stands round them
  pub whole : (spans : List PlacedSpan) → AllByRecursion IsReadable spans → spans_of (request_of spans) ≡ spans
  whole spans each =
      sym (map-id (spans_of (request_of spans)))
      ∙ (kept (λ (p : PlacedSpan). p) resource_of scope_of IsReadable placed_again one_resource_of one_scope_of spans each ∙ map-id spans)

-- ---- a reader takes the request

each_append : {A : Type 0} (P : A → Type 0) (xs ys : List A) → AllByRecursion P xs → AllByRecursion P ys → AllByRecursion P (xs ++ ys)
each_append P [] ys ps qs = qs
each_append P (x ∷ xs) ys ps qs = (ps.0, each_append P xs ys ps.1 qs)

each_flat : {A B : Type 0} (P : A → Type 0) (Q : B → Type 0) (g : A → List B) → ((x : A) → P x → AllByRecursion Q (g x)) → (xs : List A) → AllByRecursion P xs → AllByRecursion Q (flat_map g xs)
each_flat P Q g one [] ps = tt
each_flat P Q g one (x ∷ xs) ps = each_append Q (g x) (flat_map g xs) (one x ps.0) (each_flat P Q g one xs ps.1)

each_map : {A B : Type 0} (P : A → Type 0) (Q : B → Type 0) (f : A → B) → ((x : A) → P x → Q (f x)) → (xs : List A) → AllByRecursion P xs → AllByRecursion Q (map f xs)
each_map P Q f one [] ps = tt
each_map P Q f one (x ∷ xs) ps = (one x ps.0, each_map P Q f one xs ps.1)

scope_typed : (run : List PlacedSpan) → AllByRecursion IsReadable run → AllByRecursion TypedScopeSpans (one_scope_spans run)
scope_typed [] each = tt
scope_typed (x ∷ xs) each = (
  record {
    scope = IfSome_then x.scope each.0.scope (λ s is. is.typed);
    spans = each_map IsReadable TypedSpan (λ (p : PlacedSpan). p.span) (λ p is. is.typed) (x ∷ xs) each;
    schema_url = each.0.scope_schema_url;
  },
  tt,
)

resource_typed : (run : List PlacedSpan) → AllByRecursion IsReadable run → AllByRecursion TypedResourceSpans (one_resource_spans run)
resource_typed [] each = tt
resource_typed (x ∷ xs) each = (
  record {
    resource = IfSome_then x.resource each.0.resource (λ r is. is.typed);
    scope_spans = each_flat (AllByRecursion IsReadable) TypedScopeSpans one_scope_spans scope_typed (scopes (x ∷ xs)) (runs_each (λ a b. same_scope (written a) (written b)) IsReadable (x ∷ xs) each);
    schema_url = each.0.resource_schema_url;
  },
  tt,
)

typed : (spans : List PlacedSpan) → AllByRecursion IsReadable spans → TypedRequest (request_of spans)
typed spans each = record {
  resource_spans = each_flat (AllByRecursion IsReadable) TypedResourceSpans one_resource_spans resource_typed (resources spans) (runs_each (λ a b. same_resource (written a) (written b)) IsReadable spans each);
}

scope_nested : (run : List PlacedSpan) → AllByRecursion IsReadable run → AllByRecursion (NestedScopeSpans 99) (one_scope_spans run)
scope_nested [] each = tt
scope_nested (x ∷ xs) each = (
  record {
    scope = IfSome_then x.scope each.0.scope (λ s is. is.nested);
    spans = each_map IsReadable (NestedSpan 98) (λ (p : PlacedSpan). p.span) (λ p is. is.nested) (x ∷ xs) each;
  },
  tt,
)

resource_nested : (run : List PlacedSpan) → AllByRecursion IsReadable run → AllByRecursion (NestedResourceSpans 100) (one_resource_spans run)
resource_nested [] each = tt
resource_nested (x ∷ xs) each = (
  record {
    resource = IfSome_then x.resource each.0.resource (λ r is. is.nested);
    scope_spans = each_flat (AllByRecursion IsReadable) (NestedScopeSpans 99) one_scope_spans scope_nested (scopes (x ∷ xs)) (runs_each (λ a b. same_scope (written a) (written b)) IsReadable (x ∷ xs) each);
  },
  tt,
)

nested : (spans : List PlacedSpan) → AllByRecursion IsReadable spans → NestedRequest (request_of spans)
nested spans each = record {
  resource_spans = each_flat (AllByRecursion IsReadable) (NestedResourceSpans 100) one_resource_spans resource_nested (resources spans) (runs_each (λ a b. same_resource (written a) (written b)) IsReadable spans each);
}

-- what is sent is read as the request
pub reads : ((v : RequestData) → TypedRequest v → RequestReadsBack v) → (spans : List PlacedSpan) → AllByRecursion IsReadable spans
    → IsShort (export_text (map written spans)) → IsValue (export_text (map written spans)) (request_of spans)
reads back spans each short =
    subst (λ (text : List ℕ). IsValue text (request_of spans)) (sym (text_is spans)) (back (request_of spans) (typed spans each) (nested spans each) (subst IsShort (text_is spans) short))
