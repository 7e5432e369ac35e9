-- The arrivals of a body's value are those of its parts.
use Rattle.std.proofs.Common.{◌≡◌, ◌∙◌, ℕ, true, List, [], ◌∷◌, ◌++◌, map, length, refl, sym, ap, subst, append-nil, arith}
use Rattle.std.proofs.lemmas.Grind.{flat_map-append}
use Rattle.std.specs.Prelude.{option_map, filter, flat_map}
use Rattle.std.specs.List.{AllByRecursion}
use Rattle.otlp_trace.specs.Data.{SpanData, ScopeSpansData, ResourceSpansData, RequestData}
use Rattle.otlp_trace.specs.Text.{span_text, resource_text}
use Rattle.otlp_read.specs.Nested.{NestedSpan, NestedScopeSpans, NestedResourceSpans, NestedRequest}
use Rattle.otlp_read.specs.Typed.{TypedSpan, TypedScopeSpans, TypedResourceSpans, TypedRequest}
use Rattle.otlp_parts.specs.Texts.{is_valid_span, valid_texts, BodyTexts, ScopeTexts, where_any, scope_texts, scope_with_spans, resource_texts, resource_with_spans, texts_of}
use Rattle.span_pool.specs.Stored.{Origin as OriginData}
use Rattle.tail_settings.specs.Policy.{PolicyData}
use Rattle.tail_settings.specs.Section.{SectionData}
use Rattle.tenant_rules.specs.Arrivals.{Arrival}
use Rattle.prepared_body.specs.Origin.{OriginTexts}
use Rattle.prepared_body.specs.declared.noted.NotedSpan.{NotedSpan}
use Rattle.prepared_body.specs.Arrivals.{arrival_with, arrivals_in}
use Rattle.otlp_prepare.specs.Arrivals.{origin_of, arrival_of, arrivals_of_scope, arrivals_of_resource, arrivals_of}
use Rattle.prepared_body.specs.Prepared.{PreparedData}
use Rattle.otlp_prepare.specs.Prepared.{prepared_of}
use Rattle.otlp_prepare.specs.BodySpans.{origin_in, arrivals_in_scope, arrivals_in_resource, arrivals_in_body, UnnotedSpanData, part_arrivals, noted, AreFound, IsSpanRead, IsValidRead, IsResourceRead, IsScopeRead, IsGroupRead, AreRead}
use Rattle.otlp_prepare.proofs.Lists.{every_append, every_front, every_back, every_filtered, every_passed}
use Rattle.otlp_prepare.proofs.Read.{AllTold, told}
use Rattle.otlp_prepare.proofs.Joined.{IsShortArrival, noted_arrivals, short_arrivals}

-- ---- the texts of a body's value were read

texts_read : (ss : List SpanData) → AllByRecursion TypedSpan ss → AllByRecursion (NestedSpan 98) ss
    → AllByRecursion (λ s. is_valid_span s ≡ true) ss → AllByRecursion IsValidRead (map span_text ss)
texts_read [] typed nested valid = tt
texts_read (s ∷ ss) typed nested valid = (
  record { read = record { span = s; typed = typed.0; nested = nested.0; same = refl }; valid = valid.0 },
  texts_read ss typed.1 nested.1 valid.1,
)

scope_read : (scope : ScopeSpansData) → TypedScopeSpans scope → NestedScopeSpans 99 scope → IsScopeRead (scope_texts scope)
scope_read scope typed nested =
    texts_read (filter is_valid_span scope.spans)
    (every_filtered TypedSpan is_valid_span scope.spans typed.spans)
    (every_filtered (NestedSpan 98) is_valid_span scope.spans nested.spans)
    (every_passed is_valid_span scope.spans)

where_any_read : {A B : Type 0} (P : A → Type 0) (bs : List B) (a : A) → P a → AllByRecursion P (where_any bs a)
where_any_read P [] a read = tt
where_any_read P (b ∷ bs) a read = (read, tt)

scopes_read : (scopes : List ScopeSpansData) → AllByRecursion TypedScopeSpans scopes → AllByRecursion (NestedScopeSpans 99) scopes
    → AllByRecursion IsScopeRead (flat_map scope_with_spans scopes)
scopes_read [] typed nested = tt
scopes_read (scope ∷ scopes) typed nested =
    every_append IsScopeRead (scope_with_spans scope) (flat_map scope_with_spans scopes)
    (where_any_read IsScopeRead (valid_texts scope.spans) (scope_texts scope) (scope_read scope typed.0 nested.0)) (scopes_read scopes typed.1 nested.1)

resource_read : (group : ResourceSpansData) → TypedResourceSpans group → NestedResourceSpans 100 group
    → IsResourceRead (option_map resource_text group.resource)
resource_read group typed nested = record { resource = group.resource; typed = typed.resource; nested = nested.resource; same = refl }

group_read : (group : ResourceSpansData) → TypedResourceSpans group → NestedResourceSpans 100 group → IsGroupRead (resource_texts group)
group_read group typed nested = record {
  resource = resource_read group typed nested;
  scopes = scopes_read group.scope_spans typed.scope_spans nested.scope_spans;
}

groups_read : (groups : List ResourceSpansData) → AllByRecursion TypedResourceSpans groups → AllByRecursion (NestedResourceSpans 100) groups
    → AllByRecursion IsGroupRead (flat_map resource_with_spans groups)
groups_read [] typed nested = tt
groups_read (group ∷ groups) typed nested =
    every_append IsGroupRead (resource_with_spans group) (flat_map resource_with_spans groups)
    (where_any_read IsGroupRead (flat_map scope_with_spans group.scope_spans) (resource_texts group) (group_read group typed.0 nested.0)) (groups_read groups typed.1 nested.1)

pub body_read : (v : RequestData) → TypedRequest v → NestedRequest v → AreRead (texts_of v)
body_read v typed nested = groups_read v.resource_spans typed.resource_spans nested.resource_spans

-- ---- what has no spans brings nothing

nothing : {A : Type 0} (xs : List A) → length xs ≡ 0 → xs ≡ []
nothing [] none = refl
nothing (x ∷ xs) none = absurd (omega (arith, none))

skipped : {A B C : Type 0} (f : A → List C) (bs : List B) (a : A) → (length bs ≡ 0 → f a ≡ []) → flat_map f (where_any bs a) ≡ f a
skipped f [] a none = sym (none refl)
skipped f (b ∷ bs) a none = append-nil (f a)

all_scopes : (group : ResourceSpansData) (scopes : List ScopeSpansData)
    → flat_map (arrivals_in_scope (resource_texts group)) (flat_map scope_with_spans scopes) ≡ flat_map (arrivals_in_scope (resource_texts group)) (map scope_texts scopes)
all_scopes group [] = refl
all_scopes group (scope ∷ scopes) =
    let f : ScopeTexts → List Arrival = arrivals_in_scope (resource_texts group) in
    let texts = valid_texts scope.spans in
    let one : flat_map f (scope_with_spans scope) ≡ f (scope_texts scope) =
    skipped f texts (scope_texts scope) (λ none. ap (λ (xs : List (List ℕ)). map (arrival_with (origin_in (resource_texts group) (scope_texts scope))) xs) (nothing texts none)) in
    flat_map-append f (scope_with_spans scope) (flat_map scope_with_spans scopes) ∙ (λ j. one j ++ all_scopes group scopes j)

all_groups : (groups : List ResourceSpansData)
    → flat_map arrivals_in_resource (flat_map resource_with_spans groups) ≡ flat_map arrivals_in_resource (map resource_texts groups)
all_groups [] = refl
all_groups (group ∷ groups) =
    let scopes = flat_map scope_with_spans group.scope_spans in
    let one : flat_map arrivals_in_resource (resource_with_spans group) ≡ arrivals_in_resource (resource_texts group) =
    skipped arrivals_in_resource scopes (resource_texts group) (λ none. ap (λ (xs : List ScopeTexts). flat_map (arrivals_in_scope (resource_texts group)) xs) (nothing scopes none)) in
    flat_map-append arrivals_in_resource (resource_with_spans group) (flat_map resource_with_spans groups) ∙ (λ j. one j ++ all_groups groups j)

-- ---- and tell what arrives

spans_arrive : (law : AllTold) (origin : OriginData) (outer : IsResourceRead origin.resource) (ss : List SpanData)
    → AllByRecursion TypedSpan ss → AllByRecursion (NestedSpan 98) ss
    → AllByRecursion IsShortArrival (map (arrival_with origin) (map span_text ss))
    → map (arrival_with origin) (map span_text ss) ≡ map (arrival_of origin outer.resource) ss
spans_arrive law origin outer [] typed nested short = refl
spans_arrive law origin outer (s ∷ ss) typed nested short =
    let read : IsSpanRead (span_text s) = record { span = s; typed = typed.0; nested = nested.0; same = refl } in
    let tells = told (span_text s) origin.resource law read outer short.0.0 short.0.1 in
    let rest = spans_arrive law origin outer ss typed.1 nested.1 short.1 in
    λ j. record { facts = tells j; text = span_text s; origin = origin } ∷ rest j

scope_arrives : (law : AllTold) (group : ResourceSpansData) → TypedResourceSpans group → NestedResourceSpans 100 group
    → (scope : ScopeSpansData) → TypedScopeSpans scope → NestedScopeSpans 99 scope
    → AllByRecursion IsShortArrival (arrivals_in_scope (resource_texts group) (scope_texts scope))
    → arrivals_in_scope (resource_texts group) (scope_texts scope) ≡ arrivals_of_scope group scope
unfolding resource_read
scope_arrives law group outer within scope typed nested short =
    spans_arrive law (origin_of group scope) (resource_read group outer within) (filter is_valid_span scope.spans)
    (every_filtered TypedSpan is_valid_span scope.spans typed.spans)
    (every_filtered (NestedSpan 98) is_valid_span scope.spans nested.spans) short

scopes_arrive : (law : AllTold) (group : ResourceSpansData) → TypedResourceSpans group → NestedResourceSpans 100 group
    → (scopes : List ScopeSpansData) → AllByRecursion TypedScopeSpans scopes → AllByRecursion (NestedScopeSpans 99) scopes
    → AllByRecursion IsShortArrival (flat_map (arrivals_in_scope (resource_texts group)) (map scope_texts scopes))
    → flat_map (arrivals_in_scope (resource_texts group)) (map scope_texts scopes) ≡ flat_map (arrivals_of_scope group) scopes
scopes_arrive law group outer within [] typed nested short = refl
scopes_arrive law group outer within (scope ∷ scopes) typed nested short =
    let one = arrivals_in_scope (resource_texts group) (scope_texts scope) in
    let more = flat_map (arrivals_in_scope (resource_texts group)) (map scope_texts scopes) in
    let first = scope_arrives law group outer within scope typed.0 nested.0 (every_front IsShortArrival one more short) in
    let rest = scopes_arrive law group outer within scopes typed.1 nested.1 (every_back IsShortArrival one more short) in
    λ j. first j ++ rest j

groups_arrive : (law : AllTold) (groups : List ResourceSpansData) → AllByRecursion TypedResourceSpans groups
    → AllByRecursion (NestedResourceSpans 100) groups
    → AllByRecursion IsShortArrival (flat_map arrivals_in_resource (map resource_texts groups))
    → flat_map arrivals_in_resource (map resource_texts groups) ≡ flat_map arrivals_of_resource groups
groups_arrive law [] typed nested short = refl
groups_arrive law (group ∷ groups) typed nested short =
    let one = arrivals_in_resource (resource_texts group) in
    let more = flat_map arrivals_in_resource (map resource_texts groups) in
    let scopes = all_scopes group group.scope_spans in
    let brief = subst (AllByRecursion IsShortArrival) scopes (every_front IsShortArrival one more short) in
    let first = scopes ∙ scopes_arrive law group typed.0 nested.0 group.scope_spans typed.0.scope_spans nested.0.scope_spans brief in
    let rest = groups_arrive law groups typed.1 nested.1 (every_back IsShortArrival one more short) in
    λ j. first j ++ rest j

body_arrives : (law : AllTold) (v : RequestData) → TypedRequest v → NestedRequest v
    → AllByRecursion IsShortArrival (arrivals_in_body (texts_of v)) → arrivals_in_body (texts_of v) ≡ arrivals_of v
body_arrives law v typed nested short =
    let all = all_groups v.resource_spans in
    all ∙ groups_arrive law v.resource_spans typed.resource_spans nested.resource_spans (subst (AllByRecursion IsShortArrival) all short)

-- the spans that were found among the parts of a value, with their notes, are those that arrive
pub all_arrive : (law : AllTold) (v : RequestData) (body : BodyTexts) (policies : List PolicyData) (origins : List OriginTexts)
    → (parts : List UnnotedSpanData) (spans : List NotedSpan) → TypedRequest v → NestedRequest v → body ≡ texts_of v
    → AreFound policies origins parts → part_arrivals origins parts ≡ arrivals_in_body body
    → spans ≡ map (noted policies) parts → arrivals_in origins spans ≡ arrivals_of v
all_arrive law v body policies origins parts spans typed nested same are found is =
    let texts = found ∙ ap (λ (b : BodyTexts). arrivals_in_body b) same in
    let short = subst (AllByRecursion IsShortArrival) texts (short_arrivals policies origins parts are) in
    ap (λ (xs : List NotedSpan). arrivals_in origins xs) is
    ∙ (noted_arrivals policies origins parts ∙ (texts ∙ body_arrives law v typed nested short))

-- so what is prepared of them is what the value is made ready as
pub all_prepared : (law : AllTold) (v : RequestData) (body : BodyTexts) (policies given : List PolicyData) (origins : List OriginTexts)
    → (parts : List UnnotedSpanData) (spans : List NotedSpan) (tenant : ℕ) (section : SectionData) (result : PreparedData)
    → TypedRequest v → NestedRequest v → body ≡ texts_of v → AreFound policies origins parts
    → part_arrivals origins parts ≡ arrivals_in_body body → spans ≡ map (noted policies) parts
    → given ≡ section.tail_sampling.policies
    → result ≡ record { tenant = tenant; policies = given; arrivals = arrivals_in origins spans; invalid = body.invalid }
    → result ≡ prepared_of tenant section v
all_prepared law v body policies given origins parts spans tenant section result typed nested same are found is taken made =
    let arrivals = all_arrive law v body policies origins parts spans typed nested same are found is in
    let invalid = ap (λ (b : BodyTexts). b.invalid) same in
    made ∙ (λ j. record { tenant = tenant; policies = taken j; arrivals = arrivals j; invalid = invalid j })
