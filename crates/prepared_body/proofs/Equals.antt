-- Bodies are equal where what they are is.
use Rattle.std.proofs.Common.{◌≡◌, ℕ, ℤ, pos, negsuc, List, [], ◌∷◌, Option, Some, None, map, length, get_or, drop, refl, sym, ap, subst, ◌∙◌, Bool, true, false, eqb, arith, ◌<◌, ◌≤◌, ◌+◌}
use Rattle.std.proofs.lemmas.List.{drop_more, drop_all}
use Rattle.std.proofs.lemmas.Bool.Decides.{nat_tests, Decides-eqb}
use Rattle.std.specs.Bool.{one_answer}
use Rattle.std.specs.Prelude.{◌&&◌, Decides}
use Rattle.std.specs.Cmp.Lexicographic.{pointwise, pointwise_decides, bytes_decides}
use Rattle.tail_settings.specs.Policy.{StatusData, unset, ok, error, LeafData, always_sample, latency, status_code, string_attribute, numeric_attribute, PolicyData, leaf, and, policy_view}
use Rattle.tail_settings.specs.declared.policy.PolicySpec.{PolicySpec}
use Rattle.span_view.specs.Reading.{facts_of}
use Rattle.span_pool.specs.Stored.{Origin as OriginData, bytes_of, same_text}
use Rattle.span_pool.specs.Equal.{origin_eq}
use Rattle.tenant_rules.specs.Arrivals.{Arrival}
use Rattle.prepared_body.specs.Origin.{OriginTexts}
use Rattle.prepared_body.specs.declared.noted.NotedSpan.{NotedSpan}
use Rattle.prepared_body.specs.Arrivals.{arrival_in, arrivals_in}
use Rattle.prepared_body.specs.Equal.{arrival_eq, status_number, signed, leaf_parts, policy_parts, policy_eq, same_policies, prepared_eq}
use Rattle.prepared_body.specs.Prepared.{PreparedData}

-- lists that a function takes to one list are one where it takes no two members to one
one_list : {A B : Type 0} → (f : A → B) → ((a b : A) → f a ≡ f b → a ≡ b) → (xs ys : List A) → map f xs ≡ map f ys → xs ≡ ys
one_list f one [] [] same = refl
one_list f one [] (y ∷ ys) same = cc
one_list f one (x ∷ xs) [] same = cc
one_list f one (x ∷ xs) (y ∷ ys) same =
    let first = one x y cc in
    let rest = one_list f one xs ys cc in
    cc

one_status : (a b : StatusData) → status_number a ≡ status_number b → a ≡ b
one_status unset unset same = refl
one_status ok ok same = refl
one_status error error same = refl
one_status _ _ same = cc

one_number : (m n : ℤ) → signed m ≡ signed n → m ≡ n
one_number (pos m) (pos n) same = cc
one_number (negsuc m) (negsuc n) same = cc
one_number _ _ same = cc

one_leaf : (a b : LeafData) → leaf_parts a ≡ leaf_parts b → a ≡ b
one_leaf always_sample always_sample same = refl
one_leaf (latency m) (latency n) same = cc
one_leaf (status_code xs) (status_code ys) same = let codes = one_list status_number one_status xs ys cc in cc
one_leaf (string_attribute k xs) (string_attribute l ys) same = cc
one_leaf (numeric_attribute k m n) (numeric_attribute l u v) same =
    let low = one_number m u cc in
    let high = one_number n v cc in
    cc
one_leaf _ _ same = cc

one_policy : (a b : PolicyData) → policy_parts a ≡ policy_parts b → a ≡ b
one_policy (leaf a) (leaf b) same = let leaves = one_leaf a b cc in cc
one_policy (and xs) (and ys) same = let leaves = one_list leaf_parts one_leaf xs ys cc in cc
one_policy _ _ same = cc

policy_decides : (a b : PolicyData) → Decides (policy_eq a b) (a ≡ b)
policy_decides a b =
    let parts = pointwise_decides (pointwise_decides bytes_decides) (policy_parts a) (policy_parts b) in
    (λ h. one_policy a b (parts.0 h), λ h. parts.1 (ap policy_parts h))

pub same_policies_decides : (a b : List PolicyData) → Decides (same_policies a b) (a ≡ b)
same_policies_decides = pointwise_decides policy_decides

-- a test of whether slices of policies say the same is that of the policies
pub same_policy_lists : (xs ys left : List PolicySpec) (r : Bool) → left ≡ xs → Decides r (map policy_view left ≡ map policy_view ys) → r ≡ same_policies (map policy_view xs) (map policy_view ys)
same_policy_lists xs ys left r one decides =
    one_answer r _ decides (same_policies_decides (map policy_view left) (map policy_view ys)) ∙ ap (λ (zs : List PolicySpec). same_policies (map policy_view zs) (map policy_view ys)) one

-- the second of two tests decides where the first holds
pub after_equal : (x y : ℕ) (more value : Bool) → x ≡ y → value ≡ more → value ≡ (eqb x y && more)
after_equal x y more value same is = let test : eqb x y ≡ true = grind (arith, nat_tests) in rw (test, is)

-- ---- equal bodies are the same

and_decides : {P Q : Type 0} → (a b : Bool) → Decides a P → Decides b Q → Decides (a && b) (P × Q)
and_decides true b p q = (λ h. (p.0 refl, q.0 h), λ h. q.1 h.1)
and_decides false b p q = (λ h. absurd (cc), λ h. p.1 h.0)

text_decides : (a b : Option (List ℕ)) → Decides (same_text a b) (a ≡ b)
text_decides None None = (λ h. refl, λ h. refl)
text_decides None (Some y) = (λ h. absurd (cc), λ h. absurd (cc))
text_decides (Some x) None = (λ h. absurd (cc), λ h. absurd (cc))
text_decides (Some x) (Some y) = (λ h. ap Some ((bytes_decides x y).0 h), λ h. let same : x ≡ y = cc in (bytes_decides x y).1 same)

origin_decides : (a b : OriginData) → Decides (origin_eq a b) (a ≡ b)
origin_decides a b =
    let around = and_decides _ _ (text_decides a.resource b.resource) (bytes_decides a.resource_schema_url b.resource_schema_url) in
    let within = and_decides _ _ (text_decides a.scope b.scope) (bytes_decides a.scope_schema_url b.scope_schema_url) in
    let parts = and_decides _ _ around within in (
      λ h. let all = parts.0 h in λ j. record { resource = all.0.0 j; resource_schema_url = all.0.1 j; scope = all.1.0 j; scope_schema_url = all.1.1 j },
      λ h. parts.1 ((ap (λ (o : OriginData). o.resource) h, ap (λ (o : OriginData). o.resource_schema_url) h), (ap (λ (o : OriginData). o.scope) h, ap (λ (o : OriginData). o.scope_schema_url) h)),
    )

-- what policies ask of a span follows from its text and its resource's
arrival_decides : (os ps : List OriginTexts) (x y : NotedSpan) → Decides (arrival_eq (arrival_in os x) (arrival_in ps y)) (arrival_in os x ≡ arrival_in ps y)
arrival_decides os ps x y =
    let mine = arrival_in os x in
    let theirs = arrival_in ps y in
    let parts = and_decides _ _ (bytes_decides x.text y.text) (origin_decides mine.origin theirs.origin) in (
      λ h. let all = parts.0 h in λ j. record { facts = facts_of (all.0 j) (bytes_of (all.1 j).resource); text = all.0 j; origin = all.1 j },
      λ h. parts.1 (ap (λ (a : Arrival). a.text) h, ap (λ (a : Arrival). a.origin) h),
    )

arrivals_decide : (os ps : List OriginTexts) (xs ys : List NotedSpan) → Decides (pointwise arrival_eq (arrivals_in os xs) (arrivals_in ps ys)) (arrivals_in os xs ≡ arrivals_in ps ys)
arrivals_decide os ps [] [] = (λ h. refl, λ h. refl)
arrivals_decide os ps [] (y ∷ ys) = (λ h. absurd (cc), λ h. absurd (cc))
arrivals_decide os ps (x ∷ xs) [] = (λ h. absurd (cc), λ h. absurd (cc))
arrivals_decide os ps (x ∷ xs) (y ∷ ys) =
    let parts = and_decides _ _ (arrival_decides os ps x y) (arrivals_decide os ps xs ys) in (
      λ h. let all = parts.0 h in λ j. all.0 j ∷ all.1 j,
      λ h.
          let first : arrival_in os x ≡ arrival_in ps y = cc in
          let rest : arrivals_in os xs ≡ arrivals_in ps ys = cc in
          parts.1 (first, rest),
    )

pub prepared_decides : (p q : PreparedData) (os ps : List OriginTexts) (xs ys : List NotedSpan) → p.arrivals ≡ arrivals_in os xs → q.arrivals ≡ arrivals_in ps ys → Decides (prepared_eq p q) (p ≡ q)
prepared_decides p q os ps xs ys mine theirs =
    let kept = arrivals_decide os ps xs ys in
    let first = subst (λ (zs : List Arrival). Decides (pointwise arrival_eq (arrivals_in os xs) zs) (arrivals_in os xs ≡ zs)) (sym theirs) kept in
    let arrivals = subst (λ (zs : List Arrival). Decides (pointwise arrival_eq zs q.arrivals) (zs ≡ q.arrivals)) (sym mine) first in
    let tenants = and_decides _ _ (Decides-eqb p.tenant q.tenant) (same_policies_decides p.policies q.policies) in
    let parts = and_decides _ _ (and_decides _ _ (Decides-eqb p.invalid q.invalid) tenants) arrivals in (
      λ h.
          let all = parts.0 h in
          λ j. record { tenant = all.0.1.0 j; policies = all.0.1.1 j; arrivals = all.1 j; invalid = all.0.0 j },
      λ h. parts.1 (
        (ap (λ (d : PreparedData). d.invalid) h, (ap (λ (d : PreparedData). d.tenant) h, ap (λ (d : PreparedData). d.policies) h)),
        ap (λ (d : PreparedData). d.arrivals) h,
      ),
    )

-- ---- spans one by one

-- what is left of two lists of spans, where they agreed so far
pub one_more : (os ps : List OriginTexts) (xs ys : List NotedSpan) (i : ℕ) (d : NotedSpan) → i < length xs → i < length ys
    → pointwise arrival_eq (arrivals_in os (drop i xs)) (arrivals_in ps (drop i ys))
    ≡ (arrival_eq (arrival_in os (get_or xs i d)) (arrival_in ps (get_or ys i d))
    && pointwise arrival_eq (arrivals_in os (drop (i + 1) xs)) (arrivals_in ps (drop (i + 1) ys)))
one_more os ps xs ys i d short long = λ j. pointwise arrival_eq (arrivals_in os (drop_more xs i d short j)) (arrivals_in ps (drop_more ys i d long j))

behind : (first rest : Bool) → rest ≡ false → (first && rest) ≡ false
behind true rest is = is
behind false rest is = refl

-- nothing is left at the end
pub none_more : (os ps : List OriginTexts) (xs ys : List NotedSpan) (i : ℕ) → length xs ≤ i → length ys ≤ i
    → pointwise arrival_eq (arrivals_in os (drop i xs)) (arrivals_in ps (drop i ys)) ≡ true
none_more os ps xs ys i short long = λ j. pointwise arrival_eq (arrivals_in os (drop_all i xs short j)) (arrivals_in ps (drop_all i ys long j))
