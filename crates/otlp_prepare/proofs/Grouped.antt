-- Origins of one resource spans, which have its resource.
use Rattle.std.proofs.Common.{◌≡◌, ◌∙◌, ◌<◌, ◌≤◌, ◌+◌, ℕ, Bool, true, false, List, [], ◌∷◌, ◌++◌, Option, Result, Ok, Err, OnOk, length, eqb, refl, sym, ap, subst, arith}
use Rattle.std.proofs.lemmas.Bool.Decides.{nat_tests}
use Rattle.std.proofs.lemmas.List.{get_or_append_left, length-append}
use Rattle.std.proofs.Math.Seq.{get_or-append_seam}
use Rattle.span_pool.specs.Stored.{Origin as OriginData, bytes_of}
use Rattle.prepared_body.specs.Origin.{OriginTexts}
use Rattle.prepared_body.specs.Arrivals.{origin_view, no_origin, origin_at, first_at, HasSameResource, AreGrouped, IsGrouped}
use Rattle.otlp_prepare.specs.BodySpans.{IsGroupOf, KeepsGroup, KeepsGrouped}

-- ---- the same resource

same_by : (one other : OriginData) → one ≡ other → HasSameResource one other
same_by one other is = record { resource = ap (λ (o : OriginData). o.resource) is; schema_url = ap (λ (o : OriginData). o.resource_schema_url) is }

same_back : (one other : OriginData) → HasSameResource one other → HasSameResource other one
same_back one other same = record { resource = sym same.resource; schema_url = sym same.schema_url }

same_on : (one middle other : OriginData) → HasSameResource one middle → HasSameResource middle other → HasSameResource one other
same_on one middle other front back = record { resource = front.resource ∙ back.resource; schema_url = front.schema_url ∙ back.schema_url }

-- ---- one more origin

module _ (os : List OriginTexts) (o : OriginTexts) where
  origin_before : (i : ℕ) → i < length os → origin_at (os ++ o ∷ []) i ≡ origin_at os i
  origin_before i within = ap (λ (x : OriginTexts). origin_view x) (get_or_append_left os (o ∷ []) no_origin i within)

  first_before : (i : ℕ) → i < length os → first_at (os ++ o ∷ []) i ≡ first_at os i
  first_before i within = ap (λ (x : OriginTexts). x.first) (get_or_append_left os (o ∷ []) no_origin i within)

  origin_last : origin_at (os ++ o ∷ []) (length os) ≡ origin_view o
  origin_last = ap (λ (x : OriginTexts). origin_view x) (get_or-append_seam os o [] no_origin)

  first_last : first_at (os ++ o ∷ []) (length os) ≡ o.first
  first_last = ap (λ (x : OriginTexts). x.first) (get_or-append_seam os o [] no_origin)

module _ (os : List OriginTexts) (o : OriginTexts) (around : OriginData) (first : ℕ) (resource schema_url : Option (List ℕ)) (is : origin_view o ≡ around) (is_first : o.first ≡ first)
    (resource_is : around.resource ≡ resource) (schema_url_is : around.resource_schema_url ≡ bytes_of schema_url) (was : IsGroupOf first resource schema_url os)
  where
    abbrev more : List OriginTexts
    more = os ++ o ∷ []

    size : length more ≡ length os + 1
    size = length-append os (o ∷ [])

    last_has : HasSameResource (origin_at more (length os)) around
    last_has = same_by (origin_at more (length os)) around (origin_last os o ∙ is)

    -- the first of its resource spans has its resource
    first_has : HasSameResource (origin_at more first) around
    first_has = by_test (eqb first (length os)) refl
      where
        by_test : (b : Bool) → eqb first (length os) ≡ b → HasSameResource (origin_at more first) around
        by_test true e =
            let at : first ≡ length os = grind (arith, nat_tests, e) in
            subst (λ (i : ℕ). HasSameResource (origin_at more i) around) (sym at) last_has
        by_test false e =
            let most = was.by in
            let less : first < length os = grind (arith, nat_tests, e, most) in
            let kept = origin_before os o first less in
            record {
              resource = ap (λ (x : OriginData). x.resource) kept ∙ (was.resource_is less ∙ sym resource_is);
              schema_url = ap (λ (x : OriginData). x.resource_schema_url) kept ∙ (was.schema_url_is less ∙ sym schema_url_is);
            }

    abbrev Grouped : ℕ → Type 0
    Grouped i = (first_at more i ≤ i) × HasSameResource (origin_at more i) (origin_at more (first_at more i))

    here : Grouped (length os)
    here =
        let at : first_at more (length os) ≡ first = first_last os o ∙ is_first in
        let most = was.by in (
          omega (arith, at, most),
          subst (λ (k : ℕ). HasSameResource (origin_at more (length os)) (origin_at more k)) (sym at)
              (same_on (origin_at more (length os)) around (origin_at more first) last_has (same_back (origin_at more first) around first_has)),
        )

    before : (i : ℕ) → i < length os → Grouped i
    before i less =
        let old = was.grouped i less in
        let at = first_before os o i less in
        let most = old.0 in
        let within : first_at os i < length os = omega (arith, most, less) in (
          omega (arith, at, most),
          subst (λ (k : ℕ). HasSameResource (origin_at more i) (origin_at more k)) (sym at)
              (subst (λ (x : OriginData). HasSameResource x (origin_at more (first_at os i))) (sym (origin_before os o i less))
              (subst (λ (x : OriginData). HasSameResource (origin_at os i) x) (sym (origin_before os o (first_at os i) within)) old.1)),
        )

    each : (i : ℕ) → i < length more → Grouped i
    each i within = by_test (eqb i (length os)) refl
      where
        by_test : (b : Bool) → eqb i (length os) ≡ b → Grouped i
        by_test true e =
            let at : i ≡ length os = grind (arith, nat_tests, e) in
            subst (λ (k : ℕ). Grouped k) (sym at) here
        by_test false e =
            let all = size in
            let less : i < length os = grind (arith, nat_tests, e, all, within) in
            before i less

    pub group_of_more : IsGroupOf first resource schema_url more
    group_of_more = record {
      grouped = each;
      by = let most = was.by in let all = size in omega (arith, most, all);
      resource_is = λ within. first_has.resource ∙ resource_is;
      schema_url_is = λ within. first_has.schema_url ∙ schema_url_is;
    }

-- one more of this resource spans
pub group_pushed : (os os' : List OriginTexts) (o : OriginTexts) (around : OriginData) (first : ℕ) (resource schema_url : Option (List ℕ)) → os' ≡ os ++ o ∷ []
    → origin_view o ≡ around → o.first ≡ first → around.resource ≡ resource → around.resource_schema_url ≡ bytes_of schema_url → KeepsGroup first resource schema_url os os'
group_pushed os os' o around first resource schema_url pushed is is_first resource_is schema_url_is was =
    subst (λ (xs : List OriginTexts). IsGroupOf first resource schema_url xs) (sym pushed) (group_of_more os o around first resource schema_url is is_first resource_is schema_url_is was)

-- ---- resource spans, one after the other

pub none_grouped : (os : List OriginTexts) → os ≡ [] → AreGrouped os
none_grouped os none = λ index within. let size = ap (λ (xs : List OriginTexts). length xs) none in absurd (omega (arith, size, within))

-- none of the next one's is there
pub group_added : {T E : Type 0} (first next : ℕ) (resource schema_url : Option (List ℕ)) (os os' : List OriginTexts) (r : Result T E) → first ≡ next → next ≡ length os
    → OnOk r (KeepsGroup first resource schema_url os os') → OnOk r (KeepsGrouped os os')
group_added first next resource schema_url os os' (Ok x) is size keeps = λ was.
    (keeps (record {
      grouped = was;
      by = omega (arith, is, size);
      resource_is = λ within. absurd (omega (arith, is, size, within));
      schema_url_is = λ within. absurd (omega (arith, is, size, within));
    })).grouped
group_added first next resource schema_url os os' (Err x) is size keeps = tt

-- two of one resource spans have its resource
pub is_grouped : (os : List OriginTexts) (index : ℕ) → AreGrouped os → index < length os → IsGrouped os index
is_grouped os index all within = λ other there same.
    let one = all other there in
    let two = all index within in
    same_on (origin_at os other) (origin_at os (first_at os other)) (origin_at os index) one.1
    (subst (λ (k : ℕ). HasSameResource (origin_at os k) (origin_at os index)) (sym same) (same_back (origin_at os index) (origin_at os (first_at os index)) two.1))
