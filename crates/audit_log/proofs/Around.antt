-- The same origins, however they are kept.
use Rattle.std.proofs.Common.{◌≡◌, ℕ, zero, suc, ◌<◌, ◌≤◌, min, List, [], ◌∷◌, length, map, take, get_or, refl, ap, ◌∙◌, sym, subst, arith}
use Rattle.std.specs.Prelude.{slice_index_or}
use Rattle.std.proofs.lemmas.List.{length-map, length-take, get_or-take, get_or_default}
use Rattle.span_pool.specs.Stored.{Origin as OriginData}
use Rattle.tail_settings.specs.Policy.{PolicyData}
use Rattle.tail_policy.specs.Note.{note_of}
use Rattle.tenant_rules.specs.Arrivals.{Arrival, is_valid, trace_of}
use Rattle.prepared_body.specs.declared.noted.NotedSpan.{NotedSpan}
use Rattle.prepared_body.specs.Origin.{OriginTexts}
use Rattle.prepared_body.specs.Arrivals.{no_origin, origin_at, first_at, origin_view, HasSameResource, AreGrouped, IsGrouped, arrival_with, arrival_in, arrivals_in}
use Rattle.prepared_body.specs.Prepared.{IsReady, AreReady}
use Rattle.audit_log.specs.Origins.{around, HasItsResource}

around_at : (copies origins : List OriginTexts) → map around copies ≡ map around origins → (i : ℕ) → around (slice_index_or copies i no_origin) ≡ around (slice_index_or origins i no_origin)
around_at [] [] same i = refl
around_at [] (o ∷ os) same i = absurd (cc)
around_at (c ∷ cs) [] same i = absurd (cc)
around_at (c ∷ cs) (o ∷ os) same zero = cc
around_at (c ∷ cs) (o ∷ os) same (suc i) =
    let rest : map around cs ≡ map around os = cc in
    around_at cs os rest i

module _ (copies origins : List OriginTexts) (same : map around copies ≡ map around origins) where
  as_many : length copies ≡ length origins
  as_many = sym (length-map copies around) ∙ (ap (λ (xs : List (ℕ × OriginData)). length xs) same ∙ length-map origins around)

  origin_is : (i : ℕ) → origin_at copies i ≡ origin_at origins i
  origin_is i = ap (λ (p : ℕ × OriginData). p.1) (around_at copies origins same i)

  first_is : (i : ℕ) → first_at copies i ≡ first_at origins i
  first_is i = ap (λ (p : ℕ × OriginData). p.0) (around_at copies origins same i)

  arrival_is : (s : NotedSpan) → arrival_in copies s ≡ arrival_in origins s
  arrival_is s = ap (λ (o : OriginData). arrival_with o s.text) (origin_is s.origin)

  -- the same arrivals
  pub arrivals_are : (spans : List NotedSpan) → arrivals_in copies spans ≡ arrivals_in origins spans
  arrivals_are [] = refl
  arrivals_are (s ∷ ss) = ap (λ (a : Arrival). a ∷ arrivals_in copies ss) (arrival_is s) ∙ ap (λ (others : List Arrival). arrival_in origins s ∷ others) (arrivals_are ss)

  same_resource : (i j : ℕ) → HasSameResource (origin_at origins i) (origin_at origins j) → HasSameResource (origin_at copies i) (origin_at copies j)
  same_resource i j both =
      subst (λ (o : OriginData). HasSameResource o (origin_at copies j)) (sym (origin_is i))
      (subst (λ (o : OriginData). HasSameResource (origin_at origins i) o) (sym (origin_is j)) both)

  within_too : (i : ℕ) → i < length copies → i < length origins
  within_too i within = subst (λ (n : ℕ). i < n) as_many within

  -- grouped as they were
  pub are_grouped : AreGrouped origins → AreGrouped copies
  are_grouped was = λ i within.
      let old = was i (within_too i within) in
      let first = first_is i in
      let most = old.0 in (
        omega (arith, first, most),
        subst (λ (k : ℕ). HasSameResource (origin_at copies i) (origin_at copies k)) (sym first) (same_resource i (first_at origins i) old.1),
      )

  group_is : (index : ℕ) → IsGrouped origins index → IsGrouped copies index
  group_is index was = λ other within firsts. same_resource other index (was other (within_too other within) (sym (first_is other) ∙ (firsts ∙ first_is index)))

  is_ready : (policies : List PolicyData) (s : NotedSpan) → IsReady policies origins s → IsReady policies copies s
  is_ready policies s was =
      let is = arrival_is s in
      record {
        note = was.note ∙ ap (λ (a : Arrival). note_of policies a.facts) (sym is);
        trace = was.trace ∙ ap (λ (a : Arrival). trace_of a) (sym is);
        valid = ap (λ (a : Arrival). is_valid a) is ∙ was.valid;
        within = subst (λ (n : ℕ). s.origin < n) (sym as_many) was.within;
        grouped = group_is s.origin was.grouped;
        short = was.short;
      }

  -- ready as they were
  pub are_ready : (policies : List PolicyData) (spans : List NotedSpan) → AreReady policies origins spans → AreReady policies copies spans
  are_ready policies [] was = tt
  are_ready policies (s ∷ ss) was = (is_ready policies s was.0, are_ready policies ss was.1)

  -- and no more than they were
  pub as_few : (n : ℕ) → length origins ≤ n → length copies ≤ n
  as_few n few = subst (λ (m : ℕ). m ≤ n) (sym as_many) few

-- the first origin of this one's resource spans has its resource, also among those that were copied so far
pub first_has : (copies origins : List OriginTexts) (i : ℕ) (o : OriginTexts) → AreGrouped origins → i < length origins → o ≡ get_or origins i o → map around copies ≡ map around (take i origins) → HasItsResource o copies
first_has copies origins i o grouped within is same = λ there.
    let few : length copies ≡ min i (length origins) = as_many copies (take i origins) same ∙ length-take i origins in
    let before : o.first < i = omega (arith, there, few) in
    let is_here : get_or origins i no_origin ≡ o = get_or_default origins i no_origin o within ∙ sym is in
    let mine = grouped i within in
    let at : first_at origins i ≡ o.first = ap (λ (x : OriginTexts). x.first) is_here in
    let copied : origin_at copies o.first ≡ origin_at origins o.first =
    origin_is copies (take i origins) same o.first ∙ ap (λ (x : OriginTexts). origin_view x) (get_or-take i origins o.first no_origin before) in
    let both : HasSameResource (origin_at origins i) (origin_at origins o.first) = subst (λ (k : ℕ). HasSameResource (origin_at origins i) (origin_at origins k)) at mine.1 in
    record {
      resource = ap (λ (x : OriginData). x.resource) copied ∙ (sym both.resource ∙ ap (λ (x : OriginTexts). (origin_view x).resource) is_here);
      schema_url = ap (λ (x : OriginData). x.resource_schema_url) copied ∙ (sym both.schema_url ∙ ap (λ (x : OriginTexts). (origin_view x).resource_schema_url) is_here);
    }
