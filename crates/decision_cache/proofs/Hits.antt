-- What hits change of the caches.
use Rattle.std.proofs.Common.{◌≡◌, ℕ, ◌≤◌, Bool, true, false, List, [], ◌∷◌, ◌++◌, take, drop, get_or, ◌+◌, ◌<◌, zero, suc, length, refl, sym, ap, ◌∙◌, subst, Some, None, if◌then◌else◌}
use Rattle.std.proofs.lemmas.List.{drop_more}
use Rattle.decision_cache.specs.Ids.{is_same, contains}
use Rattle.decision_cache.specs.Caches.{BothData, CachesData, cache_of, noted_in, all_noted, shown, found, AreIn, AreWithin, CachesInvariant}
use Rattle.decision_cache.proofs.Lists.{hits_keep, hits_keep_length}
use Rattle.decision_cache.proofs.Same.{same_laws}

-- an id is in a cache after a hit where it was before
noted_has : (sampled : Bool) (id other : List ℕ) (b : BothData) → contains id (cache_of sampled b) ≡ true → AreWithin b → (s : Bool) → contains other (cache_of s (noted_in sampled id b)) ≡ contains other (cache_of s b)
noted_has true id other b there within true = hits_keep is_same same_laws b.sampled.size id other b.sampled.ids there within.0
noted_has true id other b there within false = refl
noted_has false id other b there within true = refl
noted_has false id other b there within false = hits_keep is_same same_laws b.other.size id other b.other.ids there within.1

noted_within : (sampled : Bool) (id : List ℕ) (b : BothData) → contains id (cache_of sampled b) ≡ true → AreWithin b → AreWithin (noted_in sampled id b)
noted_within true id b there within = (subst (λ n. n ≤ b.sampled.size) (sym (hits_keep_length is_same same_laws b.sampled.size id b.sampled.ids there within.0)) within.0, within.1)
noted_within false id b there within = (within.0, subst (λ n. n ≤ b.other.size) (sym (hits_keep_length is_same same_laws b.other.size id b.other.ids there within.1)) within.1)

are_in_noted : (hits : List (List ℕ × Bool)) (sampled : Bool) (id : List ℕ) (b : BothData) → contains id (cache_of sampled b) ≡ true → AreWithin b → AreIn hits b → AreIn hits (noted_in sampled id b)
are_in_noted [] sampled id b there within are = tt
are_in_noted (hit ∷ hits) sampled id b there within are = (noted_has sampled id hit.0 b there within hit.1 ∙ are.0, are_in_noted hits sampled id b there within are.1)

-- the first hit is noted, and what holds of all goes on
pub one_noted : (hit : List ℕ × Bool) (hits : List (List ℕ × Bool)) (b : BothData) → AreWithin b → AreIn (hit ∷ hits) b → AreWithin (noted_in hit.1 hit.0 b) × AreIn hits (noted_in hit.1 hit.0 b)
one_noted hit hits b within are = (noted_within hit.1 hit.0 b are.0 within, are_in_noted hits hit.1 hit.0 b are.0 within are.1)

-- and once it is noted, those behind it are in theirs, and make of the caches what it made of them with those
pub next_hit : (hits : List (List ℕ × Bool)) (i : ℕ) (b next : BothData) → i < length hits → AreWithin b → AreIn (drop i hits) b
    → next ≡ noted_in (get_or hits i ([], false)).1 (get_or hits i ([], false)).0 b
    → AreWithin next × AreIn (drop (i + 1) hits) next × (all_noted (drop (i + 1) hits) next ≡ all_noted (drop i hits) b)
next_hit hits i b next lt within are e =
    let more : drop i hits ≡ get_or hits i ([], false) ∷ drop (i + 1) hits = drop_more hits i ([], false) lt in
    let on = one_noted (get_or hits i ([], false)) (drop (i + 1) hits) b within (subst (λ (h : List (List ℕ × Bool)). AreIn h b) more are) in (
      subst AreWithin (sym e) on.0,
      subst (AreIn (drop (i + 1) hits)) (sym e) on.1,
      ap (all_noted (drop (i + 1) hits)) e ∙ sym (ap (λ (h : List (List ℕ × Bool)). all_noted h b) more),
    )

shown_has : (hits : List (List ℕ × Bool)) (b : BothData) → AreWithin b → AreIn hits b → (other : List ℕ) (s : Bool) → contains other (cache_of s (all_noted hits b)) ≡ contains other (cache_of s b)
shown_has [] b within are other s = refl
shown_has (hit ∷ hits) b within are other s =
    let on = one_noted hit hits b within are in
    shown_has hits (noted_in hit.1 hit.0 b) on.0 on.1 other s ∙ noted_has hit.1 hit.0 other b are.0 within s

-- what is found is what was found before the hits
pub found_shown : (c : CachesData) → CachesInvariant c → (id : List ℕ) → found id (shown c) ≡ found id c.kept
found_shown c sound id =
    λ i. if shown_has c.hits c.kept sound.within sound.hits id true i then Some true
    else if shown_has c.hits c.kept sound.within sound.hits id false i then Some false else None

-- what is found is in its cache
found_in : (id : List ℕ) (b : BothData) (sampled : Bool) → found id b ≡ Some sampled → contains id (cache_of sampled b) ≡ true
found_in id b true e = by_tests (contains id b.sampled) (contains id b.other) e
  where
    by_tests : (p q : Bool) → (if p then Some true else if q then Some false else None) ≡ Some true → p ≡ true
    by_tests true q e = refl
    by_tests false true e = absurd (cc)
    by_tests false false e = absurd (cc)
found_in id b false e = by_tests (contains id b.sampled) (contains id b.other) e
  where
    by_tests : (p q : Bool) → (if p then Some true else if q then Some false else None) ≡ Some false → q ≡ true
    by_tests true q e = absurd (cc)
    by_tests false true e = refl
    by_tests false false e = absurd (cc)

are_in_more : (hits : List (List ℕ × Bool)) (hit : List ℕ × Bool) (b : BothData) → AreIn hits b → contains hit.0 (cache_of hit.1 b) ≡ true → AreIn (hits ++ hit ∷ []) b
are_in_more [] hit b are there = (there, tt)
are_in_more (x ∷ hits) hit b are there = (are.0, are_in_more hits hit b are.1 there)

-- one more hit, of an id that is found
pub one_more : (c : CachesData) (id : List ℕ) (sampled : Bool) → CachesInvariant c → found id (shown c) ≡ Some sampled → CachesInvariant (record { kept = c.kept; hits = c.hits ++ (id, sampled) ∷ [] })
one_more c id sampled sound there =
    record { within = sound.within; hits = are_in_more c.hits (id, sampled) c.kept sound.hits (found_in id c.kept sampled (sym (found_shown c sound id) ∙ there)) }

pub noted_more : (hits : List (List ℕ × Bool)) (hit : List ℕ × Bool) (b : BothData) → all_noted (hits ++ hit ∷ []) b ≡ noted_in hit.1 hit.0 (all_noted hits b)
noted_more [] hit b = refl
noted_more (x ∷ hits) hit b = noted_more hits hit (noted_in x.1 x.0 b)

-- the first hits are in, where all are
pub are_in_take : (n : ℕ) (hits : List (List ℕ × Bool)) (b : BothData) → AreIn hits b → AreIn (take n hits) b
are_in_take zero hits b are = tt
are_in_take (suc n) [] b are = tt
are_in_take (suc n) (hit ∷ hits) b are = (are.0, are_in_take n hits b are.1)

-- what each answer of a look-up says
pub finds_sampled : (c : CachesData) (id : List ℕ) → CachesInvariant c → contains id c.kept.sampled ≡ true → Some true ≡ found id (shown c)
finds_sampled c id sound is =
    sym (found_shown c sound id ∙ ap (λ (b : Bool). if b then Some true else if contains id c.kept.other then Some false else None) is)

pub finds_other : (c : CachesData) (id : List ℕ) → CachesInvariant c → contains id c.kept.sampled ≡ false → contains id c.kept.other ≡ true → Some false ≡ found id (shown c)
finds_other c id sound is_not is =
    sym (found_shown c sound id ∙ λ i. if is_not i then Some true else if is i then Some false else None)

pub finds_none : (c : CachesData) (id : List ℕ) → CachesInvariant c → contains id c.kept.sampled ≡ false → contains id c.kept.other ≡ false → None ≡ found id (shown c)
finds_none c id sound is_not nor =
    sym (found_shown c sound id ∙ λ i. if is_not i then Some true else if nor i then Some false else None)
