-- What the calls of `lru` do, in terms of ids.
use Rattle.std.proofs.Common.{◌≡◌, ℕ, suc, ◌-◌, ◌<◌, ◌≤◌, Bool, true, false, cond, ◌||◌, List, [], ◌∷◌, take, length, refl, sym, ap, ◌∙◌, arith, subst, Option, Some, None}
use Rattle.std.specs.Prelude.{⊤, is_some}
use Rattle.std.specs.Cmp.{IsEquivalence}
use Rattle.std.specs.Option.{option_map_or}
use Rattle.std.specs.Map.{keys_of, lookup, lookup_entry, remove_entry}
use Rattle.std.proofs.lemmas.List.{take_all, take-map}
use Rattle.lru.specs.LruCache.{LruCache, lru_cache, promoted, put_entries}
use Rattle.lru.proofs.CallerLemmas.{Contains-lookup_entry}
use Rattle.decision_cache.specs.Recent.{has, without, noted}
use Rattle.decision_cache.proofs.Lists.{take_few, length-without, length-without-le, without-none, noted-all}

module _ {K : Type 0} where
  pub length-keys : (es : List (K × ⊤)) → length (keys_of es) ≡ length es
  length-keys [] = refl
  length-keys (e ∷ es) = ap suc (length-keys es)

module _ {K : Type 0} (eq : K → K → Bool) where
  pub keys-remove : (k : K) (es : List (K × ⊤)) → keys_of (remove_entry (eq k) es) ≡ without eq k (keys_of es)
  keys-remove k [] = refl
  keys-remove k (e ∷ es) = by_same (eq k e.0) (keys-remove k es)
    where
      by_same : (b : Bool) → keys_of (remove_entry (eq k) es) ≡ without eq k (keys_of es) → keys_of (cond b es (e ∷ remove_entry (eq k) es)) ≡ cond b (keys_of es) (e.0 ∷ without eq k (keys_of es))
      by_same true rest = refl
      by_same false rest = ap (λ (l : List K). e.0 ∷ l) rest

  pub has-lookup : (k : K) (es : List (K × ⊤)) → is_some (lookup (eq k) es) ≡ has eq k (keys_of es)
  has-lookup k [] = refl
  has-lookup k (e ∷ es) = by_same (eq k e.0) (has-lookup k es)
    where
      by_same : (b : Bool) → is_some (lookup (eq k) es) ≡ has eq k (keys_of es) → is_some (cond b (Some e.1) (lookup (eq k) es)) ≡ (b || has eq k (keys_of es))
      by_same true rest = refl
      by_same false rest = rest

  has-entry : (k : K) (es : List (K × ⊤)) → is_some (lookup_entry (eq k) es) ≡ has eq k (keys_of es)
  has-entry k [] = refl
  has-entry k (e ∷ es) = by_same (eq k e.0) (has-entry k es)
    where
      by_same : (b : Bool) → is_some (lookup_entry (eq k) es) ≡ has eq k (keys_of es) → is_some (cond b (Some e) (lookup_entry (eq k) es)) ≡ (b || has eq k (keys_of es))
      by_same true rest = refl
      by_same false rest = rest

module _ {K : Type 0} (eq : K → K → Bool) (laws : IsEquivalence eq) (decides : (x y : K) → eq x y ≡ true → x ≡ y) where
  -- the pair that passes has the id itself
  own_key : (k : K) (es : List (K × ⊤)) (e : K × ⊤) → lookup_entry (eq k) es ≡ Some e → e.0 ≡ k
  own_key k es e found = sym (decides k e.0 (Contains-lookup_entry (eq k) es e found).1)

  -- a put, where there is room
  put_keys : (c : LruCache K ⊤) (k : K) (v : ⊤) → length c.entries < c.cap → keys_of (put_entries eq c k v) ≡ k ∷ without eq k (keys_of c.entries)
  put_keys c k v room = by_found (lookup_entry (eq k) c.entries) refl
    where
      by_found : (o : Option (K × ⊤)) → lookup_entry (eq k) c.entries ≡ o → keys_of (option_map_or (λ e. (e.0, v) ∷ remove_entry (eq k) c.entries) o ((k, v) ∷ take (c.cap - 1) c.entries)) ≡ k ∷ without eq k (keys_of c.entries)
      by_found None found =
          let none : has eq k (keys_of c.entries) ≡ false = sym (has-entry eq k c.entries) ∙ ap is_some found in
          ap (λ (es : List (K × ⊤)). k ∷ keys_of es) (take_all (c.cap - 1) c.entries (omega (arith, room)))
          ∙ ap (λ (l : List K). k ∷ l) (sym (without-none eq laws k (keys_of c.entries) none))
      by_found (Some e) found =
          ap (λ (x : K). x ∷ keys_of (remove_entry (eq k) c.entries)) (own_key k c.entries e found)
          ∙ ap (λ (l : List K). k ∷ l) (keys-remove eq k c.entries)

  -- it makes one more at most
  pub put_length : (c : LruCache K ⊤) (k : K) (v : ⊤) (size : ℕ) → length c.entries ≤ size → size < c.cap → length (put_entries eq c k v) ≤ suc size
  put_length c k v size fits room =
      let keys = ap length (put_keys c k v (omega (arith, fits, room))) in
      let left = length-without-le eq laws k (keys_of c.entries) in
      let all = length-keys (put_entries eq c k v) in
      let had = length-keys c.entries in
      omega (arith, keys, left, all, had, fits)

  -- with as many as there may be nothing leaves
  pub put_fits : (c : LruCache K ⊤) (k : K) (v : ⊤) (size : ℕ) → length c.entries ≤ size → size < c.cap → length (put_entries eq c k v) ≤ size → keys_of (put_entries eq c k v) ≡ noted eq size k (keys_of c.entries)
  put_fits c k v size fits room few =
      let keys = put_keys c k v (omega (arith, fits, room)) in
      sym (take_all size (keys_of (put_entries eq c k v)) (subst (λ n. n ≤ size) (sym (length-keys (put_entries eq c k v))) few))
      ∙ ap (take size) keys

  -- with one more the last leaves
  pub put_trims : (c : LruCache K ⊤) (k : K) (v : ⊤) (size : ℕ) → length c.entries ≤ size → size < c.cap → size < length (put_entries eq c k v) → keys_of (take (length (put_entries eq c k v) - 1) (put_entries eq c k v)) ≡ noted eq size k (keys_of c.entries)
  put_trims c k v size fits room many =
      let most = put_length c k v size fits room in
      let long : length (put_entries eq c k v) - 1 ≡ size = omega (arith, most, many) in
      ap (λ n. keys_of (take n (put_entries eq c k v))) long
      ∙ (sym (take-map (λ (e : K × ⊤). e.0) size (put_entries eq c k v))
      ∙ ap (take size) (put_keys c k v (omega (arith, fits, room))))

  -- what a cache is after its id went first: within its size, with room, and of these ids
  abbrev pub IsAfter : LruCache K ⊤ → K → ℕ → LruCache K ⊤ → Type 0
  IsAfter c k size d = (length d.entries ≤ size) × (size < d.cap) × (keys_of d.entries ≡ noted eq size k (keys_of c.entries))

  pub put_fitted : (c d : LruCache K ⊤) (k : K) (v : ⊤) (size : ℕ) → length c.entries ≤ size → size < c.cap → d ≡ lru_cache (put_entries eq c k v) c.cap → length d.entries ≤ size → IsAfter c k size d
  put_fitted c d k v size fits room is few =
      subst (λ (x : LruCache K ⊤). length x.entries ≤ size → IsAfter c k size x) (sym is) (λ le. (le, room, put_fits c k v size fits room le)) few

  pub put_trimmed : (c d e : LruCache K ⊤) (k : K) (v : ⊤) (size : ℕ) → length c.entries ≤ size → size < c.cap → d ≡ lru_cache (put_entries eq c k v) c.cap → e ≡ lru_cache (take (length d.entries - 1) d.entries) d.cap → size < length d.entries → IsAfter c k size e
  put_trimmed c d e k v size fits room is cut many =
      subst (IsAfter c k size) (sym cut) (subst (λ (x : LruCache K ⊤). size < length x.entries → IsAfter c k size (lru_cache (take (length x.entries - 1) x.entries) x.cap)) (sym is) at_put many)
    where
      at_put : size < length (put_entries eq c k v) → IsAfter c k size (lru_cache (take (length (put_entries eq c k v) - 1) (put_entries eq c k v)) c.cap)
      at_put more =
          let most = put_length c k v size fits room in
          let few = take_few (length (put_entries eq c k v) - 1) (put_entries eq c k v) in
          (omega (arith, most, few), room, put_trims c k v size fits room more)

  promoted_keys : (es : List (K × ⊤)) (k : K) → has eq k (keys_of es) ≡ true → keys_of (promoted (eq k) es) ≡ k ∷ without eq k (keys_of es)
  promoted_keys es k there = by_found (lookup_entry (eq k) es) refl
    where
      by_found : (o : Option (K × ⊤)) → lookup_entry (eq k) es ≡ o → keys_of (option_map_or (λ e. e ∷ remove_entry (eq k) es) o es) ≡ k ∷ without eq k (keys_of es)
      by_found None found = absurd (let none : has eq k (keys_of es) ≡ false = sym (has-entry eq k es) ∙ ap is_some found in cc)
      by_found (Some e) found =
          ap (λ (x : K). x ∷ keys_of (remove_entry (eq k) es)) (own_key k es e found)
          ∙ ap (λ (l : List K). k ∷ l) (keys-remove eq k es)

  -- a promotion of an id that is there
  pub promoted_notes : (es : List (K × ⊤)) (k : K) (size : ℕ) → has eq k (keys_of es) ≡ true → length es ≤ size → keys_of (promoted (eq k) es) ≡ noted eq size k (keys_of es)
  promoted_notes es k size there fits =
      promoted_keys es k there
      ∙ sym (noted-all eq laws size k (keys_of es) there (subst (λ n. n ≤ size) (sym (length-keys es)) fits))

  pub promoted_length : (es : List (K × ⊤)) (k : K) → has eq k (keys_of es) ≡ true → length (promoted (eq k) es) ≡ length es
  promoted_length es k there =
      sym (length-keys (promoted (eq k) es))
      ∙ (ap length (promoted_keys es k there)
      ∙ (length-without eq laws k (keys_of es) there ∙ length-keys es))

  pub promoted_after : (c d : LruCache K ⊤) (k : K) (size : ℕ) → has eq k (keys_of c.entries) ≡ true → length c.entries ≤ size → size < c.cap → d ≡ lru_cache (promoted (eq k) c.entries) c.cap → IsAfter c k size d
  promoted_after c d k size there fits room is =
      subst (IsAfter c k size) (sym is) (subst (λ n. n ≤ size) (sym (promoted_length c.entries k there)) fits, room, promoted_notes c.entries k size there fits)
