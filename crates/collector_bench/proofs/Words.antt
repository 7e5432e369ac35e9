-- What lists of so many words ask for.
use Rattle.std.proofs.Common.{◌≡◌, ℕ, List, [], ◌∷◌, ◌⊎◌, inl, inr, codes, map, length, sym, subst, arith}
use Rattle.collector_bench.specs.Task.{TaskData, check_stored, Asks, nothing_named, codec, prepare, edge, codec_named, prepare_named, edge_named, IsCount, count_of, most_rounds, most_policies}

pub no_words : {X : Type 0} (view : X → List ℕ) (xs : List X) → length xs ≡ 0 → Asks (map view xs) check_stored
no_words view [] none = nothing_named
no_words view (x ∷ xs) none = absurd (omega arith)

-- three words ask for rounds of what the first of them names
pub of_three : {words : List (List ℕ)} {asked : TaskData} → Asks words asked → (name path word : List ℕ) → words ≡ name ∷ path ∷ word ∷ []
    → IsCount most_rounds word × ((name ≡ codes "codec") ⊎ (name ≡ codes "edge"))
of_three nothing_named name path word are = absurd (cc)
of_three (codec_named {rounds = digits} is) name path word are =
    let same : digits ≡ word = cc in
    let named : name ≡ codes "codec" = cc in
    (subst (IsCount most_rounds) same is, inl named)
of_three (prepare_named is few) name path word are = absurd (cc)
of_three (edge_named {rounds = digits} is) name path word are =
    let same : digits ≡ word = cc in
    let named : name ≡ codes "edge" = cc in
    (subst (IsCount most_rounds) same is, inr named)

-- four ask for bodies that are made ready
pub of_four : {words : List (List ℕ)} {asked : TaskData} → Asks words asked → (name path word more : List ℕ)
    → words ≡ name ∷ path ∷ word ∷ more ∷ [] → (name ≡ codes "prepare") × IsCount most_rounds word × IsCount most_policies more
of_four nothing_named name path word more are = absurd (cc)
of_four (codec_named is) name path word more are = absurd (cc)
of_four (prepare_named {rounds = digits} {policies = others} is few) name path word more are =
    let named : name ≡ codes "prepare" = cc in
    let same : digits ≡ word = cc in
    let same_policies : others ≡ more = cc in
    (named, subst (IsCount most_rounds) same is, subst (IsCount most_policies) same_policies few)
of_four (edge_named is) name path word more are = absurd (cc)

-- ---- what is asked for, by words that are known

pub asks_codec : (name path word : List ℕ) (n : ℕ) → name ≡ codes "codec" → IsCount most_rounds word → n ≡ count_of word
    → Asks (name ∷ path ∷ word ∷ []) (codec path n)
asks_codec name path word n named is value =
    subst (λ m. Asks (name ∷ path ∷ word ∷ []) (codec path m)) (sym value)
    (subst (λ w. Asks (w ∷ path ∷ word ∷ []) (codec path (count_of word))) (sym named) (codec_named is))

pub asks_edge : (name path word : List ℕ) (n : ℕ) → name ≡ codes "edge" → IsCount most_rounds word → n ≡ count_of word
    → Asks (name ∷ path ∷ word ∷ []) (edge path n)
asks_edge name path word n named is value =
    subst (λ m. Asks (name ∷ path ∷ word ∷ []) (edge path m)) (sym value)
    (subst (λ w. Asks (w ∷ path ∷ word ∷ []) (edge path (count_of word))) (sym named) (edge_named is))

pub asks_prepare : (name path word more : List ℕ) (n k : ℕ) → name ≡ codes "prepare" → IsCount most_rounds word
    → IsCount most_policies more → n ≡ count_of word → k ≡ count_of more → Asks (name ∷ path ∷ word ∷ more ∷ []) (prepare path n k)
asks_prepare name path word more n k named is few value policies =
    subst (λ m. Asks (name ∷ path ∷ word ∷ more ∷ []) (prepare path m k)) (sym value)
    (subst (λ m. Asks (name ∷ path ∷ word ∷ more ∷ []) (prepare path (count_of word) m)) (sym policies)
    (subst (λ w. Asks (w ∷ path ∷ word ∷ more ∷ []) (prepare path (count_of word) (count_of more))) (sym named) (prepare_named is few)))
