-- Spans with the keys of the one before them, put into a block.
use Rattle.std.proofs.Common.{◌≡◌, ◌&&◌, ℕ, zero, suc, ◌+◌, ◌<◌, true, List, [], ◌∷◌, ◌++◌, length, map, take, drop, get_or, flat_map, Option, Some, None, nat_eq, refl, sym, ap, ◌∙◌, arith, append_assoc, append-nil}
use Rattle.std.specs.Borrow.{Bor}
use Rattle.std.specs.List.{AllByRecursion}
use Rattle.std.proofs.lemmas.Bool.{and_parts, eqb-true}
use Rattle.std.proofs.lemmas.Grind.{flat_map-append}
use Rattle.std.proofs.lemmas.List.{map-append, take-append-drop}
use Rattle.span_pool.specs.declared.keys.TextKeys.{TextKeys}
use Rattle.span_pool.specs.Stored.{StoredData, same_key, same_keys, is_like}
use Rattle.span_batcher.specs.Blocks.{BlockData, with_text, spread}

one_same : (r q : Option ℕ) → same_key r q ≡ true → r ≡ q
one_same None None h = refl
one_same (Some m) (Some n) h = ap Some (eqb-true m n h)
one_same _ _ h = cc

keys_same : (a b : TextKeys) → same_keys a b ≡ true → a ≡ b
keys_same a b h =
    let one = and_parts (same_key a.resource b.resource) (same_key a.resource_schema_url b.resource_schema_url && (same_key a.scope b.scope && same_key a.scope_schema_url b.scope_schema_url)) h in
    let two = and_parts (same_key a.resource_schema_url b.resource_schema_url) (same_key a.scope b.scope && same_key a.scope_schema_url b.scope_schema_url) one.1 in
    let three = and_parts (same_key a.scope b.scope) (same_key a.scope_schema_url b.scope_schema_url) two.1 in
    let resource = one_same a.resource b.resource one.0 in
    let resource_url = one_same a.resource_schema_url b.resource_schema_url two.0 in
    let scope = one_same a.scope b.scope three.0 in
    let scope_url = one_same a.scope_schema_url b.scope_schema_url three.1 in
    λ i. record { resource = resource i; resource_schema_url = resource_url i; scope = scope i; scope_schema_url = scope_url i }

-- a span that is like another has its keys
like_is : (span first : StoredData) → is_like span first ≡ true → span ≡ with_text first span.text
like_is span first h =
    let both = and_parts (nat_eq span.owner first.owner) (same_keys span.keys first.keys) h in
    let owner : span.owner ≡ first.owner = eqb-true span.owner first.owner both.0 in
    let keys : span.keys ≡ first.keys = keys_same span.keys first.keys both.1 in
    λ i. record { owner = owner i; keys = keys i; text = span.text }

abbrev IsAlike : StoredData → Bor StoredData → Type 0
IsAlike first span = span.now ≡ with_text first span.now.text

grown : (first : StoredData) (spans : List (Bor StoredData)) (i : ℕ) (span : Bor StoredData) → i < length spans → span ≡ get_or spans i span → is_like span.now first ≡ true
    → AllByRecursion (IsAlike first) (take i spans) → AllByRecursion (IsAlike first) (take (suc i) spans)
grown first [] i span within at is so_far = absurd (omega arith)
grown first (x ∷ xs) zero span within at is so_far = (like_is x.now first (ap (λ (s : Bor StoredData). is_like s.now first) (sym at) ∙ is), tt)
grown first (x ∷ xs) (suc i) span within at is so_far = (so_far.0, grown first xs i span (omega arith) at is so_far.1)

pub like_more : (first : StoredData) (spans : List (Bor StoredData)) (i : ℕ) (span : Bor StoredData) → i < length spans → span ≡ get_or spans i span → is_like span.now first ≡ true
    → AllByRecursion (IsAlike first) (take i spans) → AllByRecursion (IsAlike first) (take (i + 1) spans)
like_more first spans i span within at is so_far = let one : i + 1 ≡ suc i = omega arith in rw one (grown first spans i span within at is so_far)

-- spans that are alike are those of a block
others_spread : (first : StoredData) (spans : List (Bor StoredData)) → AllByRecursion (IsAlike first) spans → map (with_text first) (map (λ (span : Bor StoredData). span.now.text) spans) ≡ map (λ (span : Bor StoredData). span.now) spans
others_spread first [] alike = refl
others_spread first (span ∷ spans) alike =
    let one = sym alike.0 in
    let rest = others_spread first spans alike.1 in
    λ i. one i ∷ rest i

-- a block more, and fewer spans left
pub block_more : (blocks new : List BlockData) (block : BlockData) (first : Bor StoredData) (left behind others rest : List (Bor StoredData)) (whole : List StoredData) (count : ℕ)
    → left ≡ first ∷ behind → others ≡ take count behind → rest ≡ drop count behind → AllByRecursion (IsAlike first.now) (take count behind)
    → block.first ≡ first.now → block.others ≡ map (λ (span : Bor StoredData). span.now.text) others → new ≡ blocks ++ (block ∷ [])
    → flat_map spread blocks ++ map (λ (span : Bor StoredData). span.now) left ≡ whole → flat_map spread new ++ map (λ (span : Bor StoredData). span.now) rest ≡ whole
block_more blocks new block first left behind others rest whole count at front back alike is_first is_others pushed so_far =
    let now : Bor StoredData → StoredData = λ span. span.now in
    let block_is : block ≡ record { first = first.now; others = map (λ (span : Bor StoredData). span.now.text) others } = λ i. record { first = is_first i; others = is_others i } in
    let texts : map (with_text first.now) (map (λ (span : Bor StoredData). span.now.text) others) ≡ map now others = ap (λ (xs : List (Bor StoredData)). map (with_text first.now) (map (λ (span : Bor StoredData). span.now.text) xs)) front ∙ (others_spread first.now (take count behind) alike ∙ ap (map now) (sym front)) in
    let spans : spread block ≡ now first ∷ map now others = ap spread block_is ∙ ap (λ (xs : List StoredData). now first ∷ xs) texts in
    let parts : map now others ++ map now rest ≡ map now behind = sym (map-append now others rest) ∙ ap (map now) ((λ i. front i ++ back i) ∙ take-append-drop count behind) in
    let step : spread block ++ map now rest ≡ map now left = ap (λ (xs : List StoredData). xs ++ map now rest) spans ∙ (ap (λ (xs : List StoredData). now first ∷ xs) parts ∙ ap (map now) (sym at)) in
    let one : flat_map spread new ≡ flat_map spread blocks ++ spread block = ap (flat_map spread) pushed ∙ (flat_map-append spread blocks (block ∷ []) ∙ ap (λ (xs : List StoredData). flat_map spread blocks ++ xs) (append-nil (spread block))) in
    ap (λ (xs : List StoredData). xs ++ map now rest) one ∙ (append_assoc (flat_map spread blocks) (spread block) (map now rest) ∙ (ap (λ (xs : List StoredData). flat_map spread blocks ++ xs) step ∙ so_far))
