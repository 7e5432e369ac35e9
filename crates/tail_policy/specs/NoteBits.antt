-- The bits of notes: one for each leaf. This project's own rule.
use Rattle.std.proofs.Common.{◌≡◌, ◌≤◌, ◌<◌, ◌∙◌, ◌+◌, ◌*◌, ◌/◌, ◌%◌, ◌^◌, ℕ, zero, suc, Bool, true, false, ◌||◌, List, [], ◌∷◌, ◌++◌, length, refl, sym, ap, arith, pow-suc}
use Rattle.std.specs.Prelude.{bit_or}
use Rattle.std.proofs.lemmas.List.Sums.{sum_by-cons}
use Rattle.std.proofs.lemmas.List.{append_assoc, length-append}
use Rattle.std.proofs.lemmas.Nat.{or_block, or_disjoint, and_le_l, or_comm, or_lt}
use Rattle.tail_settings.specs.Policy.{LeafData, PolicyData, leaf, and, leaf_count, leaves_of}
use Rattle.tail_policy.specs.Note.{leaves_in, with_bit, bits_below, bits_of}

-- ---- `|` of numbers

-- no bit and a number
pub none_or : (n : ℕ) → bit_or 0 n ≡ n
none_or n = let none : 0 + n ≡ n = omega arith in or_disjoint 0 n (let least =
    and_le_l 0 n in omega (arith, least)) ∙ none

-- a number and no bit
pub or_none : (n : ℕ) → bit_or n 0 ≡ n
or_none n = or_comm n 0 ∙ none_or n

lowest_assoc : (r s t : ℕ) → r < 2 → s < 2 → t < 2 → bit_or (bit_or r s) t ≡ bit_or r (bit_or s t)
lowest_assoc zero s t a b c = ap (λ n. bit_or n t) (none_or s) ∙ sym (none_or (bit_or s t))
lowest_assoc (suc zero) zero t a b c = ap (λ n. bit_or n t) (or_none 1) ∙ ap (bit_or 1) (sym (none_or t))
lowest_assoc (suc zero) (suc zero) zero a b c = or_none (bit_or 1 1) ∙ ap (bit_or 1) (sym (or_none 1))
lowest_assoc (suc zero) (suc zero) (suc zero) a b c = refl
lowest_assoc (suc (suc r)) s t a b c = absurd (omega (arith, a))
lowest_assoc (suc zero) (suc (suc s)) t a b c = absurd (omega (arith, b))
lowest_assoc (suc zero) (suc zero) (suc (suc t)) a b c = absurd (omega (arith, c))

-- numbers by their halves and their lowest bits
assoc_by : (a b c r s t : ℕ) → r < 2 → s < 2 → t < 2 → bit_or (bit_or a b) c ≡ bit_or a (bit_or b c)
    → bit_or (bit_or (a * 2 + r) (b * 2 + s)) (c * 2 + t) ≡ bit_or (a * 2 + r) (bit_or (b * 2 + s) (c * 2 + t))
assoc_by a b c r s t one two three above =
    ap (λ n. bit_or n (c * 2 + t)) (or_block 1 a b r s one two)
    ∙ or_block 1 (bit_or a b) c (bit_or r s) t (or_lt 1 r s one two) three
    ∙ ap (λ n. n * 2 + bit_or (bit_or r s) t) above
    ∙ ap (λ n. bit_or a (bit_or b c) * 2 + n) (lowest_assoc r s t one two three)
    ∙ sym (or_block 1 a (bit_or b c) r (bit_or s t) one (or_lt 1 s t two three))
    ∙ ap (bit_or (a * 2 + r)) (sym (or_block 1 b c s t two three))

assoc_below : (k a b c : ℕ) → a ≤ k → bit_or (bit_or a b) c ≡ bit_or a (bit_or b c)
assoc_below zero a b c few =
    let none : a ≡ 0 = omega (arith, few) in
    rw none (ap (λ n. bit_or n c) (none_or b) ∙ sym (none_or (bit_or b c)))
assoc_below (suc k) a b c few =
    let first : a / 2 * 2 + a % 2 ≡ a = omega arith in
    let second : b / 2 * 2 + b % 2 ≡ b = omega arith in
    let third : c / 2 * 2 + c % 2 ≡ c = omega arith in
    let half : a / 2 ≤ k = omega (arith, few) in
    let all = assoc_by (a / 2) (b / 2) (c / 2) (a % 2) (b % 2) (c % 2) (omega arith) (omega arith) (omega arith)
    (assoc_below k (a / 2) (b / 2) (c / 2) half) in
    rw (first, second, third) at all

-- three numbers in any grouping
pub or_assoc : (a b c : ℕ) → bit_or (bit_or a b) c ≡ bit_or a (bit_or b c)
or_assoc a b c = assoc_below a a b c (omega arith)

-- ---- one bit a leaf

or_bit : (p q : Bool) (m n : ℕ) → bit_or (with_bit p m) (with_bit q n) ≡ with_bit (p || q) (bit_or m n)
or_bit true true m n = or_block 1 m n 1 1 (omega arith) (omega arith)
or_bit true false m n =
    let even : n * 2 ≡ n * 2 + 0 = omega arith in
    ap (bit_or (m * 2 + 1)) even ∙ or_block 1 m n 1 0 (omega arith) (omega arith)
    ∙ ap (λ r. bit_or m n * 2 + r) (or_none 1)
or_bit false true m n =
    let even : m * 2 ≡ m * 2 + 0 = omega arith in
    ap (λ r. bit_or r (n * 2 + 1)) even ∙ or_block 1 m n 0 1 (omega arith) (omega arith)
    ∙ ap (λ r. bit_or m n * 2 + r) (none_or 1)
or_bit false false m n =
    let first : m * 2 ≡ m * 2 + 0 = omega arith in
    let second : n * 2 ≡ n * 2 + 0 = omega arith in
    let sum : bit_or m n * 2 + 0 ≡ bit_or m n * 2 = omega arith in
    ap (λ r. bit_or r (n * 2)) first ∙ ap (bit_or (m * 2 + 0)) second ∙ or_block 1 m n 0 0 (omega arith) (omega arith)
    ∙ ap (λ r. bit_or m n * 2 + r) (none_or 0) ∙ sum

-- of two tests, what either says
pub or_bits : (f g : LeafData → Bool) (ls : List LeafData)
    → bit_or (bits_of f ls) (bits_of g ls) ≡ bits_of (λ l. f l || g l) ls
or_bits f g [] = none_or 0
or_bits f g (l ∷ ls) = or_bit (f l) (g l) (bits_of f ls) (bits_of g ls) ∙ ap (with_bit (f l || g l)) (or_bits f g ls)

-- tests that say the same have the same bits
pub same_bits : (f g : LeafData → Bool) → ((l : LeafData) → f l ≡ g l) → (ls : List LeafData)
    → bits_of f ls ≡ bits_of g ls
same_bits f g each [] = refl
same_bits f g each (l ∷ ls) = ap (λ b. with_bit b (bits_of f ls)) (each l) ∙ ap (with_bit (g l)) (same_bits f g each ls)

-- a test that nothing passes has no bit
pub no_bits : (ls : List LeafData) → bits_of (λ l. false) ls ≡ 0
no_bits [] = refl
no_bits (l ∷ ls) = ap (λ n. n * 2) (no_bits ls)

-- the bits of two lists stand one above the other
pub bits_below-append : (f : LeafData → Bool) (ls ms : List LeafData) (n : ℕ)
    → bits_below f (ls ++ ms) n ≡ bits_below f ls (bits_below f ms n)
bits_below-append f [] ms n = refl
bits_below-append f (l ∷ ls) ms n = ap (with_bit (f l)) (bits_below-append f ls ms n)

with_bit_least : (b : Bool) (n : ℕ) → n ≤ with_bit b n
with_bit_least true n = omega arith
with_bit_least false n = omega arith

with_bit_most : (b : Bool) (n m : ℕ) → n < m → with_bit b n < m * 2
with_bit_most true n m less = omega (arith, less)
with_bit_most false n m less = omega (arith, less)

-- bits below a number make it no smaller
pub bits_least : (f : LeafData → Bool) (ls : List LeafData) (n : ℕ) → n ≤ bits_below f ls n
bits_least f [] n = omega arith
bits_least f (l ∷ ls) n =
    let rest = bits_least f ls n in
    let whole = with_bit_least (f l) (bits_below f ls n) in
    omega (arith, rest, whole)

-- the bits of so many leaves fit so many places
pub bits_most : (f : LeafData → Bool) (ls : List LeafData) → bits_of f ls < 2 ^ length ls
bits_most f [] = omega arith
bits_most f (l ∷ ls) =
    let twice : 2 ^ suc (length ls) ≡ 2 ^ length ls * 2 = pow-suc 2 (length ls) in
    let most = with_bit_most (f l) (bits_of f ls) (2 ^ length ls) (bits_most f ls) in
    omega (arith, twice, most)

-- ---- leaves

-- the leaves of two lists
pub leaves_in-append : (ps qs : List PolicyData) → leaves_in (ps ++ qs) ≡ leaves_in ps ++ leaves_in qs
leaves_in-append [] qs = refl
leaves_in-append (leaf l ∷ ps) qs = ap (λ ls. l ∷ ls) (leaves_in-append ps qs)
leaves_in-append (and ms ∷ ps) qs = ap (λ ls. ms ++ ls) (leaves_in-append ps qs)
    ∙ sym (append_assoc ms (leaves_in ps) (leaves_in qs))

-- there are as many leaves as settings count
pub leaves_in-count : (ps : List PolicyData) → length (leaves_in ps) ≡ leaves_of ps
leaves_in-count [] = refl
leaves_in-count (leaf l ∷ ps) =
    let rest = leaves_in-count ps in
    let sum : leaves_of (leaf l ∷ ps) ≡ 1 + leaves_of ps = sum_by-cons leaf_count (leaf l) ps in
    let one_more : suc (length (leaves_in ps)) ≡ 1 + leaves_of ps = omega (arith, rest) in
    one_more ∙ sym sum
leaves_in-count (and ms ∷ ps) =
    length-append ms (leaves_in ps) ∙ ap (λ n. length ms + n) (leaves_in-count ps)
    ∙ sym (sum_by-cons leaf_count (and ms) ps)
