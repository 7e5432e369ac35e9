-- How many bytes numbers and fields take.
use Rattle.std.proofs.Common.{◌≡◌, ℕ, zero, suc, ◌+◌, ◌-◌, ◌*◌, ◌/◌, ◌%◌, ◌^◌, ◌<◌, ◌≤◌, min, List, [], ◌∷◌, ◌++◌, length, refl, sym, ap, ◌∙◌, arith, inl, inr, length-append, append_assoc}
use Rattle.std.proofs.lemmas.Bool.{cases_lt}
use Rattle.std.proofs.Math.Nat.{pow-suc}
use Rattle.pb_wire.specs.declared.field.WireType.TheVariants as types
use Rattle.pb_wire.specs.Text.{groups, varint_text, tag_text}
use Rattle.pb_wire.proofs.Written.{groups_one, groups_more}
use Rattle.otlp_trace.specs.Text.{bytes_field, some_bytes}
use Rattle.otlp_trace.proofs.Spelled.{unless_full}
use Rattle.span_batcher.specs.Blocks.{capped, field_size}

-- what is left of a number after so many groups
pub record Sizing (number left more : ℕ) : Type 0 where
  pub early : more ≤ 9
  pub small : left < 128 ^ (10 - more)
  pub sized : more + length (groups (9 - more) left) ≡ length (groups 9 number)

pub sizing_starts : (number : ℕ) → number < 2 ^ 64 → Sizing number number 0
sizing_starts number fits = record { early = omega arith; small = omega arith; sized = omega arith }

-- a number that goes on has room
more_room : (k n : ℕ) → n < 128 ^ k → 128 ≤ n → (j : ℕ) × (k ≡ suc (suc j)) × (n / 128 < 128 ^ suc j)
more_room zero n lt le = absurd (omega arith)
more_room (suc zero) n lt le = absurd (omega arith)
more_room (suc (suc j)) n lt le = (j, refl, let lt' : n < 128 ^ suc j * 128 = rw (← pow-suc 128 (suc j)) lt in omega arith)

pub sizing_more : (number left more : ℕ) → Sizing number left more → 128 ≤ left → Sizing number (left / 128) (more + 1)
sizing_more number left more so_far le =
    let room = more_room (10 - more) left so_far.small le in
    let early : more ≤ 8 = omega (arith, room.1, so_far.early) in
    let k : 9 - more ≡ suc (9 - (more + 1)) = omega arith in
    let j : 10 - (more + 1) ≡ suc room.0 = omega (arith, room.1) in
    let next : length (groups (9 - more) left) ≡ suc (length (groups (9 - (more + 1)) (left / 128))) = ap (λ (n : ℕ). length (groups n left)) k ∙ ap length (groups_more (9 - (more + 1)) left le) in
    record {
      early = omega arith;
      small = rw j room.2;
      sized = omega (arith, next, so_far.sized);
    }

pub sizing_ends : (number left more : ℕ) → Sizing number left more → left < 128 → more + 1 ≡ length (varint_text number)
sizing_ends number left more so_far small = omega (arith, ap length (groups_one (9 - more) left small), so_far.sized)

-- a length of two bytes, behind the tag of `spans` in a ScopeSpans
two_groups : (n : ℕ) → 128 ≤ n → n < 16384 → varint_text n ≡ (n % 128 + 128) ∷ n / 128 ∷ []
two_groups n le lt = groups_more 8 n le ∙ ap (λ (t : List ℕ). (n % 128 + 128) ∷ t) (groups_one 8 (n / 128) (omega (arith, lt)))

pub spans_field : (bs : List ℕ) → 128 ≤ length bs → length bs < 16384 → (18 ∷ (length bs % 128 + 128) ∷ length bs / 128 ∷ []) ++ bs ≡ bytes_field 2 bs
spans_field bs le lt =
    let tag : tag_text 2 types.Bytes ≡ 18 ∷ [] = groups_one 9 18 (omega arith) in
    sym ((λ j. tag j ++ (two_groups (length bs) le lt j ++ bs)))

-- the tag of a number below 16 has one byte
tag_size : (n : ℕ) → n < 16 → length (tag_text n types.Bytes) ≡ 1
tag_size n small = let below : 8 * n + 2 < 128 = omega arith in ap length (groups_one 9 (8 * n + 2) below)

pub field_length : (n : ℕ) (bs : List ℕ) → n < 16 → length (bytes_field n bs) ≡ field_size (length bs)
field_length n bs small = omega (arith, length-append (tag_text n types.Bytes) (varint_text (length bs) ++ bs), length-append (varint_text (length bs)) bs, tag_size n small)

pub url_some : (bs : List ℕ) → 0 < length bs → length (some_bytes 3 bs) ≡ field_size (length bs)
url_some [] some = absurd (omega arith)
url_some (b ∷ bs) some = ap length (unless_full b bs (bytes_field 3 (b ∷ bs))) ∙ field_length 3 (b ∷ bs) (omega arith)

-- a field of bytes whose number was capped
field_capped : (held n : ℕ) → held ≡ capped n → capped (field_size held) ≡ capped (field_size n)
field_capped held n is =
    elim (cases_lt n (2 ^ 64 - 1)) [
      | inl lt ↦ let same : held ≡ n = omega arith in ap (λ (k : ℕ). capped (field_size k)) same
      | inr le ↦ let most : held ≡ 2 ^ 64 - 1 = omega arith in omega arith
    ]

-- and of content whose length was
pub field_of : (n : ℕ) (content : List ℕ) (held : ℕ) → n < 16 → held ≡ capped (length content) → capped (field_size held) ≡ capped (length (bytes_field n content))
field_of n content held small is = field_capped held (length content) is ∙ ap capped (sym (field_length n content small))

-- a part more
pub part_more : (size part new a b : ℕ) → part ≡ capped a → new ≡ min (size + part) (2 ^ 64 - 1) → capped (new + b) ≡ capped (size + (a + b))
part_more size part new a b is sum = omega arith

-- three parts
pub three_parts : (first second third one sum : ℕ) (a b c : List ℕ) → first ≡ capped (length a) → second ≡ capped (length b) → third ≡ capped (length c)
    → one ≡ min (first + second) (2 ^ 64 - 1) → sum ≡ min (one + third) (2 ^ 64 - 1) → sum ≡ capped (length (a ++ (b ++ c)))
three_parts first second third one sum a b c is_a is_b is_c is_one is_sum =
    let both : capped (one + length c) ≡ capped (first + (length b + length c)) = part_more first second one (length b) (length c) is_b is_one in
    let last : capped (sum + 0) ≡ capped (one + (length c + 0)) = part_more one third sum (length c) 0 is_c is_sum in
    let whole : length (a ++ (b ++ c)) ≡ length a + (length b + length c) = length-append a (b ++ c) ∙ ap (λ (n : ℕ). length a + n) (length-append b c) in
    let capped_sum : sum ≡ capped sum = omega arith in
    let front : capped (first + (length b + length c)) ≡ capped (length a + (length b + length c)) = omega arith in
    let end : capped sum ≡ capped (one + length c) = omega arith in
    capped_sum ∙ (end ∙ (both ∙ (front ∙ ap capped (sym whole))))

-- a size that counts as itself
counted_size : (size n : ℕ) → size ≡ capped n → size < 2 ^ 64 - 1 → size ≡ n
counted_size size n is below = omega arith

-- content behind its tag and its length is a field
pub behind_front : (n : ℕ) (out front new content : List ℕ) (size : ℕ) → front ≡ out ++ (tag_text n types.Bytes ++ varint_text size) → size < 2 ^ 64 - 1 → size ≡ capped (length content)
    → new ≡ front ++ content → new ≡ out ++ bytes_field n content
behind_front n out front new content size is below held made =
    let size_is : size ≡ length content = counted_size size (length content) held below in
    let tag = tag_text n types.Bytes in
    made ∙ (ap (λ bs. bs ++ content) (is ∙ ap (λ (k : ℕ). out ++ (tag ++ varint_text k)) size_is)
    ∙ (append_assoc out (tag ++ varint_text (length content)) content ∙ ap (λ bs. out ++ bs) (append_assoc tag (varint_text (length content)) content)))
