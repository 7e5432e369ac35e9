-- A line of the input, one more byte at a time.
use Rattle.std.proofs.Common.{◌≡◌, ℕ, ◌+◌, ◌-◌, ◌≤◌, ◌<◌, ◌==◌, true, false, List, [], ◌∷◌, ◌++◌, length, take, drop, Option, Some, None, IfSome, refl, sym, ap, subst, ◌∙◌, append_assoc, length-append, arith}
use Rattle.std.specs.Io.BufRead.{drop_through}
use Rattle.std.proofs.Math.Seq.{take-nil}
use Rattle.std.proofs.lemmas.List.{take-append-drop, take-append-le, take_all, length-drop}
use Rattle.service_runtime.specs.Input.{line_in, line_room, Comes}
use Rattle.service_runtime.specs.declared.input.ReadResult.TheVariants.{Byte}

-- of a known text these bytes of its first line were read, of which the first are kept, and the rest is left
pub record Part (text : List ℕ) (now : Option (List ℕ)) (kept : List ℕ) : Type 0 where
  pub front : List ℕ
  pub rest : List ℕ
  pub left : now ≡ Some rest
  pub keeps : kept ≡ take line_room front
  pub line : line_in text ≡ front ++ line_in rest
  pub behind : drop_through 10 text ≡ drop_through 10 rest
  pub long : length text ≡ length front + length rest

-- the same where the text is known
abbrev pub Reading : Option (List ℕ) → Option (List ℕ) → List ℕ → Type 0
Reading before now kept = IfSome before (λ text. Part text now kept)

pub reading_none : (before : Option (List ℕ)) (kept : List ℕ) → kept ≡ [] → Reading before before kept
reading_none None kept none = tt
reading_none (Some text) kept none = record {
  front = [];
  rest = text;
  left = refl;
  keeps = none ∙ sym (take-nil line_room);
  line = refl;
  behind = refl;
  long = omega arith;
}

line_further : (b : ℕ) (rest : List ℕ) → (b == 10) ≡ false → line_in (b ∷ rest) ≡ b ∷ line_in rest
line_further b rest other = rw other refl

behind_further : (b : ℕ) (rest : List ℕ) → (b == 10) ≡ false → drop_through 10 (b ∷ rest) ≡ drop_through 10 rest
behind_further b rest other = rw other refl

line_ended : (b : ℕ) (rest : List ℕ) → (b == 10) ≡ true → line_in (b ∷ rest) ≡ []
line_ended b rest feed = rw feed refl

-- what was left when this came
next_of : (rest : List ℕ) (now after : Option (List ℕ)) (b : ℕ) → now ≡ Some rest → Comes now after (Byte b) → (more : List ℕ) × (rest ≡ b ∷ more) × (after ≡ Some more)
next_of rest now after b is came = subst (λ (n : Option (List ℕ)). IfSome n (λ text. (more : List ℕ) × (text ≡ b ∷ more) × (after ≡ Some more))) is came

pub reading_more : (before now after : Option (List ℕ)) (kept more : List ℕ) (b : ℕ) → Reading before now kept → Comes now after (Byte b) → (b == 10) ≡ false
    → ((front : List ℕ) → kept ≡ take line_room front → more ≡ take line_room (front ++ b ∷ [])) → Reading before after more
reading_more None now after kept more b r came other keep = tt
reading_more (Some text) now after kept more b r came other keep =
    let next = next_of r.rest now after b r.left came in
    record {
      front = r.front ++ b ∷ [];
      rest = next.0;
      left = next.2;
      keeps = keep r.front r.keeps;
      line = r.line ∙ (ap (λ l. r.front ++ line_in l) next.1 ∙ (ap (λ l. r.front ++ l) (line_further b next.0 other) ∙ sym (append_assoc r.front (b ∷ []) (line_in next.0))));
      behind = r.behind ∙ (ap (drop_through 10) next.1 ∙ behind_further b next.0 other);
      long = omega (arith, r.long, ap length next.1, length-append r.front (b ∷ []));
    }

-- of what is kept of so many bytes
parts_of : (front kept : List ℕ) → kept ≡ take 4100 front → length kept + (length front - 4100) ≡ length front
parts_of front kept is =
    omega (arith, ap length is, length-append (take 4100 front) (drop 4100 front), length-drop 4100 front, ap length (take-append-drop 4100 front))

pub kept_one : (front old new : List ℕ) (b : ℕ) → old ≡ take line_room front → length old < 4100 → new ≡ old ++ b ∷ [] → new ≡ take line_room (front ++ b ∷ [])
kept_one front old new b is room pushed =
    let short : length front < 4100 = omega (arith, parts_of front old is, room) in
    let all : length (front ++ b ∷ []) ≤ 4100 = omega (arith, length-append front (b ∷ []), short) in
    pushed ∙ (ap (λ l. l ++ b ∷ []) (is ∙ take_all 4100 front (omega (arith, short))) ∙ sym (take_all 4100 (front ++ b ∷ []) all))

pub kept_none : (front old : List ℕ) (b : ℕ) → old ≡ take line_room front → length old ≡ 4100 → old ≡ take line_room (front ++ b ∷ [])
kept_none front old b is full =
    let long : 4100 ≤ length front = omega (arith, parts_of front old is, full) in
    is ∙ sym (take-append-le 4100 front (b ∷ []) long)
