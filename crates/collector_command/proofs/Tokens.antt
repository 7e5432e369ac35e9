-- Tokens are what RFC 6750 writes so.
use Rattle.std.proofs.Common.{◌≡◌, ℕ, zero, suc, ◌≤◌, inl, inr, Bool, true, false, ◌&&◌, ◌==◌, if◌then◌else◌, List, [], ◌∷◌, ◌++◌, length, replicate, refl, sym, ap, ◌∙◌, arith}
use Rattle.std.specs.List.{list_all}
use Rattle.std.proofs.lemmas.Bool.Decides.{eqb_tells}
use Rattle.collector_command.specs.Token.{AreAsWritten, IsB64Token, goes_on, is_token, is_token_byte}

-- both of two tests that hold together
both : (a b : Bool) → (a && b) ≡ true → (a ≡ true) × (b ≡ true)
both true b holds = (refl, holds)
both false b holds = absurd cc

together : (a b : Bool) → a ≡ true → b ≡ true → (a && b) ≡ true
together true b first second = second
together false b first second = absurd cc

-- the branch that is taken
taken : (is x y : Bool) → is ≡ true → (if is then x else y) ≡ true → x ≡ true
taken true x y so holds = holds
taken false x y so holds = absurd cc

left : (is x y : Bool) → is ≡ false → (if is then x else y) ≡ true → y ≡ true
left true x y so holds = absurd cc
left false x y so holds = holds

other : (is x y : Bool) → is ≡ false → y ≡ true → (if is then x else y) ≡ true
other true x y so holds = absurd cc
other false x y so holds = holds

-- behind an `=` stand no others
padding : (bytes : List ℕ) → goes_on true bytes ≡ true → bytes ≡ replicate (length bytes) 61
padding [] holds = refl
padding (byte ∷ bytes) holds =
    elim (eqb_tells byte 61) [
      | inl is ↦ let rest = padding bytes (taken (byte == 61) (goes_on true bytes) false is.0 holds) in
          ap (λ first. first ∷ bytes) is.1 ∙ ap (λ more. 61 ∷ more) rest
      | inr is ↦ absurd (let f : false ≡ true = left (byte == 61) (goes_on true bytes) false is.0 holds in cc)
    ]

-- what stands behind a token's first byte
abbrev Behind : List ℕ → Type 0
Behind bytes =
    (front : List ℕ) × (count : ℕ) × (bytes ≡ front ++ replicate count 61) × (list_all is_token_byte front ≡ true)

behind : (bytes : List ℕ) → goes_on false bytes ≡ true → Behind bytes
behind [] holds = ([], 0, refl, refl)
behind (byte ∷ bytes) holds =
    elim (eqb_tells byte 61) [
      | inl is ↦ let rest = padding bytes (taken (byte == 61) _ _ is.0 holds) in
          ([], suc (length bytes), ap (λ first. first ∷ bytes) is.1 ∙ ap (λ more. 61 ∷ more) rest, refl)
      | inr is ↦ let split = both (is_token_byte byte) (goes_on false bytes) (left (byte == 61) _ _ is.0 holds) in
          let more = behind bytes split.1 in (
            byte ∷ more.0,
            more.1,
            ap (λ rest. byte ∷ rest) more.2,
            together (is_token_byte byte) (list_all is_token_byte more.0) split.0 more.3,
          )
    ]

-- no `=` is among the bytes in front
apart : (byte : ℕ) → is_token_byte byte ≡ true → (byte == 61) ≡ false
apart byte holds =
    elim (eqb_tells byte 61) [
      | inl is ↦ absurd (let f : true ≡ false = sym holds ∙ ap is_token_byte is.1 in cc)
      | inr is ↦ is.0
    ]

all_padding : (count : ℕ) (padded : Bool) → goes_on padded (replicate count 61) ≡ true
all_padding zero padded = refl
all_padding (suc count) padded = all_padding count true

onward : (front : List ℕ) (count : ℕ) → list_all is_token_byte front ≡ true → goes_on false (front ++ replicate count 61) ≡ true
onward [] count holds = all_padding count false
onward (byte ∷ front) count holds =
    let split = both (is_token_byte byte) (list_all is_token_byte front) holds in
    other (byte == 61) _ _ (apart byte split.0) (together (is_token_byte byte) _ split.0 (onward front count split.1))

written : (text : List ℕ) → is_token text ≡ true → IsB64Token text
written [] holds = absurd cc
written (byte ∷ bytes) holds =
    let split = both (is_token_byte byte) (goes_on false bytes) holds in
    let more = behind bytes split.1 in
    record {
      front = byte ∷ more.0;
      padding = more.1;
      all = ap (λ rest. byte ∷ rest) more.2;
      some = omega arith;
      bytes = together (is_token_byte byte) (list_all is_token_byte more.0) split.0 more.3;
    }

read : (front : List ℕ) (count : ℕ) → 1 ≤ length front → list_all is_token_byte front ≡ true
    → is_token (front ++ replicate count 61) ≡ true
read [] count some holds = absurd (omega arith)
read (byte ∷ front) count some holds =
    let split = both (is_token_byte byte) (list_all is_token_byte front) holds in
    together (is_token_byte byte) _ split.0 (onward front count split.1)

pub as_written : AreAsWritten
as_written text = (written text, λ is. ap is_token is.all ∙ read is.front is.padding is.some is.bytes)
