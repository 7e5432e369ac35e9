-- The lines of a text, read in parts.
use Rattle.std.proofs.Common.{◌≡◌, ◌≢◌, ◌+◌, ◌<◌, ◌≤◌, ◌==◌, ℕ, Bool, true, cond, not, List, [], ◌∷◌, ◌++◌, length, Option, Some, None, Result, Ok, IfSome, IfOk, OnSome, All, refl, ap, sym, subst, ◌∙◌, arith}
use Rattle.std.specs.List.{onto_first}
use Rattle.std.specs.Io.KnownBytes.{Consumes, Keeps, IsAtEnd}
use Rattle.std.proofs.lemmas.List.{append-nil, append_assoc}
use Rattle.std.proofs.lemmas.List.Elements.{All-head, All-tail, All-append}
use Rattle.std.proofs.lemmas.Bool.{ne_eqb}
use Rattle.std.proofs.lemmas.Bool.Decides.{nat_tests}
use Rattle.replay_script.specs.declared.input.FragmentEnd.{FragmentEnd}
use Rattle.replay_script.specs.declared.input.FragmentEnd.TheVariants.{More, LineEnd, InputEnd}
use Rattle.replay_script.specs.Line.{lines_of}
use Rattle.replay_script.specs.Input.{TakesPart, TakesLine, ReadsOne, kept_of}
use Rattle.replay_script.proofs.Kept.{kept_more, kept_again, kept_some, kept_none}

pub line_ended : (bytes rest : List ℕ) → All (λ byte. byte ≢ 10) bytes → lines_of (bytes ++ 10 ∷ rest) ≡ bytes ∷ lines_of rest
line_ended [] rest plain = refl
line_ended (byte ∷ bytes) rest plain =
    let apart : byte ≢ 10 = All-head (λ b. b ≢ 10) byte bytes plain in
    rw (ne_eqb byte 10 apart, line_ended bytes rest (All-tail (λ b. b ≢ 10) byte bytes plain)) refl

pub line_last : (byte : ℕ) (bytes : List ℕ) → All (λ byte. byte ≢ 10) (byte ∷ bytes) → lines_of (byte ∷ bytes) ≡ (byte ∷ bytes) ∷ []
line_last byte [] plain = let apart : byte ≢ 10 = All-head (λ b. b ≢ 10) byte [] plain in rw (ne_eqb byte 10 apart) refl
line_last byte (next ∷ bytes) plain =
    let apart : byte ≢ 10 = All-head (λ b. b ≢ 10) byte (next ∷ bytes) plain in
    ap (λ lines. cond (byte == 10) ([] ∷ lines) (onto_first byte lines)) (line_last next bytes (All-tail (λ b. b ≢ 10) byte (next ∷ bytes) plain))
    ∙ rw (ne_eqb byte 10 apart) refl

onto_few : (byte n : ℕ) (lines : List (List ℕ)) → length lines ≤ 1 + n → length (onto_first byte lines) ≤ 1 + n
onto_few byte n [] few = omega arith
onto_few byte n (line ∷ lines) few = few

lines_few : (bytes rest : List ℕ) → All (λ byte. byte ≢ 10) bytes → length (lines_of (bytes ++ rest)) ≤ 1 + length (lines_of rest)
lines_few [] rest plain = omega arith
lines_few (byte ∷ bytes) rest plain =
    let apart : byte ≢ 10 = All-head (λ b. b ≢ 10) byte bytes plain in
    let few = onto_few byte (length (lines_of rest)) (lines_of (bytes ++ rest)) (lines_few bytes rest (All-tail (λ b. b ≢ 10) byte bytes plain)) in
    rw (ne_eqb byte 10 apart) few

-- so much of a line was read, and nothing behind it
pub record Reading (before now : Option (List ℕ)) (kept : List ℕ) : Type 0 where
  pub begun : IfSome before (λ text. (bytes : List ℕ) × (rest : List ℕ) × (now ≡ Some rest) × (text ≡ bytes ++ rest)
      × All (λ byte. byte ≢ 10) bytes × (kept ≡ kept_of bytes))

left : (now after : Option (List ℕ)) (rest bytes : List ℕ) → now ≡ Some rest → Consumes now after bytes → (behind : List ℕ) × (after ≡ Some behind) × (rest ≡ bytes ++ behind)
left (Some x) (Some y) rest bytes e h = let same : x ≡ rest = cc in (y, refl, sym same ∙ h)
left (Some x) None rest bytes e h = absurd h
left None after rest bytes e h = absurd (cc)

kept_on : (old part kept new : List ℕ) → kept ≡ kept_of old → new ≡ kept_of (kept ++ part) → new ≡ kept_of (old ++ part)
kept_on old part kept new was is = is ∙ ap (λ l. kept_of (l ++ part)) was ∙ kept_more old part

pub reading_more : (before now after : Option (List ℕ)) (old new : List ℕ) → Reading before now old → TakesPart now after old new More → Reading before after new
reading_more None now after old new reading part = record { begun = tt }
reading_more (Some text) now after old new reading part =
    let so_far = reading.begun in
    let behind = left now after so_far.1 part.0 so_far.2 part.3 in
    record {
      begun = (
        so_far.0 ++ part.0,
        behind.0,
        behind.1,
        so_far.3 ∙ ap (λ l. so_far.0 ++ l) behind.2 ∙ sym (append_assoc so_far.0 part.0 behind.0),
        All-append (λ b. b ≢ 10) so_far.0 part.0 so_far.4 part.1,
        kept_on so_far.0 part.0 old new so_far.5 part.2,
      );
    }

kept_rest : (now after : Option (List ℕ)) (rest : List ℕ) → now ≡ Some rest → Keeps now after → after ≡ Some rest
kept_rest (Some x) (Some y) rest is keeps = ap Some keeps ∙ is
kept_rest (Some x) None rest is keeps = absurd keeps
kept_rest None after rest is keeps = absurd (cc)

pub reading_stops : (before now after : Option (List ℕ)) (kept : List ℕ) → Reading before now kept → Keeps now after → IfSome before (λ text. ReadsOne text after)
reading_stops None now after kept reading keeps = tt
reading_stops (Some text) now after kept reading keeps =
    let so_far = reading.begun in
    let few = lines_few so_far.0 so_far.1 so_far.4 in
    (so_far.1, kept_rest now after so_far.1 so_far.2 keeps, subst (λ t. length (lines_of t) ≤ 1 + length (lines_of so_far.1)) (sym so_far.3) few)

joined : (a b c : List ℕ) → a ++ ((b ++ 10 ∷ []) ++ c) ≡ (a ++ b) ++ 10 ∷ c
joined a b c = simp append_assoc

pub reading_ended : (before now after : Option (List ℕ)) (old new : List ℕ) → Reading before now old → TakesPart now after old new LineEnd
    → IfSome before (λ text. TakesLine text after true new)
reading_ended None now after old new reading part = tt
reading_ended (Some text) now after old new reading part =
    let so_far = reading.begun in
    let behind = left now after so_far.1 (part.0 ++ 10 ∷ []) so_far.2 part.3 in
    let is : text ≡ (so_far.0 ++ part.0) ++ 10 ∷ behind.0 = so_far.3 ∙ ap (λ l. so_far.0 ++ l) behind.2 ∙ joined so_far.0 part.0 behind.0 in
    let plain = All-append (λ b. b ≢ 10) so_far.0 part.0 so_far.4 part.1 in (
      so_far.0 ++ part.0,
      behind.0,
      behind.1,
      ap lines_of is ∙ line_ended (so_far.0 ++ part.0) behind.0 plain,
      kept_on so_far.0 part.0 old new so_far.5 part.2,
    )

at_end : (now after : Option (List ℕ)) (rest behind : List ℕ) → now ≡ Some rest → after ≡ Some behind → OnSome now (IsAtEnd after) → behind ≡ []
at_end (Some x) (Some y) rest behind e f h = let same : y ≡ behind = cc in sym same ∙ h
at_end (Some x) None rest behind e f h = absurd (cc)
at_end None after rest behind e f h = absurd (cc)

filled : (new : List ℕ) → 0 < length new → not (length new == 0) ≡ true
filled new some = grind (arith, nat_tests)

last_line : (bytes : List ℕ) (text new : List ℕ) (after : Option (List ℕ)) (found : Bool) → text ≡ bytes → All (λ byte. byte ≢ 10) bytes
    → after ≡ Some [] → new ≡ kept_of bytes → found ≡ not (length new == 0) → TakesLine text after found new
last_line [] text new after found is plain end kept e =
    let none : new ≡ [] = kept ∙ kept_none [] refl in
    subst (λ f. TakesLine text after f new) (sym (e ∙ ap (λ l. not (length l == 0)) none)) (ap lines_of is)
last_line (byte ∷ bytes) text new after found is plain end kept e =
    let some = kept_some byte bytes new kept in
    let yes = filled new some in
    subst (λ f. TakesLine text after f new) (sym (e ∙ yes)) (byte ∷ bytes, [], end, ap lines_of is ∙ line_last byte bytes plain, kept)

pub reading_over : (before now after : Option (List ℕ)) (old new : List ℕ) (found : Bool) → Reading before now old → TakesPart now after old new InputEnd
    → found ≡ not (length new == 0) → IfSome before (λ text. TakesLine text after found new)
reading_over None now after old new found reading part e = tt
reading_over (Some text) now after old new found reading part e =
    let so_far = reading.begun in
    let over = part.4 refl in
    let behind = left now after so_far.1 part.0 so_far.2 part.3 in
    let none = at_end now after so_far.1 behind.0 so_far.2 behind.1 over.1 in
    let is : text ≡ so_far.0 ++ part.0 = so_far.3 ∙ ap (λ l. so_far.0 ++ l) (behind.2 ∙ ap (λ l. part.0 ++ l) none ∙ append-nil part.0) in
    last_line (so_far.0 ++ part.0) text new after found is (All-append (λ b. b ≢ 10) so_far.0 part.0 so_far.4 part.1)
    (behind.1 ∙ ap Some none) (kept_on so_far.0 part.0 old new so_far.5 part.2) e

pub taken : {E : Type 0} (r : Result FragmentEnd E) (part : FragmentEnd) (P : FragmentEnd → Type 0) → IfOk r P → r ≡ Ok part → P part
taken r part P h e = subst (λ r. IfOk r P) e h

pub part_fits : (now after : Option (List ℕ)) (old new : List ℕ) (part : FragmentEnd) → TakesPart now after old new part → kept_of new ≡ new
part_fits now after old new part h = ap kept_of h.2 ∙ kept_again (old ++ h.0) ∙ sym h.2
