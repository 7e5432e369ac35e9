-- What is kept of a line.
use Rattle.std.proofs.Common.{◌≡◌, ◌+◌, ◌-◌, ◌<◌, ◌≤◌, ℕ, Bool, true, false, cond, List, [], ◌∷◌, ◌++◌, codes, length, take, drop, min, refl, ap, sym, ◌∙◌, arith, inl, inr, lit<}
use Rattle.std.specs.Str.{bytes_eq}
use Rattle.std.proofs.lemmas.List.{take_min, take_all, take-take, take-append-le, take-append-drop, length-take, append-nil, append_assoc}
use Rattle.std.proofs.lemmas.Slice.Eq.{bytes_eq-Decides}
use Rattle.replay_script.specs.Input.{line_room, begins_answer, kept_of}
use Rattle.std.proofs.lemmas.Bool.{cases_lt}
use Rattle.std.proofs.Math.Seq.{take-append-add}

pub kept : (room len : ℕ) (old part : List ℕ) → length old ≤ room → len ≡ min (length part) (room - length old) → old ++ take len part ≡ take room (old ++ part)
kept room len old part few is =
    let turned : len ≡ min (room - length old) (length part) = omega arith in
    let whole : length old + (room - length old) ≡ room = omega arith in
    ap (λ n. old ++ take n part) turned ∙ ap (λ rest. old ++ rest) (take_min (room - length old) part)
    ∙ sym (take-append-add old part (room - length old)) ∙ ap (λ n. take n (old ++ part)) whole

longer : (room : ℕ) (old more : List ℕ) → room ≤ length old → take room (take room old ++ more) ≡ take room (old ++ more)
longer room old more long =
    let fits : room ≤ length (take room old) = omega (arith, length-take room old) in
    take-append-le room (take room old) more fits ∙ take_all room (take room old) (omega (arith, length-take room old))
    ∙ sym (take-append-le room old more long)

-- what is kept of a line in parts is what is kept of the line
pub kept_parts : (room : ℕ) (old more : List ℕ) → take room (take room old ++ more) ≡ take room (old ++ more)
kept_parts room old more = elim (cases_lt (length old) room) [
  | inl few ↦ ap (λ l. take room (l ++ more)) (take_all room old (omega arith))
  | inr many ↦ longer room old more many
]

-- a line's cut begins as the line does
begins_parts : (old more : List ℕ) → begins_answer (take line_room old ++ more) ≡ begins_answer (old ++ more)
begins_parts old more =
    ap (bytes_eq (codes "answer "))
    (sym (take-take 7 line_room (take line_room old ++ more) (omega arith)) ∙ ap (take 7) (kept_parts line_room old more) ∙ take-take 7 line_room (old ++ more) (omega arith))

pub begins_cut : (line : List ℕ) → begins_answer (take line_room line) ≡ begins_answer line
begins_cut line = ap (bytes_eq (codes "answer ")) (take-take 7 line_room line (omega arith))

-- a line that begins as an answer only with what comes to it is short
begins_late : (old more : List ℕ) → begins_answer old ≡ false → begins_answer (old ++ more) ≡ true → take line_room old ≡ old
begins_late old more not_yet now = elim (cases_lt (length old) 7) [
  | inl short ↦ take_all line_room old (omega arith)
  | inr long ↦
      let same : begins_answer (old ++ more) ≡ begins_answer old = ap (bytes_eq (codes "answer ")) (take-append-le 7 old more long) in
      absurd (let never : true ≡ false = sym now ∙ same ∙ not_yet in cc)
]

kept_whole : (line : List ℕ) → begins_answer line ≡ true → kept_of line ≡ line
kept_whole line is = ap (λ b. cond b line (take line_room line)) is

kept_cut : (line : List ℕ) → begins_answer line ≡ false → kept_of line ≡ take line_room line
kept_cut line is = ap (λ b. cond b line (take line_room line)) is

-- what is kept of a line in parts is what is kept of the line
pub kept_more : (old more : List ℕ) → kept_of (kept_of old ++ more) ≡ kept_of (old ++ more)
kept_more old more = by_old (begins_answer old) refl
  where
    by_both : (b : Bool) → begins_answer old ≡ false → begins_answer (old ++ more) ≡ b → kept_of (take line_room old ++ more) ≡ kept_of (old ++ more)
    by_both true not_yet now = ap (λ l. kept_of (l ++ more)) (begins_late old more not_yet now)
    by_both false not_yet now =
        kept_cut (take line_room old ++ more) (begins_parts old more ∙ now) ∙ kept_parts line_room old more ∙ sym (kept_cut (old ++ more) now)

    by_old : (b : Bool) → begins_answer old ≡ b → kept_of (kept_of old ++ more) ≡ kept_of (old ++ more)
    by_old true is = ap (λ l. kept_of (l ++ more)) (kept_whole old is)
    by_old false is = ap (λ l. kept_of (l ++ more)) (kept_cut old is) ∙ by_both (begins_answer (old ++ more)) is refl

-- and it is kept whole from then on
pub kept_again : (line : List ℕ) → kept_of (kept_of line) ≡ kept_of line
kept_again line = ap kept_of (sym (append-nil (kept_of line))) ∙ kept_more line [] ∙ ap kept_of (append-nil line)

-- a line that begins as an answer goes on so
begins_on : (old more : List ℕ) → begins_answer old ≡ true → begins_answer (old ++ more) ≡ begins_answer old
begins_on old more is =
    let head = (bytes_eq-Decides (codes "answer ") (take 7 old)).0 is in
    let long : 7 ≤ length old = omega (arith, ap length head, length-take 7 old) in
    ap (bytes_eq (codes "answer ")) (take-append-le 7 old more long)

-- as much comes to a line as there is room for
room_left : (old part : List ℕ) (len : ℕ) → begins_answer old ≡ false → kept_of old ≡ old → len ≡ min (length part) (line_room - length old)
    → old ++ take len part ≡ take line_room (old ++ part)
room_left old part len other whole least =
    let cut : take line_room old ≡ old = sym (kept_cut old other) ∙ whole in
    let fits : length old ≤ line_room = omega (arith, ap length cut, length-take line_room old) in
    kept line_room len old part fits least

begins_first : (old part : List ℕ) (len : ℕ) → kept_of old ≡ old → len ≡ min (length part) (line_room - length old) → begins_answer (old ++ take len part) ≡ begins_answer (old ++ part)
begins_first old part len whole least = by_old (begins_answer old) refl
  where
    by_old : (b : Bool) → begins_answer old ≡ b → begins_answer (old ++ take len part) ≡ begins_answer (old ++ part)
    by_old true is = begins_on old (take len part) is ∙ sym (begins_on old part is)
    by_old false is = ap begins_answer (room_left old part len is whole least) ∙ begins_cut (old ++ part)

-- where that is no answer, it is what is kept
pub kept_other : (old part : List ℕ) (len : ℕ) → kept_of old ≡ old → len ≡ min (length part) (line_room - length old) → begins_answer (old ++ take len part) ≡ false
    → old ++ take len part ≡ kept_of (old ++ part)
kept_other old part len whole least other = by_old (begins_answer old) refl
  where
    still : begins_answer (old ++ part) ≡ false
    still = sym (begins_first old part len whole least) ∙ other

    by_old : (b : Bool) → begins_answer old ≡ b → old ++ take len part ≡ kept_of (old ++ part)
    by_old true is = absurd (let never : true ≡ false = sym is ∙ sym (begins_on old part is) ∙ still in cc)
    by_old false is = room_left old part len is whole least ∙ sym (kept_cut (old ++ part) still)

-- and else the rest comes to it as well
pub kept_answer : (old part : List ℕ) (len : ℕ) → kept_of old ≡ old → len ≡ min (length part) (line_room - length old) → begins_answer (old ++ take len part) ≡ true
    → (old ++ take len part) ++ drop len part ≡ kept_of (old ++ part)
kept_answer old part len whole least answer =
    append_assoc old (take len part) (drop len part) ∙ ap (λ l. old ++ l) (take-append-drop len part)
    ∙ sym (kept_whole (old ++ part) (sym (begins_first old part len whole least) ∙ answer))

pub kept_nothing : (line : List ℕ) → kept_of line ≡ line → line ≡ kept_of (line ++ [])
kept_nothing line whole = sym whole ∙ ap kept_of (sym (append-nil line))

pub kept_none : (line : List ℕ) → length line ≡ 0 → kept_of line ≡ []
kept_none [] none = refl
kept_none (byte ∷ line) none = absurd (omega arith)

whole_some : (byte : ℕ) (bytes new : List ℕ) → new ≡ byte ∷ bytes → 0 < length new
whole_some byte bytes new is = omega (arith, ap length is)

cut_some : (room byte : ℕ) (bytes new : List ℕ) → 0 < room → new ≡ take room (byte ∷ bytes) → 0 < length new
cut_some room byte bytes new some is = rw is (rw (length-take room (byte ∷ bytes)) (omega arith))

pub kept_some : (byte : ℕ) (bytes new : List ℕ) → new ≡ kept_of (byte ∷ bytes) → 0 < length new
kept_some byte bytes new is = by_test (begins_answer (byte ∷ bytes)) refl
  where
    by_test : (b : Bool) → begins_answer (byte ∷ bytes) ≡ b → 0 < length new
    by_test true answer = whole_some byte bytes new (is ∙ kept_whole (byte ∷ bytes) answer)
    by_test false other = cut_some line_room byte bytes new (lit< tt) (is ∙ kept_cut (byte ∷ bytes) other)

pub take_none : (n : ℕ) (xs : List ℕ) → length xs ≡ 0 → take n xs ≡ []
take_none n [] none = take_all n [] (omega arith)
take_none n (x ∷ xs) none = absurd (omega arith)
