-- A line longer than any command is faulty or skipped, and so is its beginning.
use Rattle.std.proofs.Common.{◌≡◌, ◌+◌, ◌*◌, ◌++◌, ◌<◌, ◌==◌, ◌&&◌, ℕ, zero, suc, Bool, true, false, cond, nat_lt, nat_le, List, [], ◌∷◌, length, take, codes, Option, Some, None, refl, ap, sym, ◌∙◌, arith, inl, inr}
use Rattle.std.specs.List.{onto_first, list_all, join_with_byte}
use Rattle.std.specs.Option.{option_map}
use Rattle.std.specs.Str.{bytes_eq}
use Rattle.std.specs.Char.{is_ascii_digit}
use Rattle.std.proofs.lemmas.Bool.{cases_lt}
use Rattle.std.proofs.lemmas.Bool.Decides.{nat_tests}
use Rattle.std.proofs.lemmas.List.{take_all, length-take}
use Rattle.std.proofs.lemmas.List.Splits.{join_with_byte-slice_split}
use Rattle.std.proofs.lemmas.Slice.Eq.{bytes_eq-Decides}
use Rattle.replay_script.specs.Word.{words_of, is_name_byte, name_of, number_of, body_of, bytes_of, most_body_bytes}
use Rattle.replay_script.specs.Command.{CommandData, Report, Drain, Add, Retire, command_of, command_from, post_of, post_from, turn_of, turn_from, answer_of, tenant_of, tenant_from, report_of, drain_of, add_of, retire_of}
use Rattle.replay_script.specs.Input.{line_room, begins_answer, kept_of}
use Rattle.replay_script.specs.Line.{Skipped, said, kind_of}
use Rattle.replay_script.proofs.Kept.{begins_cut}

-- the bytes of words and of a space behind each
spread : List (List ℕ) → ℕ
spread [] = 0
spread (word ∷ words) = length word + 1 + spread words

spread_onto : (byte : ℕ) (words : List (List ℕ)) (n : ℕ) → spread words ≡ n + 1 → spread (onto_first byte words) ≡ n + 2
unfolding spread
spread_onto byte [] n h = absurd (omega arith)
spread_onto byte (word ∷ words) n h = omega arith

spread_words : (text : List ℕ) → spread (words_of text) ≡ length text + 1
unfolding spread
spread_words [] = refl
spread_words (byte ∷ text) = elim (byte == 32) as (λ b. spread (cond b ([] ∷ words_of text) (onto_first byte (words_of text))) ≡ length (byte ∷ text) + 1) [
  | true ↦ omega (arith, spread_words text)
  | false ↦ spread_onto byte (words_of text) (length text) (spread_words text) ∙ omega arith
]

off : {T : Type 0} (a b c : Bool) (x : T) → b ≡ false → cond (a && b && c) (Some x) None ≡ None
off true b c x e = rw e refl
off false b c x e = refl

above : (n most : ℕ) → most < n → nat_le n most ≡ false
above n most long = grind (arith, nat_tests)

name_long : (word : List ℕ) → 64 < length word → name_of word ≡ None
unfolding name_of
name_long word long = off (nat_lt 0 (length word)) _ (list_all is_name_byte word) word (above (length word) 64 long)

number_long : (word : List ℕ) → 19 < length word → number_of word ≡ None
unfolding number_of
number_long word long = off (nat_lt 0 (length word)) _ (list_all is_ascii_digit word) _ (above (length word) 19 long)

body_long : (word : List ℕ) → 2 * most_body_bytes < length word → body_of word ≡ None
unfolding body_of
body_long word long = ap (λ b. cond b (bytes_of word) None) (above (length word) (2 * most_body_bytes) long)

no_body : (name : Option (List ℕ)) (moment : Option ℕ) → post_from name moment None ≡ None
no_body (Some name) (Some moment) = refl
no_body (Some name) None = refl
no_body None moment = refl

no_moment : (name : Option (List ℕ)) (body : Option (List ℕ)) → post_from name None body ≡ None
no_moment (Some name) body = refl
no_moment None body = refl

post_long : (words : List (List ℕ)) → 41943126 < spread words → post_of words ≡ None
unfolding post_of spread
post_long [] long = refl
post_long (name ∷ []) long = refl
post_long (name ∷ moment ∷ []) long = refl
post_long (name ∷ moment ∷ body ∷ []) long = elim (cases_lt 64 (length name)) [
  | inl more ↦ rw (name_long name more) refl
  | inr few ↦ elim (cases_lt 19 (length moment)) [
    | inl more ↦ rw (number_long moment more) (no_moment (name_of name) (body_of body))
    | inr small ↦ let more : 2 * most_body_bytes < length body = omega arith in rw (body_long body more) (no_body (name_of name) (number_of moment))
  ]
]
post_long (name ∷ moment ∷ body ∷ word ∷ words) long = refl

no_time : (name : Option (List ℕ)) → tenant_from name None ≡ None
no_time (Some name) = refl
no_time None = refl

no_end : (shard : Option ℕ) → turn_from shard None ≡ None
no_end (Some shard) = refl
no_end None = refl

turn_long : (words : List (List ℕ)) → 40 < spread words → turn_of words ≡ None
unfolding turn_of spread
turn_long [] long = refl
turn_long (shard ∷ []) long = refl
turn_long (shard ∷ moment ∷ []) long = elim (cases_lt 19 (length shard)) [
  | inl more ↦ rw (number_long shard more) refl
  | inr few ↦ let more : 19 < length moment = omega arith in rw (number_long moment more) (no_end (number_of shard))
]
turn_long (shard ∷ moment ∷ word ∷ words) long = refl

tenant_long : (words : List (List ℕ)) → 90 < spread words → tenant_of words ≡ None
unfolding tenant_of spread
tenant_long [] long = refl
tenant_long (name ∷ []) long = refl
tenant_long (name ∷ moment ∷ []) long = elim (cases_lt 64 (length name)) [
  | inl more ↦ rw (name_long name more) refl
  | inr few ↦ let more : 19 < length moment = omega arith in rw (number_long moment more) (no_time (name_of name))
]
tenant_long (name ∷ moment ∷ word ∷ words) long = refl

add_long : (words : List (List ℕ)) → 41943126 < spread words → add_of words ≡ None
unfolding add_of spread
add_long [] long = refl
add_long (document ∷ []) long = let more : 2 * most_body_bytes < length document = omega arith in ap (option_map Add) (body_long document more)
add_long (document ∷ word ∷ words) long = refl

-- an answer's first words
answer_begins : (line verb word : List ℕ) (words : List (List ℕ)) → words_of line ≡ verb ∷ word ∷ words → verb ≡ codes "answer" → begins_answer line ≡ true
answer_begins line verb word words split is =
    let whole : line ≡ codes "answer " ++ join_with_byte 32 (word ∷ words) =
    sym (join_with_byte-slice_split 32 line) ∙ ap (join_with_byte 32) split ∙ ap (λ v. v ++ 32 ∷ join_with_byte 32 (word ∷ words)) is in
    ap begins_answer whole

no_answer : (line verb : List ℕ) (words : List (List ℕ)) → begins_answer line ≡ false → words_of line ≡ verb ∷ words → verb ≡ codes "answer" → answer_of words ≡ None
unfolding answer_of
no_answer line verb [] other split is = refl
no_answer line verb (word ∷ words) other split is =
    absurd (let never : true ≡ false = sym (answer_begins line verb word words split is) ∙ other in cc)

-- where the test passes, it is none, and so is the rest
either : (b : Bool) (x rest : Option CommandData) → (b ≡ true → x ≡ None) → rest ≡ None → cond b x rest ≡ None
either true x rest passed none = passed refl
either false x rest passed none = none

from_long : (line : List ℕ) (words : List (List ℕ)) → begins_answer line ≡ false → words_of line ≡ words → 41943131 < spread words → command_from words ≡ None
unfolding spread command_from
from_long line [] other split long = refl
from_long line (verb ∷ words) other split long =
    either (bytes_eq verb (codes "post")) (post_of words) _
    (λ e. let same = ap length ((bytes_eq-Decides verb (codes "post")).0 e) in post_long words (omega arith))
    (either (bytes_eq verb (codes "turn")) (turn_of words) _
    (λ e. let same = ap length ((bytes_eq-Decides verb (codes "turn")).0 e) in turn_long words (omega arith))
    (either (bytes_eq verb (codes "answer")) (answer_of words) _
    (λ e. no_answer line verb words other split ((bytes_eq-Decides verb (codes "answer")).0 e))
    (either (bytes_eq verb (codes "report")) (report_of words) _
    (λ e. let same = ap length ((bytes_eq-Decides verb (codes "report")).0 e) in ap (option_map (λ found. Report found.0 found.1)) (tenant_long words (omega arith)))
    (either (bytes_eq verb (codes "drain")) (drain_of words) _
    (λ e. let same = ap length ((bytes_eq-Decides verb (codes "drain")).0 e) in ap (option_map (λ found. Drain found.0 found.1)) (tenant_long words (omega arith)))
    (either (bytes_eq verb (codes "add")) (add_of words) _
    (λ e. let same = ap length ((bytes_eq-Decides verb (codes "add")).0 e) in add_long words (omega arith))
    (either (bytes_eq verb (codes "retire")) (retire_of words) None
    (λ e. let same = ap length ((bytes_eq-Decides verb (codes "retire")).0 e) in ap (option_map (λ found. Retire found.0 found.1)) (tenant_long words (omega arith)))
    refl))))))

command_long : (line : List ℕ) → begins_answer line ≡ false → 41943130 < length line → command_of line ≡ None
unfolding command_of
command_long line other long = from_long line (words_of line) other refl (omega (arith, spread_words line))

cut_rest : (room byte : ℕ) (line : List ℕ) → room ≡ 41943130 → begins_answer (byte ∷ line) ≡ false → begins_answer (byte ∷ take room line) ≡ false
    → command_of (byte ∷ take room line) ≡ command_of (byte ∷ line)
cut_rest room byte line is other still = elim (cases_lt room (length line)) [
  | inl long ↦
      let cut : 41943130 < length (byte ∷ take room line) = omega (arith, length-take room line) in
      let whole : 41943130 < length (byte ∷ line) = omega arith in
      command_long (byte ∷ take room line) still cut ∙ sym (command_long (byte ∷ line) other whole)
  | inr short ↦ ap (λ l. command_of (byte ∷ l)) (take_all room line short)
]

cut_other : (room : ℕ) (line : List ℕ) → room ≡ 41943131 → begins_answer line ≡ false → begins_answer (take room line) ≡ false → kind_of (take room line) ≡ kind_of line
unfolding kind_of
cut_other zero line is other still = absurd (omega arith)
cut_other (suc room) [] is other still = refl
cut_other (suc room) (byte ∷ line) is other still =
    let least : room ≡ 41943130 = omega arith in
    ap (λ c. cond (byte == 35) Skipped (said c)) (cut_rest room byte line least other still)

-- what is kept of a line tells what the line is
pub kind_kept : (line : List ℕ) → kind_of (kept_of line) ≡ kind_of line
kind_kept line = by_test (begins_answer line) refl
  where
    by_test : (b : Bool) → begins_answer line ≡ b → kind_of (cond b line (take line_room line)) ≡ kind_of line
    by_test true is = refl
    by_test false is = cut_other line_room line refl is (begins_cut line ∙ is)
