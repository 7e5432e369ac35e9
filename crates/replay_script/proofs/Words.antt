-- The first word of a text, and words that are text.
use Rattle.std.proofs.Common.{◌≡◌, ◌+◌, ◌-◌, ◌<◌, ◌^◌, ◌≤◌, ◌&&◌, ℕ, Bool, true, false, cond, List, [], ◌∷◌, length, take, drop, codes, Option, Some, None, Result, Ok, Err, MatchResult, refl, sym, ap, ◌∙◌, arith, rules, nat_lt, nat_le, ◌==◌}
use Rattle.std.specs.Option.{option_map}
use Rattle.std.specs.Result.{result_ok}
use Rattle.std.specs.List.{position, onto_first, list_all}
use Rattle.std.specs.Str.{IsUtf8, IsAscii, bytes_eq}
use Rattle.std.specs.Char.{is_ascii_digit}
use Rattle.std.specs.Borrow.{Bor}
use Rattle.std.proofs.lemmas.List.Splits.{slice_split_first, slice_split_none}
use Rattle.std.proofs.lemmas.List.{take_rest}
use Rattle.std.proofs.lemmas.List.Sums.{AllPass-from_list_all, fails_before_first}
use Rattle.std.proofs.lemmas.Str.Ascii.{IsAscii-from_all}
use Rattle.std.proofs.lemmas.Str.{IsUtf8-from_ascii}
use Rattle.std.specs.Str.Parse.{ParsesUnsigned, digits_value}
use Rattle.std.proofs.lemmas.Str.Parse.{IsNumeralModel, numerals_by_value, digits_value_short, parse_gives}
use Rattle.std.proofs.lemmas.Bool.Decides.{nat_tests}
use Rattle.replay_script.specs.Word.{words_of, is_name_byte, name_of, number_of}
use Rattle.replay_script.specs.Command.{CommandData, command_from, post_of, turn_of, answer_of, answer_from, back_end_answer_from, tenant_of, add_of}
use Rattle.replay_script.proofs.Places.{found_at, missing, tested, further}

cut : (text : List ℕ) (n at : ℕ) → n ≡ at → take n text ∷ words_of (drop (n + 1) text) ≡ take at text ∷ words_of (take (length text - (at + 1)) (drop (at + 1) text))
cut text n at e = rw (e, take_rest text (at + 1)) refl

pub words_at : (text : List ℕ) (at : ℕ) → position (λ byte. byte == 32) text ≡ Some at
    → words_of text ≡ take at text ∷ words_of (take (length text - (at + 1)) (drop (at + 1) text))
words_at text at h =
    let found = found_at _ _ _ h in
    slice_split_first (λ byte. byte == 32) text 0 (tested _ _ found.0) ∙ cut text _ at found.1

pub words_none : (text : List ℕ) → position (λ byte. byte == 32) text ≡ None → words_of text ≡ text ∷ []
words_none text h = slice_split_none (λ byte. byte == 32) text
    (λ k d below. fails_before_first (λ byte. byte == 32) text k d (further _ _ _ below (missing _ _ h)))

Begins : List (List ℕ) → Type 0
Begins words = (word : List ℕ) × (rest : List (List ℕ)) × (words ≡ word ∷ rest)

onto_begins : (byte : ℕ) (words : List (List ℕ)) → Begins (onto_first byte words)
unfolding Begins
onto_begins byte [] = (byte ∷ [], [], refl)
onto_begins byte (word ∷ words) = (byte ∷ word, words, refl)

begins : (text : List ℕ) → Begins (words_of text)
unfolding Begins
begins [] = ([], [], refl)
begins (byte ∷ text) = elim (byte == 32) as (λ b. Begins (cond b ([] ∷ words_of text) (onto_first byte (words_of text)))) [
  | true ↦ ([], words_of text, refl)
  | false ↦ onto_begins byte (words_of text)
]

pub post_of_more : (a b c text : List ℕ) → post_of (a ∷ b ∷ c ∷ words_of text) ≡ None
unfolding post_of Begins
post_of_more a b c text = let more = begins text in rw more.2 refl

pub turn_of_more : (a b text : List ℕ) → turn_of (a ∷ b ∷ words_of text) ≡ None
unfolding turn_of Begins
turn_of_more a b text = let more = begins text in rw more.2 refl

pub back_end_answer_more : (a b c text : List ℕ) → back_end_answer_from (a ∷ b ∷ c ∷ words_of text) ≡ None
unfolding back_end_answer_from Begins
back_end_answer_more a b c text = let more = begins text in rw more.2 refl

pub tenant_of_more : (a b text : List ℕ) → tenant_of (a ∷ b ∷ words_of text) ≡ None
unfolding tenant_of Begins
tenant_of_more a b text = let more = begins text in rw more.2 refl

pub add_of_more : (a text : List ℕ) → add_of (a ∷ words_of text) ≡ None
unfolding add_of Begins
add_of_more a text = let more = begins text in rw more.2 refl

same_none : (b : Bool) (rest : Option CommandData) → rest ≡ None → cond b None rest ≡ None
same_none true rest is = refl
same_none false rest is = is

-- a word alone is no command
pub alone_none : (verb : List ℕ) → command_from (verb ∷ []) ≡ None
unfolding command_from post_of turn_of answer_of tenant_of add_of
alone_none verb =
    same_none (bytes_eq verb (codes "post")) _ (same_none (bytes_eq verb (codes "turn")) _ (same_none (bytes_eq verb (codes "answer")) _
    (same_none (bytes_eq verb (codes "report")) _ (same_none (bytes_eq verb (codes "drain")) _
    (same_none (bytes_eq verb (codes "add")) _ (same_none (bytes_eq verb (codes "retire")) None refl))))))

-- an answer whose last three words say none
pub no_answer : (name : Option (List ℕ)) (moment ticket word : Option ℕ) → answer_from name moment ticket word None ≡ None
no_answer (Some name) (Some moment) (Some ticket) (Some word) = refl
no_answer (Some name) (Some moment) (Some ticket) None = refl
no_answer (Some name) (Some moment) None word = refl
no_answer (Some name) None ticket word = refl
no_answer None moment ticket word = refl

-- what `from_utf8` gives for a text
pub told : {E : Type 0} (Q : E → Type 0) (r : Result (Bor (List ℕ)) E) (o : Option (Bor (List ℕ))) (bytes : List ℕ) → IsAscii bytes
    → MatchResult r (λ s. (s.now ≡ bytes) × IsUtf8 bytes) (λ e. ¬ (IsUtf8 bytes) × Q e) → o ≡ result_ok r → option_map (λ s. s.now) o ≡ Some bytes
told Q (Ok s) o bytes ascii h e = rw e (ap Some h.0)
told Q (Err x) o bytes ascii h e = absurd (h.0 (IsUtf8-from_ascii bytes ascii))

pub no_text : (o : Option (Bor (List ℕ))) (bytes : List ℕ) → option_map (λ s. s.now) o ≡ Some bytes → o ≡ None → ⊥
no_text (Some s) bytes h e = cc
no_text None bytes h e = cc

pub same_text : (o : Option (Bor (List ℕ))) (bytes : List ℕ) (s : Bor (List ℕ)) → option_map (λ s. s.now) o ≡ Some bytes → o ≡ Some s → s.now ≡ bytes
same_text (Some t) bytes s h e = let same : t ≡ s = cc in sym (ap (λ x. x.now) same) ∙ (cc)
same_text None bytes s h e = absurd (cc)

name_ascii : (b : ℕ) → is_name_byte b ≡ true → b < 128
name_ascii b h = grind (arith, nat_tests)

pub ascii_of_name : (word : List ℕ) → list_all is_name_byte word ≡ true → IsAscii word
ascii_of_name word h = IsAscii-from_all word (λ k d below. name_ascii _ (AllPass-from_list_all is_name_byte word h k d below))

digit_ascii : (b : ℕ) → is_ascii_digit b ≡ true → b < 128
digit_ascii b h = grind (arith, nat_tests)

pub ascii_of_digits : (word : List ℕ) → list_all is_ascii_digit word ≡ true → IsAscii word
ascii_of_digits word h = IsAscii-from_all word (λ k d below. digit_ascii _ (AllPass-from_list_all is_ascii_digit word h k d below))

both : (word : List ℕ) (most : ℕ) (b : Bool) → 0 < length word → length word ≤ most → b ≡ true → (nat_lt 0 (length word) && nat_le (length word) most && b) ≡ true
both word most b some few h = grind (arith, nat_tests)

pub name_is : (word : List ℕ) → 0 < length word → length word ≤ 64 → list_all is_name_byte word ≡ true → name_of word ≡ Some word
unfolding name_of
name_is word some few all = rw (both word 64 _ some few all) refl

own : IsNumeralModel (λ ds. list_all is_ascii_digit ds ≡ true) (digits_value 10)
own = numerals_by_value _ (search rules)

pub number_is : {E : Type 0} (word : List ℕ) (r : Result ℕ E) (o : Option ℕ) → 0 < length word → length word ≤ 19 → list_all is_ascii_digit word ≡ true
    → ParsesUnsigned 64 10 word r → o ≡ result_ok r → o ≡ number_of word
unfolding number_of
number_is word r o some few all parsed e =
    let small : digits_value 10 word < 2 ^ 64 = omega (arith, digits_value_short own word 19 all few) in
    let gives = parse_gives own 64 word r parsed all some small in
    e ∙ ap result_ok gives ∙ rw (both word 19 _ some few all) refl
