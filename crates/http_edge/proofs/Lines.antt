-- How many lines have ended in the fields of httparse's grammar.
use Rattle.std.proofs.Common.{◌≡◌, ℕ, ◌+◌, ◌<◌, ◌≤◌, Bool, true, false, cond, eqb, ne_eqb, List, [], ◌∷◌, ◌++◌, length, drop, flat_map, All, refl, sym, ap, ◌∙◌, append_assoc, length-append, arith}
use Rattle.std.proofs.lemmas.List.Sums.{sum_by-append, sum_by-cons}
use Rattle.std.proofs.lemmas.List.Elements.{All-head, All-tail}
use Rattle.httparse.specs.Grammar.{is_token_byte, is_value_byte, AllPass, LineEnd, crlf, lf, print_end, Field, IsField, print_field, print_section}
use Rattle.httparse.specs.Spans.{SectionExceeds}
use Rattle.httparse.proofs.PieceLemmas.{print_field-append}
use Rattle.http1.proofs.TextLemmas.{front_within}
use Rattle.http_edge.specs.Limits.{max_fields}
use Rattle.http_edge.specs.Chunks.{line_ends}

-- 1 at the byte that ends a line
abbrev ends_one : ℕ → ℕ
ends_one b = cond (eqb b 10) 1 0

pub line_ends-append : (xs ys : List ℕ) → line_ends (xs ++ ys) ≡ line_ends xs + line_ends ys
line_ends-append xs ys = sum_by-append ends_one xs ys

pub line_ends-cons : (x : ℕ) (xs : List ℕ) → line_ends (x ∷ xs) ≡ ends_one x + line_ends xs
line_ends-cons x xs = sum_by-cons ends_one x xs

-- bytes of a class that LF isn't of have no line end
no_line_end : (test : ℕ → Bool) → test 10 ≡ false → (xs : List ℕ) → AllPass test xs → line_ends xs ≡ 0
no_line_end test other [] all = refl
no_line_end test other (x ∷ xs) all =
    let passes : test x ≡ true = All-head (λ v. test v ≡ true) x xs all in
    let apart : eqb x 10 ≡ false = ne_eqb x 10 (λ e. let f : true ≡ false = sym passes ∙ (ap test e ∙ other) in cc) in
    let none : ends_one x ≡ 0 = ap (λ (b : Bool). cond b 1 0) apart in
    let later : line_ends xs ≡ 0 = no_line_end test other xs (All-tail (λ v. test v ≡ true) x xs all) in
    omega (arith, line_ends-cons x xs, none, later)

lf_no_token : is_token_byte 10 ≡ false
unfolding is_token_byte
lf_no_token = refl

pub end_lines : (e : LineEnd) → line_ends (print_end e) ≡ 1
end_lines crlf = refl
end_lines lf = refl

field_lines : (f : Field) → IsField f → line_ends (print_field f) ≡ 1
field_lines f is =
    let name = no_line_end is_token_byte lf_no_token f.name is.name.1 in
    let raw = no_line_end is_value_byte refl f.raw is.raw in
    let last = print_end f.end ++ [] in
    omega (
      arith,
      ap line_ends (print_field-append f []),
      line_ends-append (print_field f) [],
      line_ends-append f.name (58 ∷ (f.raw ++ last)),
      line_ends-cons 58 (f.raw ++ last),
      line_ends-append f.raw last,
      line_ends-append (print_end f.end) [],
      end_lines f.end,
      name,
      raw,
    )

pub fields_lines : (fs : List Field) → All IsField fs → line_ends (flat_map print_field fs) ≡ length fs
fields_lines [] all = refl
fields_lines (f ∷ fs) all =
    omega (
      arith,
      line_ends-append (print_field f) (flat_map print_field fs),
      field_lines f (All-head IsField f fs all),
      fields_lines fs (All-tail IsField f fs all),
    )

pub section_lines : (fs : List Field) (last : LineEnd) → All IsField fs
    → line_ends (print_section fs last) ≡ length fs + 1
section_lines fs last all = omega (
  arith,
  line_ends-append (flat_map print_field fs) (print_end last),
  fields_lines fs all,
  end_lines last,
)

-- a section without its last byte, which is LF
abbrev pub section_front : List Field → LineEnd → List ℕ
section_front fs crlf = flat_map print_field fs ++ 13 ∷ []
section_front fs lf = flat_map print_field fs

pub section_split : (fs : List Field) (last : LineEnd) → print_section fs last ≡ section_front fs last ++ 10 ∷ []
section_split fs crlf = sym (append_assoc (flat_map print_field fs) (13 ∷ []) (10 ∷ []))
section_split fs lf = refl

pub section_front_lines : (fs : List Field) (last : LineEnd) → All IsField fs
    → line_ends (section_front fs last) ≡ length fs
section_front_lines fs last all =
    omega (
      arith,
      section_lines fs last all,
      ap line_ends (section_split fs last),
      line_ends-append (section_front fs last) (10 ∷ []),
    )

-- what is less than a text that ends in LF has no more line ends than the text without that
pub lines_before_end : (text before rest more after : List ℕ) → text ≡ before ++ 10 ∷ [] → rest ++ more ≡ text ++ after
    → length rest < length text → line_ends rest ≤ line_ends before
lines_before_end text before rest more after split whole short =
    let joined : before ++ (10 ∷ after) ≡ rest ++ more =
    sym (whole ∙ (ap (λ v. v ++ after) split ∙ append_assoc before (10 ∷ []) after)) in
    let fits : length rest ≤ length before = omega (
      arith,
      short,
      ap length split,
      length-append before (10 ∷ []),
    ) in
    let front = front_within before (10 ∷ after) rest more joined fits in
    omega (arith, ap line_ends front, line_ends-append rest (drop (length rest) before))

-- more fields than there is room for are more lines than that
pub section_exceeds_lines : (s : List ℕ) → SectionExceeds max_fields s → max_fields < line_ends s
section_exceeds_lines s p =
    omega (
      arith,
      ap line_ends p.4.1,
      line_ends-append p.0 (10 ∷ []),
      line_ends-append (print_section p.3 lf) [],
      section_lines p.3 lf p.4.0,
      ap line_ends p.2,
      line_ends-append p.0 p.1,
      p.5,
    )
