-- How many lines of a head have ended.
use Rattle.std.proofs.Common.{◌≡◌, ℕ, ◌+◌, ◌<◌, ◌≤◌, Bool, true, false, List, [], ◌∷◌, ◌++◌, if◌then◌else◌, refl, ap, ◌∙◌, arith}
use Rattle.httparse.specs.Grammar.{LineEnd, crlf, lf, print_end, print_blank, print_version, print_section}
use Rattle.httparse.specs.Pieces.{Stops, is_newline}
use Rattle.httparse.specs.Spans.{RequestExceeds}
use Rattle.httparse.proofs.PieceLemmas.{Stops_token}
use Rattle.httparse.proofs.GrammarLemmas.{print_request-append}
use Rattle.http_edge.specs.Limits.{max_fields}
use Rattle.http_edge.specs.Chunks.{line_ends}
use Rattle.http_edge.specs.Talk.{after_blank, head_lines}
use Rattle.http_edge.proofs.Lines.{line_ends-append, line_ends-cons, end_lines, section_lines}

blank_skipped : (es : List LineEnd) (x : List ℕ) → after_blank (print_blank es ++ x) ≡ after_blank x
blank_skipped [] x = refl
blank_skipped (crlf ∷ es) x = blank_skipped es x
blank_skipped (lf ∷ es) x = blank_skipped es x

not_blank : (x : List ℕ) → Stops is_newline x → after_blank x ≡ x
not_blank [] s = absurd s
not_blank (b ∷ x) s = ap (λ (t : Bool). if t then after_blank x else b ∷ x) s

blank_less : (ys : List ℕ) → line_ends (after_blank ys) ≤ line_ends ys
blank_less [] = omega arith
blank_less (y ∷ ys) = by_case (is_newline y) refl (blank_less ys)
  where
    by_case : (b : Bool) → is_newline y ≡ b → line_ends (after_blank ys) ≤ line_ends ys
        → line_ends (after_blank (y ∷ ys)) ≤ line_ends (y ∷ ys)
    by_case true e later =
        let skip = ap (λ (t : Bool). if t then after_blank ys else y ∷ ys) e in
        omega (arith, ap line_ends skip, later, line_ends-cons y ys)
    by_case false e later =
        let stays = ap (λ (t : Bool). if t then after_blank ys else y ∷ ys) e in
        omega (arith, ap line_ends stays)

-- what follows adds no more lines than it has
blank_append : (xs ys : List ℕ) → line_ends (after_blank (xs ++ ys)) ≤ line_ends (after_blank xs) + line_ends ys
blank_append [] ys = omega (arith, blank_less ys)
blank_append (x ∷ xs) ys = by_case (is_newline x) refl (blank_append xs ys)
  where
    by_case : (b : Bool) → is_newline x ≡ b
        → line_ends (after_blank (xs ++ ys)) ≤ line_ends (after_blank xs) + line_ends ys
        → line_ends (after_blank ((x ∷ xs) ++ ys)) ≤ line_ends (after_blank (x ∷ xs)) + line_ends ys
    by_case true e later =
        let long = ap (λ (t : Bool). if t then after_blank (xs ++ ys) else x ∷ (xs ++ ys)) e in
        let short = ap (λ (t : Bool). if t then after_blank xs else x ∷ xs) e in
        omega (arith, ap line_ends long, ap line_ends short, later)
    by_case false e later =
        let long = ap (λ (t : Bool). if t then after_blank (xs ++ ys) else x ∷ (xs ++ ys)) e in
        let short = ap (λ (t : Bool). if t then after_blank xs else x ∷ xs) e in
        omega (arith, ap line_ends long, ap line_ends short, line_ends-append (x ∷ xs) ys)

-- and takes none away
pub blank_more : (xs ys : List ℕ) → line_ends (after_blank xs) ≤ line_ends (after_blank (xs ++ ys))
blank_more [] ys = omega arith
blank_more (x ∷ xs) ys = by_case (is_newline x) refl (blank_more xs ys)
  where
    by_case : (b : Bool) → is_newline x ≡ b → line_ends (after_blank xs) ≤ line_ends (after_blank (xs ++ ys))
        → line_ends (after_blank (x ∷ xs)) ≤ line_ends (after_blank ((x ∷ xs) ++ ys))
    by_case true e later =
        let long = ap (λ (t : Bool). if t then after_blank (xs ++ ys) else x ∷ (xs ++ ys)) e in
        let short = ap (λ (t : Bool). if t then after_blank xs else x ∷ xs) e in
        omega (arith, ap line_ends long, ap line_ends short, later)
    by_case false e later =
        let long = ap (λ (t : Bool). if t then after_blank (xs ++ ys) else x ∷ (xs ++ ys)) e in
        let short = ap (λ (t : Bool). if t then after_blank xs else x ∷ xs) e in
        omega (arith, ap line_ends long, ap line_ends short, line_ends-append (x ∷ xs) ys)

-- more fields than there is room for are more lines than that and the first
pub exceeds_lines : (s : List ℕ) → RequestExceeds max_fields s → max_fields + 1 < head_lines s
exceeds_lines s p =
    let h = p.3 in
    let section = print_section h.fields h.last in
    let ended = print_end h.line_end ++ (section ++ []) in
    let version = print_version h.minor ++ ended in
    let text = h.method ++ 32 ∷ (h.target ++ 32 ∷ version) in
    let whole : after_blank (p.0 ++ 10 ∷ []) ≡ text =
    ap after_blank (p.4.1 ∙ print_request-append h []) ∙ (blank_skipped h.blank text
    ∙ not_blank text (Stops_token h.method _ p.4.0.method.0 p.4.0.method.1)) in
    omega (
      arith,
      ap line_ends whole,
      line_ends-append h.method (32 ∷ (h.target ++ 32 ∷ version)),
      line_ends-cons 32 (h.target ++ 32 ∷ version),
      line_ends-append h.target (32 ∷ version),
      line_ends-cons 32 version,
      line_ends-append (print_version h.minor) ended,
      line_ends-append (print_end h.line_end) (section ++ []),
      line_ends-append section [],
      end_lines h.line_end,
      section_lines h.fields h.last p.4.0.fields,
      blank_append p.0 (10 ∷ []),
      blank_more p.0 p.1,
      ap head_lines p.2,
      p.5,
    )
