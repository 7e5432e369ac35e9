use Rattle.std.proofs.Common.{◌≡◌, ℕ, ◌+◌, ◌*◌, ◌^◌, ◌<◌, ◌≤◌, true, false, cond, List, length, get_or, take, Some, None, sym, ap, ◌∙◌, arith}
use Rattle.std.specs.List.{list_all}
use Rattle.std.specs.Char.{is_ascii_digit, digit_value}
use Rattle.std.specs.Str.Parse.{digits_value}
use Rattle.std.proofs.lemmas.List.{take_all}
use Rattle.std.proofs.lemmas.Bool.{and_left, and_right, and_from, le-ltb, lt-ltb, cond-true, cond-false}
use Rattle.std.proofs.lemmas.Bool.Decides.{nat_tests}
use Rattle.std.proofs.lemmas.Int.Digits.{digits_value_more}
use Rattle.http1.specs.Fields.{is_number}
use Rattle.http1.proofs.TextLemmas.{list_all_more, list_all_fails, digits_value-take-le}
use Rattle.http_edge.proofs.fields.parse_number.Goals as goal

no_number : (ds : List ℕ) → is_number ds ≡ false → None ≡ cond (is_number ds) (Some (digits_value 10 ds)) None
no_number ds e = sym (cond-false _ _ _ e)

-- where the first digits do not fit, the whole does not
too_large : (ds : List ℕ) (i : ℕ) → i < length ds → 2 ^ 64 ≤ digits_value 10 (take i ds) * 10 + digit_value
    (get_or ds i 0) → is_number ds ≡ false
too_large ds i inside large =
    and_right _ _ (and_right _ _ (le-ltb (digits_value 10 ds) (2 ^ 64) (omega (
      arith,
      digits_value_more 10 ds i inside,
      digits_value-take-le 10 (i + 1) ds (omega arith),
    ))))

pub returns-then-not-is_ascii_digit : goal.returns-then-not-is_ascii_digit
returns-then-not-is_ascii_digit c =
    let fails = list_all_fails is_ascii_digit c.args.digits.now c.loop-b.b-index 0 c.loop-b-test.true
    (sym c.if-not-is_ascii_digit.ensures.value) in
    no_number c.args.digits.now (and_right _ _ (and_left _ _ fails))

pub returns-in_err-checked_mul : goal.returns-in_err-checked_mul
returns-in_err-checked_mul c =
    c.from_residual.ensures ∙ no_number c.args.digits.now (too_large _ _ c.loop-b-test.true (omega (
      arith,
      c.in_err-checked_mul.ensures,
      c.loop-b.invariant.0,
    )))

pub returns-in_err-n : goal.returns-in_err-n
returns-in_err-n c =
    let digit : digit_value (get_or c.args.digits.now c.loop-b.b-index 0) ≡ c.from.result = grind (arith, nat_tests) in
    c.from_residual-in_err-n.ensures ∙ no_number c.args.digits.now (too_large _ _ c.loop-b-test.true (omega (
      arith,
      c.in_err-n.ensures,
      c.in_ok-checked_mul.ensures.1,
      c.loop-b.invariant.0,
    )))

pub loop-b-preserved : goal.loop-b-preserved
loop-b-preserved c =
    let digit : digit_value (get_or c.args.digits.now c.loop-b.b-index 0) ≡ c.from.result = grind (
      arith,
      nat_tests,
    ) in (
      omega (
        arith,
        digits_value_more 10 c.args.digits.now _ c.loop-b-test.true,
        c.in_ok-n.ensures.1,
        c.in_ok-checked_mul.ensures.1,
        c.loop-b.invariant.0,
      ),
      list_all_more is_ascii_digit _ _ 0 c.loop-b-test.true c.loop-b.invariant.1
          (sym c.if-not-is_ascii_digit.ensures.value),
      omega (arith, c.in_ok-n.ensures.0, c.in_ok-n.ensures.1),
    )

pub returns : goal.returns
returns c =
    let ds = c.args.digits.now in
    let all = take_all c.loop-b.b-index ds c.loop-b-test.false in
    let value : c.loop-b.n ≡ digits_value 10 ds = c.loop-b.invariant.0 ∙ ap (digits_value 10) all in
    let digits : list_all is_ascii_digit ds ≡ true = sym (ap (list_all is_ascii_digit) all) ∙ c.loop-b.invariant.1 in
    let some : 0 < length ds = grind (arith, nat_tests) in
    let number : is_number ds ≡ true = and_from _ _ (lt-ltb _ _ some) (and_from _ _ digits (lt-ltb (digits_value 10 ds)
    (2 ^ 64) (omega arith))) in
    ap Some value ∙ sym (cond-true _ _ _ number)
