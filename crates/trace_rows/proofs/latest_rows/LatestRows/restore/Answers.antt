use Rattle.std.proofs.Common.{◌≡◌, ◌∙◌, ap, sym, ℕ, Option, List, Some, None, is_some}
use Rattle.std.specs.Ordering.{nat_cmp}
use Rattle.trace_rows.specs.Maps.{at, pair_cmp, latest_rows_of}
use Rattle.trace_rows.specs.Part.{with_latest_row}
use Rattle.trace_rows.proofs.Parts.{at_id, seats_put, seats_put_other, with_no_row}
use Rattle.trace_rows.proofs.latest_rows.LatestRows.restore.Goals as goal

pub returns-in_default-clause-own_part : goal.returns-in_default-clause-own_part
returns-in_default-clause-own_part c = λ had.
    c.remove.ensures.own_part ∙ sym (ap (λ (s : Option ℕ). with_latest_row c.args.trace s (latest_rows_of c.args.tenant c.args.self.now)) c.in_default.is)

pub returns-in_default-get_mut-clause-own_part : goal.returns-in_default-get_mut-clause-own_part
returns-in_default-get_mut-clause-own_part c = λ had.
    let slots : ℕ × ℕ → Option ℕ = at (pair_cmp nat_cmp) c.args.tenant c.self.inside.numbers.entries in
    let id = c.halves_of-id in
    let missing : slots id.result ≡ None = sym c.in_default-get_mut.ensures.value in
    let shown : latest_rows_of c.args.tenant c.self.inside.numbers.entries c.args.trace ≡ latest_rows_of c.args.tenant c.args.self.now c.args.trace = ap (λ (es : List ((ℕ × (ℕ × ℕ)) × ℕ)). latest_rows_of c.args.tenant es c.args.trace) c.self.view_is in
    absurd (had (sym shown ∙ (at_id slots c.args.trace id.ensures.id ∙ (ap slots (sym id.ensures.halves) ∙ missing))))

pub returns-clause-own_part : goal.returns-clause-own_part
returns-clause-own_part c = λ had.
    let t = c.args.tenant in
    let k = c.in-Some.number in
    let id = c.halves_of-id in
    let numbers = c.self.inside.numbers in
    let found : at (pair_cmp nat_cmp) t numbers.entries id.result ≡ Some c.in-Some-get_mut.latest.now = sym c.in-Some-get_mut.ensures.value in
    seats_put numbers (c.get_mut.follows.lender k) t c.args.trace id.result (Some k) id.ensures.id id.ensures.halves ((c.get_mut.follows.holds k).3 (ap is_some found))
    ∙ (ap (λ (es : List ((ℕ × (ℕ × ℕ)) × ℕ)). with_latest_row c.args.trace (Some k) (latest_rows_of t es)) c.self.view_is
    ∙ sym (ap (λ (s : Option ℕ). with_latest_row c.args.trace s (latest_rows_of t c.args.self.now)) c.in-Some.is))

pub returns-in_default-clause-none : goal.returns-in_default-clause-none
returns-in_default-clause-none c = λ none. c.remove.ensures.own_part ∙ with_no_row (latest_rows_of c.args.tenant c.args.self.now) c.args.trace none

pub returns-clause-none : goal.returns-clause-none
returns-clause-none c = λ none.
    let t = c.args.tenant in
    let id = c.halves_of-id in
    let entries = c.self.inside.numbers.entries in
    let slots : ℕ × ℕ → Option ℕ = at (pair_cmp nat_cmp) t entries in
    let found : slots id.result ≡ Some c.in-Some-get_mut.latest.now = sym c.in-Some-get_mut.ensures.value in
    let shown : latest_rows_of t entries c.args.trace ≡ latest_rows_of t c.args.self.now c.args.trace = ap (λ (es : List ((ℕ × (ℕ × ℕ)) × ℕ)). latest_rows_of t es c.args.trace) c.self.view_is in
    let there : latest_rows_of t c.args.self.now c.args.trace ≡ Some c.in-Some-get_mut.latest.now = sym shown ∙ (at_id slots c.args.trace id.ensures.id ∙ (ap slots (sym id.ensures.halves) ∙ found)) in
    let bad : None ≡ Some c.in-Some-get_mut.latest.now = sym none ∙ there in
    absurd (cc)

pub returns-clause-others_unchanged : goal.returns-clause-others_unchanged
returns-clause-others_unchanged c = λ other ne.
    let t = c.args.tenant in
    let k = c.in-Some.number in
    let id = c.halves_of-id.result in
    let numbers = c.self.inside.numbers in
    let found : at (pair_cmp nat_cmp) t numbers.entries id ≡ Some c.in-Some-get_mut.latest.now = sym c.in-Some-get_mut.ensures.value in
    seats_put_other numbers (c.get_mut.follows.lender k) t id other (Some k) ((c.get_mut.follows.holds k).3 (ap is_some found)) ne ∙ ap (latest_rows_of other) c.self.view_is
