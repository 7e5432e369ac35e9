use Rattle.std.proofs.Common.{◌≡◌, ◌∙◌, ap, sym, ℕ, Option, List, true, eqb, ◌&&◌}
use Rattle.std.proofs.lemmas.Bool.{and_parts, eqb-true}
use Rattle.std.specs.Ordering.{nat_cmp}
use Rattle.trace_rows.specs.Maps.{at, pair_cmp, latest_rows_of}
use Rattle.trace_rows.proofs.Parts.{at_id, here_of}
use Rattle.trace_rows.proofs.latest_rows.LatestRows.get.Goals as goal

pub returns-then-eq : goal.returns-then-eq
returns-then-eq c =
    let id = c.halves_of-id in
    let s = c.self.inside in
    let slots : ℕ × ℕ → Option ℕ = at (pair_cmp nat_cmp) c.args.tenant s.numbers.entries in
    let same : (eqb s.id.0 id.result.0 && eqb s.id.1 id.result.1) ≡ true = sym c.eq.ensures ∙ c.if-eq.true in
    let halves = and_parts (eqb s.id.0 id.result.0) (eqb s.id.1 id.result.1) same in
    let here : slots id.result ≡ s.latest = here_of s.numbers.entries s.tenant c.args.tenant s.id id.result s.latest c.if-self-tenant.true (eqb-true s.id.0 id.result.0 halves.0) (eqb-true s.id.1 id.result.1 halves.1) c.self.invariant in
    sym here ∙ (ap slots id.ensures.halves ∙ (sym (at_id slots c.args.trace id.ensures.id) ∙ ap (λ (es : List ((ℕ × (ℕ × ℕ)) × ℕ)). latest_rows_of c.args.tenant es c.args.trace) c.self.view_is))

pub returns : goal.returns
returns c =
    let id = c.halves_of-id in
    let slots : ℕ × ℕ → Option ℕ = at (pair_cmp nat_cmp) c.args.tenant c.self.inside.numbers.entries in
    c.copied.ensures ∙ (c.get.ensures.value ∙ (ap slots id.ensures.halves ∙ (sym (at_id slots c.args.trace id.ensures.id) ∙ ap (λ (es : List ((ℕ × (ℕ × ℕ)) × ℕ)). latest_rows_of c.args.tenant es c.args.trace) c.self.view_is)))
