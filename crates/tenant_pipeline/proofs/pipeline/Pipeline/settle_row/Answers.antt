use Rattle.std.proofs.Common.{◌≡◌, ◌∙◌, ◌++◌, ℕ, List, [], map, sym, ap, subst, arith, append-nil, true, false, Some}
use Rattle.tail_policy.specs.Note.{verdict_of}
use Rattle.tail_settings.specs.Policy.{policy_view}
use Rattle.tail_settings.specs.declared.policy.PolicySpec.{PolicySpec}
use Rattle.tenant_stores.specs.Counts.{one_decided}
use Rattle.tenant_stores.specs.Invariant.{StoreInvariant}
use Rattle.tenant_stores.specs.Shows.{row_shown}
use Rattle.tenant_stores.specs.View.{view}
use Rattle.tenant_pipeline.specs.Drains.{keys_if, spans_left}
use Rattle.tenant_pipeline.specs.StateIn.{part_in, policies_of}
use Rattle.tenant_pipeline.proofs.Verdicts.{keys_kept, keys_dropped, left_kept, left_dropped, row_first}
use Rattle.tenant_pipeline.proofs.pipeline.Pipeline.settle_row.Goals as goal

pub returns-then-samples-clause-store_invariant : goal.returns-then-samples-clause-store_invariant
returns-then-samples-clause-store_invariant c = λ n pending number_is most sound.
    let own = c.args.self.now in
    let p = part_in own c.args.stores.now in
    let row = c.in-Some.row.now in
    let verdict : verdict_of (policies_of own) row.note ≡ true = sym (c.samples.ensures ∙ ap (λ (ps : List PolicySpec). verdict_of (map policy_view ps) row.note) c.as_slice.ensures.value) ∙ c.if-samples.true in
    let keys = c.keep_row.ensures.keys ∙ keys_kept (policies_of own) (p.rows c.args.number) row (sym c.in-Some.ensures) verdict in
    subst (λ (ks : List ℕ). StoreInvariant (one_decided n) (pending ++ ks) [] (part_in own c.keep_row.new.self)) keys (c.keep_row.ensures.store_invariant n pending [] number_is most sound)

pub returns-else-samples-clause-store_invariant : goal.returns-else-samples-clause-store_invariant
returns-else-samples-clause-store_invariant c = λ n pending number_is most sound.
    let own = c.args.self.now in
    let p = part_in own c.args.stores.now in
    let row = c.in-Some.row.now in
    let verdict : verdict_of (policies_of own) row.note ≡ false = sym (c.samples.ensures ∙ ap (λ (ps : List PolicySpec). verdict_of (map policy_view ps) row.note) c.as_slice.ensures.value) ∙ c.if-samples.false in
    subst (λ (ks : List ℕ). StoreInvariant (one_decided n) ks [] (part_in own c.drop_row.new.self)) (sym (append-nil pending) ∙ ap (λ (ks : List ℕ). pending ++ ks) (sym (keys_dropped (policies_of own) (p.rows c.args.number) row (sym c.in-Some.ensures) verdict)))
    (c.drop_row.ensures.store_invariant n pending [] number_is most sound)

pub returns-then-samples-clause-alike : goal.returns-then-samples-clause-alike
returns-then-samples-clause-alike c = λ n pending number_is most sound.
    let own = c.args.self.now in
    let pol = policies_of own in
    let p = part_in own c.args.stores.now in
    let row = c.in-Some.row.now in
    let there : p.rows c.args.number ≡ Some row = sym c.in-Some.ensures in
    let verdict : verdict_of pol row.note ≡ true = sym (c.samples.ensures ∙ ap (λ (ps : List PolicySpec). verdict_of (map policy_view ps) row.note) c.as_slice.ensures.value) ∙ c.if-samples.true in
    let keys = c.keep_row.ensures.keys ∙ keys_kept pol (p.rows c.args.number) row there verdict in
    let first = row_first pol n pending p c.args.number row sound number_is most there in
    let shows = c.keep_row.ensures.shows n pending [] pending number_is most sound in
    ap (λ (ks : List ℕ). spans_left pol (view (one_decided n) (pending ++ ks) (part_in own c.keep_row.new.self))) (sym keys)
    ∙ (ap (spans_left pol) shows ∙ left_kept pol (view n pending p) (row_shown p row) first.0 first.1 verdict)

pub returns-else-samples-clause-alike : goal.returns-else-samples-clause-alike
returns-else-samples-clause-alike c = λ n pending number_is most sound.
    let own = c.args.self.now in
    let pol = policies_of own in
    let p = part_in own c.args.stores.now in
    let q = part_in own c.drop_row.new.self in
    let row = c.in-Some.row.now in
    let there : p.rows c.args.number ≡ Some row = sym c.in-Some.ensures in
    let verdict : verdict_of pol row.note ≡ false = sym (c.samples.ensures ∙ ap (λ (ps : List PolicySpec). verdict_of (map policy_view ps) row.note) c.as_slice.ensures.value) ∙ c.if-samples.false in
    let first = row_first pol n pending p c.args.number row sound number_is most there in
    let shows = c.drop_row.ensures.shows n pending [] pending number_is most sound (λ key. omega arith) in
    let none : pending ++ keys_if pol (p.rows c.args.number) ≡ pending = ap (λ (ks : List ℕ). pending ++ ks) (keys_dropped pol (p.rows c.args.number) row there verdict) ∙ append-nil pending in
    ap (λ (ks : List ℕ). spans_left pol (view (one_decided n) ks q)) none
    ∙ (ap (spans_left pol) shows ∙ left_dropped pol (view n pending p) (row_shown p row) first.0 first.1 verdict)
