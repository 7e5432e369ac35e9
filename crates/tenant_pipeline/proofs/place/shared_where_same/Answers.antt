use Rattle.std.proofs.Common.{◌≡◌, ◌∙◌, true, sym, subst}
use Rattle.std.specs.Prelude.{IfOk}
use Rattle.span_pool.specs.Stored.{OwnedKeys}
use Rattle.span_pool.specs.contracts.keys.TextKeysPartialEq.TheImpl as keys_equal
use Rattle.span_pool.specs.declared.keys.TextKeys.{TextKeys}
use Rattle.tenant_pipeline.proofs.Keys.{keys_same}
use Rattle.tenant_pipeline.proofs.place.shared_where_same.Goals as goal

pub returns-then-eq : goal.returns-then-eq
returns-then-eq c =
    let like = c.args.like.now in
    let owner : like.owner ≡ c.args.tenant = sym c.owner.ensures ∙ c.if-owner-tenant.true in
    let equal : keys_equal.eq-value.it c.keys.result c.args.keys ≡ true = sym c.eq.ensures ∙ c.if-eq.true in
    let keys : keys_equal.eq-value.it like.keys c.args.keys ≡ true = subst (λ (k : TextKeys). keys_equal.eq-value.it k c.args.keys ≡ true) c.keys.ensures equal in
    subst (λ (s : OwnedKeys). IfOk c.shared.result (λ shared. shared ≡ s)) (keys_same like c.args.tenant c.args.keys owner keys) c.shared.ensures
