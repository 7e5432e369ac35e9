-- Keys that are compared are the same.
use Rattle.std.proofs.Common.{◌≡◌, ◌&&◌, ℕ, true, refl, ap, nat_eq, Option, Some, None}
use Rattle.std.specs.Option.{option_eq}
use Rattle.std.proofs.lemmas.Bool.{and_parts, eqb-true}
use Rattle.span_pool.specs.Stored.{OwnedKeys}
use Rattle.span_pool.specs.contracts.keys.TextKeysPartialEq.TheImpl as keys_equal
use Rattle.span_pool.specs.declared.keys.TextKeys.{TextKeys}

one_same : (r q : Option ℕ) → option_eq nat_eq r q ≡ true → r ≡ q
one_same None None h = refl
one_same (Some m) (Some n) h = ap Some (eqb-true m n h)
one_same _ _ h = cc

all_same : (a b : TextKeys) → keys_equal.eq-value.it a b ≡ true → a ≡ b
all_same a b h =
    let one = and_parts (option_eq nat_eq a.resource b.resource) (option_eq nat_eq a.resource_schema_url b.resource_schema_url && (option_eq nat_eq a.scope b.scope && option_eq nat_eq a.scope_schema_url b.scope_schema_url)) h in
    let two = and_parts (option_eq nat_eq a.resource_schema_url b.resource_schema_url) (option_eq nat_eq a.scope b.scope && option_eq nat_eq a.scope_schema_url b.scope_schema_url) one.1 in
    let three = and_parts (option_eq nat_eq a.scope b.scope) (option_eq nat_eq a.scope_schema_url b.scope_schema_url) two.1 in
    let resource = one_same a.resource b.resource one.0 in
    let resource_url = one_same a.resource_schema_url b.resource_schema_url two.0 in
    let scope = one_same a.scope b.scope three.0 in
    let scope_url = one_same a.scope_schema_url b.scope_schema_url three.1 in
    λ i. record { resource = resource i; resource_schema_url = resource_url i; scope = scope i; scope_schema_url = scope_url i }

-- keys of one owner that are
pub keys_same : (held : OwnedKeys) (owner : ℕ) (keys : TextKeys) → held.owner ≡ owner → keys_equal.eq-value.it held.keys keys ≡ true → held ≡ record { owner = owner; keys = keys }
keys_same held owner keys same is =
    let all = all_same held.keys keys is in
    λ i. record { owner = same i; keys = all i }
