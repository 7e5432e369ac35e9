-- When origins are equal. Rust asks of each `==` that it be symmetric and transitive (documentation of
-- `std::cmp::PartialEq`), which `IsPartialEquivalence` says of a test; that is shown here of each.
use Rattle.std.specs.Prelude.{Bool}
use Rattle.std.specs.Cmp.{IsPartialEquivalence, partial_equiv_from_equiv, on_per, and_per}
use Rattle.std.specs.Cmp.Lexicographic.{nat_list_eq_equiv, options_equiv}
use Rattle.std.specs.Ordering.{eq_of_both}
use Rattle.span_pool.specs.Stored.{Origin, same_bytes, same_text, same_resource, same_scope}

-- the same resource and scope with the same schemas
abbrev pub origin_eq : Origin → Origin → Bool
origin_eq = eq_of_both same_resource same_scope

-- what Rust asks of the test of bytes
pub bytes_laws : IsPartialEquivalence same_bytes
bytes_laws = partial_equiv_from_equiv nat_list_eq_equiv

text_laws : IsPartialEquivalence same_text
text_laws = partial_equiv_from_equiv (options_equiv nat_list_eq_equiv)

resource_laws : IsPartialEquivalence same_resource
resource_laws = and_per (on_per (λ o. o.resource) text_laws) (on_per (λ o. o.resource_schema_url) bytes_laws)

scope_laws : IsPartialEquivalence same_scope
scope_laws = and_per (on_per (λ o. o.scope) text_laws) (on_per (λ o. o.scope_schema_url) bytes_laws)

-- and of that of origins
pub origin_laws : IsPartialEquivalence origin_eq
origin_laws = and_per resource_laws scope_laws
