-- A body made ready for a tenant, as a step of its own. This project's own rule.
use Rattle.std.specs.Prelude.{◌++◌, ℕ, List, [], None, replicate}
use Rattle.span_view.specs.Reading.{facts_of}
use Rattle.tenant_rules.specs.Arrivals.{Arrival}
use Rattle.tenant_rules.specs.Own.{Own, Post}
use Rattle.prepared_body.specs.Prepared.{PreparedData}

-- a span without ids
abbrev pub invalid_arrival : Arrival
invalid_arrival = record {
  facts = facts_of [] [];
  text = [];
  origin = record { resource = None; resource_schema_url = []; scope = None; scope_schema_url = [] };
}

-- the spans of a body for a tenant's rules, which see of an invalid one only that it is one
abbrev pub arrivals_of : PreparedData → List Arrival
arrivals_of prepared = prepared.arrivals ++ replicate prepared.invalid invalid_arrival

-- a post of the body
abbrev pub post_of : ℕ → PreparedData → Own
post_of now prepared = Post now (arrivals_of prepared)
