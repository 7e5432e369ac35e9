-- Maps by tenant and key, and ids of traces as keys: this project's own rule.
use Rattle.std.specs.Prelude.{ℕ, Bool, take, drop, length, List, Option, None, if◌then◌else◌, ◌==◌, ◌&&◌, nat_lt}
use Rattle.std.specs.Int.{w64, from_be_bytes}
use Rattle.std.specs.List.{list_all}
use Rattle.std.specs.Ordering.{nat_cmp, ordering_then, is_eq}
use Rattle.std.specs.Map.{lookup}
use Rattle.std.specs.declared.cmp.Ordering.{Ordering}
use Rattle.std.specs.declared.cmp.Reverse.{Reverse}

-- pairs of a tenant and a key in order: by tenant, then by key
abbrev pub pair_cmp : {J : Type 0} → (J → J → Ordering) → ℕ × J → ℕ × J → Ordering
pair_cmp cmp x y = ordering_then (nat_cmp x.0 y.0) (cmp x.1 y.1)

-- a tenant's part of a map's entries, by the key
abbrev pub at : {J X : Type 0} → (J → J → Ordering) → ℕ → List ((ℕ × J) × X) → J → Option X
at cmp tenant es key = lookup (λ q. is_eq (pair_cmp cmp (tenant, key) q)) es

-- numbers in order, the greatest first
abbrev pub latest_cmp : Reverse ℕ → Reverse ℕ → Ordering
latest_cmp x y = nat_cmp y.0 x.0

-- sixteen bytes
abbrev pub is_id : List ℕ → Bool
is_id trace = (length trace == 16) && list_all (λ byte. nat_lt byte 256) trace

-- the two numbers that an id's halves are, each with the most significant byte first
abbrev pub halves : List ℕ → ℕ × ℕ
halves trace = (from_be_bytes w64 (take 8 trace), from_be_bytes w64 (drop 8 trace))

-- what is at each id's halves; nothing at what is no id
unfoldable pub by_id : {X : Type 0} → (ℕ × ℕ → Option X) → List ℕ → Option X
by_id slots trace = if is_id trace then slots (halves trace) else None

-- a tenant's part of the entries of a map by tenant and an id's halves, by the id
abbrev pub latest_rows_of : ℕ → List ((ℕ × (ℕ × ℕ)) × ℕ) → List ℕ → Option ℕ
latest_rows_of tenant entries = by_id (at (pair_cmp nat_cmp) tenant entries)
