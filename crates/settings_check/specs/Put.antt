-- Putting a value at a key of a table, for the proofs of how a table is built. This project's own rule.
use Rattle.std.specs.Prelude.{ℕ, List}
use Rattle.std.specs.Cmp.Lexicographic.{slice_cmp}
use Rattle.std.specs.Ordering.{nat_cmp, match_ordering}
use Rattle.toml.specs.Data.{Data, Members, no_members, member}

-- the members with this value at a key, in the order of their keys
abbrev pub put_member : List ℕ → Data → Members → Members
put_member key d no_members = member key d no_members
put_member key d (member other e rest) =
    match_ordering (slice_cmp nat_cmp key other) (member key d (member other e rest)) (member other d rest)
    (member other e (put_member key d rest))
