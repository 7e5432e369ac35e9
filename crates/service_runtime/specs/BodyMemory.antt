-- How much counts for a body that is on its way, and how much may. This project's own rule.
use Rattle.std.specs.Prelude.{◌≡◌, ℕ, ◌+◌, ◌≤◌, nat_le, List, Option, Some, None, if◌then◌else◌}
use Rattle.http1.specs.Fields.{Header, known_fields}
use Rattle.http1.specs.declared.fields.ContentLength.{ContentLength}
use Rattle.http1.specs.declared.fields.ContentLength.TheVariants.{Absent, Value, Invalid}
use Rattle.http_edge.specs.Limits.{max_body}
use Rattle.http_edge.specs.Message.{sized, chunked, framing_by}

-- what is claimed with so many bytes more, where that isn't more than may be
abbrev pub claimed_with : ℕ → ℕ → ℕ → Option ℕ
claimed_with most claimed bytes = if nat_le (claimed + bytes) most then Some (claimed + bytes) else None

-- so many bytes count for a body of which this is said: its length, and else those of the longest that is taken
abbrev pub counted_by : ContentLength → ℕ
counted_by Absent = max_body
counted_by (Value length) = length
counted_by Invalid = max_body

-- so many bytes count for the body behind a head with these fields
abbrev pub counted_for : List Header → ℕ
counted_for headers = counted_by (known_fields headers).content_length

-- no body that is taken has more bytes than count for it: one of a stated length, which isn't above the limit, and one
-- in chunks, which may have as many as the limit
abbrev pub CountsCoverBodies : Type 0
CountsCoverBodies =
    (minor : ℕ) (headers : List Header)
    → ((n : ℕ) → framing_by minor headers ≡ Some (sized n) → n ≤ max_body → n ≤ counted_for headers)
    × (framing_by minor headers ≡ Some chunked → counted_for headers ≡ max_body)
