-- What stands round spans, however it is kept. This project's own rule.
use Rattle.std.specs.Prelude.{◌<◌, ℕ, List, length}
use Rattle.span_pool.specs.Stored.{Origin as OriginData}
use Rattle.prepared_body.specs.Origin.{OriginTexts}
use Rattle.prepared_body.specs.Arrivals.{origin_view, origin_at, HasSameResource}

-- the first origin of the same resource spans, and the texts, whether a URL that is empty is there or missing
abbrev pub around : OriginTexts → ℕ × OriginData
around o = (o.first, origin_view o)

-- where the first origin of its resource spans is one of these, it has its resource
abbrev pub HasItsResource : OriginTexts → List OriginTexts → Type 0
HasItsResource o copies = o.first < length copies → HasSameResource (origin_at copies o.first) (origin_view o)
