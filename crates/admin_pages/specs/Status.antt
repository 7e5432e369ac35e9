-- Statuses under which requests are counted, those that a client is told where spans come in (RFC 9110, section 15, and
-- RFC 6585, sections 4 and 5); and classes of statuses under which answers of back ends are.
use Rattle.std.specs.Prelude.{ℕ, ◌==◌, ◌+◌, ◌/◌, List, [], ◌∷◌, ◌++◌, length, map, slice_index_or, if◌then◌else◌, codes, decimal}

-- These statuses. A message that is none is told 400, 413 or 431, and one for no tenant 403, 404, 405 or 415. A body is
-- told 200, 429 or 503, and one without a value 400. Where memory is refused, 503 is told.
abbrev pub told_statuses : List ℕ
told_statuses = 200 ∷ 400 ∷ 403 ∷ 404 ∷ 405 ∷ 413 ∷ 415 ∷ 429 ∷ 431 ∷ 503 ∷ []

-- where a status stands among some, and their end if it is none of them
abbrev pub place_among : List ℕ → ℕ → ℕ
place_among [] status = 0
place_among (first ∷ rest) status = if status == first then 0 else place_among rest status + 1

-- in which count a request is that was answered with a status: each of these has its own, and all others have the last
abbrev pub status_place : ℕ → ℕ
status_place status = place_among told_statuses status

-- the first digits of the classes that have counts of their own: of success, of a client's error and of a server's
-- error (RFC 9110, section 15)
abbrev pub counted_classes : List ℕ
counted_classes = 2 ∷ 4 ∷ 5 ∷ []

-- in which count an answer of a back end is that has a status: each of these classes has its own, and all others have
-- the last
abbrev pub class_place : ℕ → ℕ
class_place status = place_among counted_classes (status / 100)

-- the count there, with the value of its label: the status in decimal
abbrev pub count_under : List ℕ → ℕ → List ℕ × ℕ
count_under counts status = (decimal status, slice_index_or counts (status_place status) 0)

-- each count, with the value of its label
abbrev pub counts_by_status : List ℕ → List (List ℕ × ℕ)
counts_by_status counts =
    map (count_under counts) told_statuses
    ++ (codes "other", slice_index_or counts (length told_statuses) 0) ∷ []
