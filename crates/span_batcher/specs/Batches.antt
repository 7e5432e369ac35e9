-- The batches of a list of groups of spans of any type, by the settings `timeout`, `send_batch_size` and
-- `send_batch_max_size` of the OpenTelemetry Collector's batch processor. What its document leaves open is chosen here.
--
-- The spans of all groups stand in one list. Some of its first ones are in batches; the next batch is a front of the
-- rest, and ends
-- - with no timeout: at the end of its first span's group, at that group's moment;
-- - else at the end of the first group that makes it full, where that comes before the timer runs out;
-- - else, when the timer runs out, before the first span of that moment or a later one;
-- - else, at a drain, at the end of the list;
-- but never after more spans than are allowed. The timer of a batch starts at the moment of its first span.
use Rattle.std.specs.Prelude.{ℕ, ◌+◌, ◌<◌, ◌≤◌, Bool, true, false, List, [], ◌∷◌, ◌++◌, length, take, drop, map, min, Option, Some, None, if◌then◌else◌, ◌==◌, ◌&&◌, nat_lt, nat_le, suc, zero}

-- the settings of a batcher: `timeout` in milliseconds, of which 0 is no wait; `send_batch_size`, the number of spans
-- that fills a batch; `send_batch_max_size`, the greatest number of spans in one, of which 0 is no limit
pub record Rules : Type 0 where
  pub timeout : ℕ
  pub size : ℕ
  pub most : ℕ

-- the settings' ranges: a batch has a span, and one of the size that fills it isn't too large
abbrev pub AreValidRules : Rules → Type 0
AreValidRules r = (0 < r.size) × (0 < r.most → r.size ≤ r.most)

-- spans that came together, and the moment in milliseconds at which they did
pub record Group (X : Type 0) : Type 0 where
  pub moment : ℕ
  pub spans : List X

-- spans that leave together, and the moment in milliseconds at which they do
pub record Batch (X : Type 0) : Type 0 where
  pub moment : ℕ
  pub spans : List X

-- a span in the list of the spans of all groups: its group's moment, and whether it is the last of its group
pub record Place (X : Type 0) : Type 0 where
  pub moment : ℕ
  pub span : X
  pub is_end : Bool

-- no span of the group follows
abbrev pub is_last : {X : Type 0} → List X → Bool
is_last [] = true
is_last (span ∷ spans) = false

-- the spans of one group of this moment
abbrev pub places : {X : Type 0} → ℕ → List X → List (Place X)
places moment [] = []
places moment (span ∷ spans) =
    record { moment = moment; span = span; is_end = is_last spans } ∷ places moment spans

-- the spans of all groups, in one list
abbrev pub numbered : {X : Type 0} → List (Group X) → List (Place X)
numbered [] = []
numbered (group ∷ groups) = places group.moment group.spans ++ numbered groups

-- the span at a place
abbrev pub span_of : {X : Type 0} → Place X → X
span_of p = p.span

-- where the next batch ends, so many spans on, and the moment at which it forms
pub record Cut : Type 0 where
  pub moment : ℕ
  pub count : ℕ

-- how many spans the first group has
abbrev pub first_end : {X : Type 0} → List (Place X) → ℕ
first_end [] = 0
first_end (p ∷ rest) = if p.is_end then 1 else first_end rest + 1

-- the end of the first group with which there are at least `size` spans, `passed` of them before these
abbrev pub filled : {X : Type 0} → ℕ → ℕ → List (Place X) → Option Cut
filled size passed [] = None
filled size passed (p ∷ rest) =
    if p.is_end && nat_le size (passed + 1) then Some (record { moment = p.moment; count = passed + 1 })
    else filled size (passed + 1) rest

-- how many spans stand before the first that isn't of a moment before the due one
abbrev pub before : {X : Type 0} → ℕ → List (Place X) → ℕ
before due [] = 0
before due (p ∷ rest) = if nat_lt p.moment due then before due rest + 1 else 0

-- a due moment isn't after the drain, where there was one
abbrev pub is_by : ℕ → Option ℕ → Bool
is_by due None = true
is_by due (Some drained) = nat_le due drained

-- at a drain all that is left is one batch
abbrev pub by_drain : {X : Type 0} → Option ℕ → List (Place X) → Option Cut
by_drain None rest = None
by_drain (Some drained) rest = Some (record { moment = drained; count = length rest })

-- the batch of the timer, where it ran out by the moment reached and no drain came first; else that of the drain
abbrev pub by_timer : {X : Type 0} → ℕ → Option ℕ → ℕ → List (Place X) → Option Cut
by_timer reached drain due rest =
    if nat_le due reached && is_by due drain then Some (record { moment = due; count = before due rest })
    else by_drain drain rest

-- the batch that is full before the timer runs out; else that of the timer or the drain
abbrev pub by_size : {X : Type 0} → ℕ → Option ℕ → ℕ → Option Cut → List (Place X) → Option Cut
by_size reached drain due None rest = by_timer reached drain due rest
by_size reached drain due (Some cut) rest =
    if nat_lt cut.moment due then Some cut else by_timer reached drain due rest

-- the next batch by the moment reached and the drain, where no number of spans is too large
abbrev pub uncapped : {X : Type 0} → Rules → ℕ → Option ℕ → List (Place X) → Option Cut
uncapped rules reached drain [] = None
uncapped rules reached drain (p ∷ rest) =
    if rules.timeout == 0 then Some (record { moment = p.moment; count = first_end (p ∷ rest) })
    else by_size reached drain (p.moment + rules.timeout) (filled rules.size 0 (p ∷ rest)) (p ∷ rest)

-- so many spans, or as many as are allowed
abbrev pub at_most : ℕ → ℕ → ℕ
at_most most count = if most == 0 then count else min most count

-- a batch of no more spans than are allowed
abbrev pub capped : ℕ → Option Cut → Option Cut
capped most None = None
capped most (Some cut) = Some (record { moment = cut.moment; count = at_most most cut.count })

-- the next batch of a rest, if it forms by the moment reached
unfoldable pub next_cut : {X : Type 0} → Rules → ℕ → Option ℕ → List (Place X) → Option Cut
next_cut rules reached drain rest = capped rules.most (uncapped rules reached drain rest)

-- the batch that is cut from a rest, where one is
abbrev pub batch_of : {X : Type 0} → Option Cut → List (Place X) → List (Batch X)
batch_of None rest = []
batch_of (Some cut) rest = record { moment = cut.moment; spans = map span_of (take cut.count rest) } ∷ []

-- what the cut leaves of the rest
abbrev pub past : {X : Type 0} → Option Cut → List (Place X) → List (Place X)
past None rest = rest
past (Some cut) rest = drop cut.count rest

-- the batches of a rest, no more than a number of them
abbrev pub some_batches : {X : Type 0} → ℕ → Rules → ℕ → Option ℕ → List (Place X) → List (Batch X)
some_batches zero rules reached drain rest = []
some_batches (suc n) rules reached drain rest =
    batch_of (next_cut rules reached drain rest) rest
    ++ some_batches n rules reached drain (past (next_cut rules reached drain rest) rest)

-- what these batches leave of the rest
abbrev pub some_rest : {X : Type 0} → ℕ → Rules → ℕ → Option ℕ → List (Place X) → List (Place X)
some_rest zero rules reached drain rest = rest
some_rest (suc n) rules reached drain rest =
    some_rest n rules reached drain (past (next_cut rules reached drain rest) rest)

-- all batches of a rest: there are no more than spans, since each has one
unfoldable pub batches_in : {X : Type 0} → Rules → ℕ → Option ℕ → List (Place X) → List (Batch X)
batches_in rules reached drain rest = some_batches (length rest) rules reached drain rest

-- what all batches leave of a rest
unfoldable pub rest_in : {X : Type 0} → Rules → ℕ → Option ℕ → List (Place X) → List (Place X)
rest_in rules reached drain rest = some_rest (length rest) rules reached drain rest

-- the batches of the groups by the moment reached, and by the drain where there was one
abbrev pub batches : {X : Type 0} → Rules → ℕ → Option ℕ → List (Group X) → List (Batch X)
batches rules reached drain groups = batches_in rules reached drain (numbered groups)

-- the spans that are in none of these batches
abbrev pub left : {X : Type 0} → Rules → ℕ → Option ℕ → List (Group X) → List (Place X)
left rules reached drain groups = rest_in rules reached drain (numbered groups)
