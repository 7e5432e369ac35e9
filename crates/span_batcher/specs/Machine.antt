-- What the calls do to the pending spans, step by step (Batches, after the Collector's batchprocessor).
use Rattle.std.specs.Prelude.{ℕ, zero, suc, List, [], ◌∷◌, ◌++◌, length, take, drop, Option, Some, None, if◌then◌else◌, ◌==◌, nat_le, unwrap_or, ◌<◌, ◌≤◌, ◌^◌}
use Rattle.span_batcher.specs.Batches.{Rules, Batch, at_most}
use Rattle.span_batcher.specs.State.{State}

-- from how many pending spans on a batch is cut
abbrev pub threshold : Rules → ℕ
threshold r = if r.timeout == 0 then 1 else r.size

-- the batches that are cut at a moment, no more than a number of them
abbrev pub some_cuts : {X : Type 0} → ℕ → Rules → ℕ → List X → List (Batch X)
some_cuts zero r moment spans = []
some_cuts (suc n) r moment spans =
    if nat_le (threshold r) (length spans)
    then record { moment = moment; spans = take (at_most r.most (length spans)) spans }
    ∷ some_cuts n r moment (drop (at_most r.most (length spans)) spans)
    else []

-- what these cuts leave
abbrev pub some_uncut : {X : Type 0} → ℕ → Rules → List X → List X
some_uncut zero r spans = spans
some_uncut (suc n) r spans =
    if nat_le (threshold r) (length spans) then some_uncut n r (drop (at_most r.most (length spans)) spans) else spans

-- all batches that are cut at a moment: there are no more than spans
unfoldable pub cuts : {X : Type 0} → Rules → ℕ → List X → List (Batch X)
cuts r moment spans = some_cuts (length spans) r moment spans

-- what all cuts leave
unfoldable pub uncut : {X : Type 0} → Rules → List X → List X
uncut r spans = some_uncut (length spans) r spans

-- when the timer of a new rest starts
abbrev pub start_in : {X : Type 0} → ℕ → List X → Option ℕ
start_in moment [] = None
start_in moment (span ∷ spans) = Some moment

-- when the timer starts after spans came: anew after a cut, and where nothing was pending
abbrev pub start_with : {X : Type 0} → ℕ → List X → State X → Option ℕ
start_with moment all s =
    if nat_le (threshold s.rules) (length all) then start_in moment (uncut s.rules all)
    else Some (unwrap_or s.start moment)

-- a batcher to which spans came
unfoldable pub added : {X : Type 0} → ℕ → List X → State X → State X
added moment spans s = record {
  rules = s.rules;
  start = start_with moment (s.spans ++ spans) s;
  spans = uncut s.rules (s.spans ++ spans);
}

-- a batcher whose timer ran out
abbrev pub fired : {X : Type 0} → State X → State X
fired s = record { rules = s.rules; start = None; spans = [] }

-- the settings, from their three numbers
abbrev pub rules_of : ℕ → ℕ → ℕ → Rules
rules_of timeout size most = record { timeout = timeout; size = size; most = most }

-- a start that fits
abbrev pub IsUpToLatest : Option ℕ → Type 0
IsUpToLatest None = Unit
IsUpToLatest (Some start) = start ≤ 2 ^ 62

-- settings in their ranges, a timeout of at most 2^32 ms and a start of at most 2^62 ms, so that no sum passes 64 bits
pub record IsFit (timeout : ℕ) (size : ℕ) (most : ℕ) (start : Option ℕ) : Type 0 where
  pub some : 0 < size
  pub limit : 0 < most → size ≤ most
  pub timer : timeout ≤ 2 ^ 32
  pub latest : IsUpToLatest start

-- the batch of a drain, where spans are pending
abbrev pub drained : {X : Type 0} → ℕ → List X → Option (Batch X)
drained moment [] = None
drained moment (s ∷ spans) = Some (record { moment = moment; spans = s ∷ spans })

-- what a group makes of the pending spans: the batches that it fills, the spans that are pending then, and the moment
-- at which their timer started
pub record PlannedData (X : Type 0) : Type 0 where
  pub batches : List (Batch X)
  pub start : Option ℕ
  pub spans : List X

-- a batcher in which what was planned has come about
abbrev pub taken : {X : Type 0} → PlannedData X → State X → State X
taken planned s = record { rules = s.rules; start = planned.start; spans = planned.spans }
