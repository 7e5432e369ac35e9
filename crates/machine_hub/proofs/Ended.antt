-- The shards of a hub at its end, each with what it was at first.
use Rattle.std.proofs.Common.{◌≡◌, ℕ, zero, suc, ◌<◌, List, [], ◌∷◌, length, Some, refl, arith}
use Rattle.std.specs.Prelude.{slice_get}
use Rattle.std.proofs.lemmas.Option.{slice_get_within}
use Rattle.machine_hub.specs.declared.view.Home.{Home}
use Rattle.machine_hub.specs.declared.view.Standing.{Standing}
use Rattle.machine_hub.specs.Seats.{SeatState}
use Rattle.machine_hub.specs.Hub.{seats_at, IsShardRun, AreShardRuns}

pub found : {X : Type 0} (xs : List X) (k : ℕ) → k < length xs → (x : X) × (slice_get xs k ≡ Some x)
found [] k within = absurd (omega arith)
found (x ∷ xs) zero within = (x, refl)
found (x ∷ xs) (suc k) within = found xs k (omega arith)

pub shard_run : {M S O C : Type 0} (steps : M → S → O → M → Type 0) (homes : List (Home M)) (callers : List (List (SeatState M S O C))) (shards : List (Standing M S O C)) → AreShardRuns steps homes callers shards
    → (k : ℕ) (s : Standing M S O C) → slice_get shards k ≡ Some s → (home : Home M) × (slice_get homes k ≡ Some home) × IsShardRun steps home (seats_at k callers) s
shard_run steps homes callers shards runs k s at =
    let here = found homes k (omega (arith, slice_get_within shards k s at, runs.count)) in
    (here.0, here.1, runs.each k here.0 s here.1 at)
