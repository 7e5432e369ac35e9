-- Laws of lanes. This project's own rule.
use Rattle.std.specs.Prelude.{◌≡◌, ℕ, ◌+◌, List, length, take, flat_map, All, Contains}
use Rattle.log_positions.specs.Numbered.{items_of, AreRising}
use Rattle.job_lane.specs.Lane.{NumberedJob, SeatLists, WasFull, WasEmpty, IsWholeRun}

-- where a lane's only seat found it full, it had pushed as many more as the lane holds, and where it found it empty, it
-- had popped all
abbrev pub LoneSeatsKnow : Type 0
LoneSeatsKnow = (capacity : ℕ) (s : SeatLists) → s.lane.seats ≡ 1 →
    (WasFull capacity s → length s.pushes ≡ length s.pops + capacity)
    × (WasEmpty s → length s.pushes ≡ length s.pops)

-- the pushes and the pops of all seats
abbrev pub all_pushes : List SeatLists → List NumberedJob
all_pushes seats = flat_map (λ s. s.pushes) seats

-- their pops
abbrev pub all_pops : List SeatLists → List NumberedJob
all_pops seats = flat_map (λ s. s.pops) seats

-- what was popped was pushed, under the same number, and what was pushed and not popped is left
abbrev pub PopsWerePushed : Type 0
PopsWerePushed = (seats : List SeatLists) (taken left : ℕ) → IsWholeRun seats taken left →
    All (Contains (all_pushes seats)) (all_pops seats)
    × (length (all_pops seats) ≡ taken)
    × (length (all_pushes seats) ≡ taken + left)

-- where one seat alone pushed and one alone popped, jobs come out in the order in which they went in
abbrev pub FirstInFirstOut : Type 0
FirstInFirstOut = (seats : List SeatLists) (taken left : ℕ) (from to : SeatLists) → IsWholeRun seats taken left →
    all_pushes seats ≡ from.pushes → all_pops seats ≡ to.pops → AreRising from.pushes → AreRising to.pops →
    items_of to.pops ≡ take taken (items_of from.pushes)
