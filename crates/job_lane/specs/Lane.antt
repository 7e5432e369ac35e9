-- A lane: a bounded queue of jobs, first in first out, and the seats that push and pop. Jobs are numbered from 0 on in
-- the order of their pushes, which is that of their pops too. This project's own rule.
use Rattle.std.specs.Prelude.{◌≡◌, ℕ, List, [], ◌++◌, length, flat_map, All}
use Rattle.atomic_table.specs.Seated.{TableId}
use Rattle.crossbeam_queue.specs.Fifo.{Held}
use Rattle.log_positions.specs.Numbered.{AreRising, AreFrom, AreAllOf}
use Rattle.job_lane.specs.declared.job.Job.{Job}

-- a job with its number
abbrev pub NumberedJob : Type 0
NumberedJob = ℕ × Job

-- which lane it is, and how many seats it was opened with
pub record LaneName : Type 0 where
  pub table : TableId
  pub seats : ℕ

-- a lane, and how many jobs it holds at most
pub record LaneShape : Type 0 where
  pub name : LaneName
  pub capacity : ℕ

-- a seat: whose it is, what it pushed and what it popped, each in its order
pub record SeatLists : Type 0 where
  pub lane : LaneName
  pub pushes : List NumberedJob
  pub pops : List NumberedJob

-- a lane's name
abbrev pub lane_name : TableId → ℕ → LaneName
lane_name table seats = record { table = table; seats = seats }

-- a seat that did nothing yet
abbrev pub new_seat : LaneName → SeatLists
new_seat lane = record { lane = lane; pushes = []; pops = [] }

-- the jobs that were popped, and then those that the lane holds, are all that were pushed, in order
pub record IsInOrder (pushes pops : List NumberedJob) (gone held : List Job) : Type 0 where
  pub pushed : AreAllOf (gone ++ held) pushes
  pub popped : AreAllOf gone pops

-- a moment at which the lane held these jobs, as a seat knows it that had then done what it did: each job that it
-- pushed is among all that were pushed, each that it popped among all that were popped. A lane's only seat did it all
pub record IsMoment (seats : ℕ) (pushes pops : List NumberedJob) (held : List Job) : Type 0 where
  pub gone : List Job
  pub pushed : AreFrom (gone ++ held) pushes
  pub popped : AreFrom gone pops
  pub alone : seats ≡ 1 → IsInOrder pushes pops gone held

-- at one moment of the call the lane held as many jobs as it can
abbrev pub WasFull : ℕ → SeatLists → Type 0
WasFull capacity s = Held capacity (IsMoment s.lane.seats s.pushes s.pops)

-- at one moment of the call the lane held no job
abbrev pub WasEmpty : SeatLists → Type 0
WasEmpty s = Held 0 (IsMoment s.lane.seats s.pushes s.pops)

-- all that the seats of a lane pushed and popped: each job was pushed once, and popped once or not at all, first in
-- first out, so many were popped and so many are left. Of each seat the numbers rise
pub record IsWholeRun (seats : List SeatLists) (taken left : ℕ) : Type 0 where
  pub gone : List Job
  pub held : List Job
  pub run : IsInOrder (flat_map (λ s. s.pushes) seats) (flat_map (λ s. s.pops) seats) gone held
  pub taken_is : length gone ≡ taken
  pub left_is : length held ≡ left
  pub rising : All (λ s. AreRising s.pushes × AreRising s.pops) seats
