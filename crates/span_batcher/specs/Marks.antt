-- How spans that were appended are taken back. This project's own rule.
use Rattle.std.specs.Prelude.{ℕ, length, take, Option}
use Rattle.span_batcher.specs.State.{State}

-- how many spans are pending, and the moment at which their timer started
pub record MarkData : Type 0 where
  pub count : ℕ
  pub start : Option ℕ

-- the mark of a batcher
abbrev pub mark_of : {X : Type 0} → State X → MarkData
mark_of s = record { count = length s.spans; start = s.start }

-- a batcher in which no more than the first spans are pending, as many as at the mark, and their timer is that of then
abbrev pub cut_back : {X : Type 0} → MarkData → State X → State X
cut_back mark s = record { rules = s.rules; start = mark.start; spans = take mark.count s.spans }
