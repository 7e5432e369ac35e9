-- The statuses with which the program ends. This project's own rule.
use Rattle.std.specs.Prelude.{ℕ, Result, Ok, Err}
use Rattle.collector_bench.specs.declared.fault.BenchFault.{BenchFault}
use Rattle.collector_bench.specs.declared.fault.BenchFault.TheVariants.{Usage, OutOfMemory}

-- 2 for wrong usage, 3 for want of memory, 1 for any other fault
abbrev pub status_of : BenchFault → ℕ
status_of Usage = 2
status_of OutOfMemory = 3
status_of fault = 1

-- 0 where it comes to its end
abbrev pub end_status : Result Unit BenchFault → ℕ
end_status (Ok done) = 0
end_status (Err fault) = status_of fault
