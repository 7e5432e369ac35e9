-- How much memory a process has, as Linux tells it in /proc/self/status (proc_pid_status(5): a line for each figure,
-- which is a name, a colon, blanks and a value). This project's own rule.
use Rattle.std.specs.Prelude.{codes, ℕ, ◌*◌, List, Option, option_map}
use Rattle.service_runtime.specs.ProcText.{number_behind}

-- behind this stands the figure: the line before ends, and this one is that of the resident memory
abbrev pub title : List ℕ
title = codes "\nVmRSS:"

-- and behind the figure its unit, of 1,024 bytes
abbrev pub unit : List ℕ
unit = codes " kB"

-- the bytes of memory that a text tells; none where it tells none
abbrev pub resident_in : List ℕ → Option ℕ
resident_in text = option_map (λ n. n * 1024) (number_behind title unit text)
