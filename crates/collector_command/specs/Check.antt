-- How a check of settings ends, and what it writes. This project's own rule (docs/OPERATING.md).
use Rattle.std.specs.Prelude.{ℕ, Bool, true, false, List}
use Rattle.settings_check.specs.Report.{IsFileReport}
use Rattle.collector_command.specs.declared.check.End.{End}
use Rattle.collector_command.specs.declared.check.End.TheVariants.{Good, Faulty}

-- whether the end says that settings are good
abbrev pub is_good_end : End → Bool
is_good_end Good = true
is_good_end Faulty = false

-- what is written is the report on a file's bytes, with the doubts beside it, and the end says whether they are good
abbrev pub IsChecked : List ℕ → List ℕ → List ℕ → End → Type 0
IsChecked bytes report doubts end = IsFileReport bytes (is_good_end end) report doubts
