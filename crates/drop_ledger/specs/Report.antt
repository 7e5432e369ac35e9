-- The line that reports a ledger: fourteen counters with their names, in decimal digits. This project's own rule.
use Rattle.std.specs.Prelude.{ℕ, List, codes, ◌++◌}
use Rattle.std.specs.Fmt.{decimal}
use Rattle.drop_ledger.specs.declared.places.Places.{Places}
use Rattle.drop_ledger.specs.Ledger.{LedgerData}

-- a counter with its name
abbrev pub counter : List ℕ → ℕ → List ℕ
counter name spans = name ++ codes "=" ++ decimal spans

-- spans that wait for something
abbrev pub waiting_text : Places → List ℕ
waiting_text places = counter (codes "undecided") places.undecided
    ++ codes " " ++ counter (codes "pending") places.pending
    ++ codes " " ++ counter (codes "queued") places.queued
    ++ codes " " ++ counter (codes "active") places.active

-- spans that were sent, or dropped before their batch was
abbrev pub ended_text : Places → List ℕ
ended_text places = counter (codes "exported") places.exported
    ++ codes " " ++ counter (codes "not_sampled") places.not_sampled
    ++ codes " " ++ counter (codes "too_early") places.too_early
    ++ codes " " ++ counter (codes "queue_full") places.queue_full

-- spans that the back end didn't take
abbrev pub refused_text : Places → List ℕ
refused_text places = counter (codes "retry_exhausted") places.retry_exhausted
    ++ codes " " ++ counter (codes "back_end_refused") places.back_end_refused
    ++ codes " " ++ counter (codes "back_end_rejected") places.back_end_rejected

-- the line, without its end
abbrev pub report_text : LedgerData → List ℕ
report_text ledger = counter (codes "accepted") ledger.accepted
    ++ codes " " ++ waiting_text ledger.places
    ++ codes " " ++ ended_text ledger.places
    ++ codes " " ++ refused_text ledger.places
    ++ codes " " ++ counter (codes "invalid") ledger.invalid
    ++ codes " " ++ counter (codes "over_budget") ledger.over_budget
