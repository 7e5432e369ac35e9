-- What an outcome says of a tenant's counters.
use Rattle.std.proofs.Common.{◌≡◌, ℕ, List, Option, Some, None, IfSome, option_map, sym, ◌∙◌}
use Rattle.drop_ledger.specs.Ledger.{LedgerData, LedgerInvariant, ledger_of}
use Rattle.drop_ledger.specs.Report.{report_text}
use Rattle.tenant_shard.specs.declared.step.Outcome.TheVariants as outcomes
use Rattle.service_front.specs.Figures.{Tells}

pub tells_read : (tenant : ℕ) (text counters : List ℕ) (read : Option (List ℕ)) → text ≡ counters
    → IfSome read (λ cs. text ≡ report_text (ledger_of cs))
    → ((ledger : LedgerData) → LedgerInvariant ledger → text ≡ report_text ledger → option_map ledger_of read ≡ Some ledger)
    → Tells (outcomes.Report tenant counters) (option_map ledger_of read)
tells_read tenant text counters (Some cs) same only each = sym same ∙ only
tells_read tenant text counters None same only each =
    λ ledger holds is. let none : option_map ledger_of None ≡ Some ledger = each ledger holds (same ∙ is) in cc
