-- What the admin port shows of a tenant. This project's own rule.
use Rattle.std.specs.Prelude.{◌≡◌, ◌≢◌, ℕ, List, [], ◌∷◌, ◌++◌, Option, Some, None}
use Rattle.admin_pages.specs.Figures.{TenantData}
use Rattle.admin_pages.specs.declared.figures.LastAnswer.{LastAnswer}
use Rattle.admin_pages.specs.declared.figures.TenantUsage.{TenantUsage}
use Rattle.drop_ledger.specs.Ledger.{LedgerData, LedgerInvariant}
use Rattle.drop_ledger.specs.Report.{report_text}
use Rattle.tenant_shard.specs.declared.step.Outcome.{Outcome}
use Rattle.tenant_shard.specs.declared.step.Outcome.TheVariants as outcomes
use Rattle.tenant_shard.specs.declared.waiting.Waiting.{Waiting}

-- what an outcome tells of a tenant's spans: the counters of this ledger; or none, of one that has gone, or where what
-- is told is no ledger's line
abbrev pub Tells : Outcome → Option LedgerData → Type 0
Tells (outcomes.Report tenant counters) (Some ledger) = counters ≡ report_text ledger
Tells (outcomes.Report tenant counters) None =
    (ledger : LedgerData) → LedgerInvariant ledger → counters ≢ report_text ledger
Tells _ (Some ledger) = ⊥
Tells _ None = Unit {0}

-- how full a tenant is and may be, as its shard says
abbrev pub usage_shown : Waiting → TenantUsage
usage_shown waiting = record {
  rows = waiting.usage.rows;
  undecided_rows = waiting.usage.undecided_rows;
  rows_limit = waiting.usage.rows_limit;
  spans_limit = waiting.usage.spans_limit;
  queued_batches = waiting.usage.queued_batches;
  queued_batches_limit = waiting.usage.queued_batches_limit;
  queued_bytes = waiting.usage.queued_bytes;
  queued_bytes_limit = waiting.usage.queued_bytes_limit;
}

-- the figures of a tenant with these counters that waits so, whose back end answered this last
abbrev pub figures_with : List ℕ → LedgerData → Waiting → Option LastAnswer → TenantData
figures_with name ledger waiting answer = record {
  name = name;
  ledger = ledger;
  usage = usage_shown waiting;
  ready = waiting.tenant_ready;
  back_end = answer;
}

-- the tenants of whom something was told, behind others
abbrev pub told_of : List TenantData → List ℕ → Option LedgerData → Waiting → Option LastAnswer → List TenantData
told_of figures name (Some ledger) waiting answer = figures ++ figures_with name ledger waiting answer ∷ []
told_of figures name None waiting answer = figures
