-- What is told of a tenant. This project's own rule.
use Rattle.std.specs.Prelude.{ℕ, List, Option, string_bytes}
use Rattle.drop_ledger.specs.Ledger.{LedgerData, ledger_of}
use Rattle.admin_pages.specs.declared.figures.LastAnswer.{LastAnswer}
use Rattle.admin_pages.specs.declared.figures.TenantFigures.{TenantFigures}
use Rattle.admin_pages.specs.declared.figures.TenantUsage.{TenantUsage}

-- a tenant's name, its ledger, how full it is and how full it may be, when something of it is due next, in milliseconds
-- since the start, if anything waits, and what its back end answered last, if anything
pub record TenantData : Type 0 where
  pub name : List ℕ
  pub ledger : LedgerData
  pub usage : TenantUsage
  pub ready : Option ℕ
  pub back_end : Option LastAnswer

-- what the code's value stands for
abbrev pub tenant_of : TenantFigures → TenantData
tenant_of figures = record {
  name = string_bytes figures.name;
  ledger = ledger_of figures.counters;
  usage = figures.usage;
  ready = figures.ready;
  back_end = figures.back_end;
}

-- of a tenant that has gone nothing is there, and there is no room for anything
abbrev pub no_usage : TenantUsage
no_usage = record {
  rows = 0;
  undecided_rows = 0;
  rows_limit = 0;
  spans_limit = 0;
  queued_batches = 0;
  queued_batches_limit = 0;
  queued_bytes = 0;
  queued_bytes_limit = 0;
}
