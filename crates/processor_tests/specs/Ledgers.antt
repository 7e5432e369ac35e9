-- Which small ledgers are sound, worked out by hand. This project's own rule.
use Rattle.std.specs.Prelude.{◌^◌}
use Rattle.drop_ledger.specs.Ledger.{LedgerData, LedgerInvariant, no_places, no_spans}

-- three spans that wait for the decision
abbrev pub three : LedgerData
three = record no_spans { accepted = 3; places = record no_places { undecided = 3 } }

-- what a sound ledger is: each span in one place, and 2^62 counted at most
pub record Soundness : Type 0 where
  pub none : LedgerInvariant no_spans
  pub in_one_place : LedgerInvariant three
  pub lost : LedgerInvariant (record no_spans { accepted = 1 }) → ⊥
  pub twice : LedgerInvariant (record no_spans { accepted = 1; places = record no_places { active = 1; exported = 1 } })
      → ⊥
  pub most : LedgerInvariant (record no_spans { invalid = 2 ^ 62 })
  pub one_more : LedgerInvariant (record no_spans { invalid = 2 ^ 62; over_budget = 1 }) → ⊥
