-- What groups have changed of a tenant's own is taken back.
use Rattle.std.proofs.Common.{◌≡◌, ◌≤◌, ◌++◌, ◌∙◌, ℕ, List, length, length-append, ap, arith, Option, None, Some}
use Rattle.std.specs.Prelude.{unwrap_or, take}
use Rattle.std.proofs.lemmas.List.{take-append-le}
use Rattle.span_batcher.specs.State as batcher
use Rattle.span_batcher.specs.Machine.{PlannedData}
use Rattle.span_batcher.specs.Marks.{MarkData, cut_back}
use Rattle.tenant_pipeline.specs.Undo.{before}

-- what was pending before the first group that filled a batch is known whatever came after it
pub before_same : (former : Option (PlannedData ℕ)) (old new : batcher.State ℕ) (planned : PlannedData ℕ) → new.rules ≡ old.rules →
    planned.start ≡ old.start → planned.spans ≡ old.spans → before (Some (unwrap_or former planned)) new ≡ before former old
before_same None old new planned rules start spans = λ i. record { rules = rules i; start = start i; spans = spans i }
before_same (Some f) old new planned rules start spans = λ i. record { rules = rules i; start = f.start; spans = f.spans }

-- what was pending at a mark is a front of what is, also with spans that were appended
module _ (mark : MarkData) (old new : batcher.State ℕ) (keys : List ℕ) (rules : new.rules ≡ old.rules) (spans : new.spans ≡ old.spans ++ keys) where
  pub cut_same : (former : Option (PlannedData ℕ)) → mark.count ≤ length (before former old).spans → cut_back mark (before former new) ≡ cut_back mark (before former old)
  cut_same None few =
      let front : take mark.count new.spans ≡ take mark.count old.spans = ap (take mark.count) spans ∙ take-append-le mark.count old.spans keys few in
      λ i. record { rules = rules i; start = mark.start; spans = front i }
  cut_same (Some f) few = λ i. record { rules = rules i; start = mark.start; spans = take mark.count f.spans }

  pub mark_stays : (former : Option (PlannedData ℕ)) → mark.count ≤ length (before former old).spans → mark.count ≤ length (before former new).spans
  mark_stays None few = let size = ap length spans in let more = length-append old.spans keys in omega (arith, few, size, more)
  mark_stays (Some f) few = few
