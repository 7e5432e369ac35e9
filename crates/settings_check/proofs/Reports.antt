-- The report on a fault, from what its parts say.
use Rattle.std.proofs.Common.{◌≡◌, ℕ, false, List, [], ◌++◌, Option, Some, None, Err, option_map, String, BTreeMap, Global, Bor, refl, sym, subst, ap, ◌∙◌}
use Rattle.std.specs.Prelude.{IfSome, IsSomeAnd, option_copied}
use Rattle.toml.specs.Parse.{parse_document}
use Rattle.toml.specs.View.{table_view}
use Rattle.toml.specs.declared.value.Value.{Value}
use Rattle.tail_settings.specs.Fault.{FaultData}
use Rattle.tail_settings.specs.Settings.{settings_of}
use Rattle.settings_check.specs.Doubts.{doubts_in}
use Rattle.settings_check.specs.Place.{PlaceData, IsPlace, members_in}
use Rattle.settings_check.specs.Report.{Reports, IsReport}
use Rattle.settings_check.specs.FaultTexts.{fault_text}
use Rattle.settings_check.specs.Warning.{warnings_of}

pub fault_reports : (o : Option FaultData) (place : PlaceData) (text words head told doubts : List ℕ) → IsSomeAnd o (λ seen. head ≡ fault_text place seen words) → IfSome o (λ seen. settings_of text ≡ Err seen) → ((seen : FaultData) → o ≡ Some seen → IsPlace seen (members_in (parse_document text)) place) → told ≡ head ++ warnings_of (parse_document text) → doubts ≡ [] → IsReport text false told doubts
fault_reports None place text words head told doubts h k named whole none = absurd h
fault_reports (Some seen) place text words head told doubts h k named whole none = (
  subst (λ r. Reports (parse_document text) r false told) (sym k)
      (refl, place, words, named seen refl, subst (λ t. told ≡ t ++ warnings_of (parse_document text)) h whole),
  none ∙ ap doubts_in (sym k),
)

pub by_ref : (r : Option (Bor (BTreeMap (String Global) Value))) (d : Option (BTreeMap (String Global) Value)) → option_copied r ≡ d → option_map (λ t. table_view t.now) r ≡ option_map table_view d
by_ref None d same = rw (← same) refl
by_ref (Some t) d same = rw (← same) refl
