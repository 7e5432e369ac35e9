-- The report on a text, which is good exactly where the text means settings. This project's own rule.
use Rattle.std.specs.Prelude.{◌≡◌, codes, ℕ, Bool, true, false, List, [], ◌++◌, Option, Result, Ok, Err}
use Rattle.std.specs.Str.{IsUtf8}
use Rattle.toml.specs.Data.{Members}
use Rattle.toml.specs.Parse.{parse_document}
use Rattle.toml.specs.Text.{IsDocumentText}
use Rattle.tail_settings.specs.Fault.{FaultData}
use Rattle.tail_settings.specs.Settings.{SettingsData, settings_of}
use Rattle.settings_check.specs.Document.{document_of}
use Rattle.settings_check.specs.Doubts.{doubts_in}
use Rattle.settings_check.specs.Place.{PlaceData, IsPlace, members_in}
use Rattle.settings_check.specs.FaultTexts.{fault_text}
use Rattle.settings_check.specs.Warning.{warnings_of}

-- Of settings: the warnings, and a document that says all of them and means them again. Of a fault: that fault, with
-- the words of the tenant and of the policy that it is in, and those of the TOML reader; and the warnings.
abbrev pub Reports : Option Members → Result SettingsData FaultData → Bool → List ℕ → Type 0
Reports document (Ok settings) is_good text =
    (is_good ≡ true) × (shown : List ℕ)
    × (text ≡ warnings_of document ++ codes "# the settings in force\n" ++ shown)
    × IsDocumentText false (document_of settings) shown × (settings_of shown ≡ Ok settings)
Reports document (Err fault) is_good text =
    (is_good ≡ false) × (place : PlaceData) × (words : List ℕ) × IsPlace fault (members_in document) place
    × (text ≡ fault_text place fault words ++ warnings_of document)

-- the report on a text, and what is doubtful in the settings that it means
abbrev pub IsReport : List ℕ → Bool → List ℕ → List ℕ → Type 0
IsReport text is_good report doubts =
    Reports (parse_document text) (settings_of text) is_good report × (doubts ≡ doubts_in (settings_of text))

-- the report on a file's bytes, which are a text or not, and what is doubtful in the settings that they mean
pub record IsFileReport (bytes : List ℕ) (is_good : Bool) (report doubts : List ℕ) : Type 0 where
  pub text : IsUtf8 bytes → IsReport bytes is_good report doubts
  pub no_text : (IsUtf8 bytes → ⊥) → (is_good ≡ false) × (report ≡ codes "settings fault 10\nthe file is not UTF-8\n")
      × (doubts ≡ [])
