-- A line of the input that was answered, by its first word.
use Rattle.std.proofs.Common.{◌≡◌, ℕ, List, ◌++◌, codes, Bool, Option, Some, None, refl}
use Rattle.otlp_front.specs.Route.{number_of}
use Rattle.service_runtime.specs.Documents.{Reads}
use Rattle.service_runtime.specs.Output.{Output, IsPut}
use Rattle.shared_hub.specs.Logs.{CallerState}
use Rattle.tail_settings.specs.Settings.{SettingsData}
use Rattle.service_control.specs.Comings.{Standing, IsAdded}
use Rattle.service_control.specs.Commands.{IsReportedOf, IsRetiredOf, IsAnswered, reports, adds, retires, asks_nothing}
use Rattle.service_front.proofs.Asked.{report_of_nobody, retires_nobody}

module _ (port : Bool) (reads : Reads) (first : SettingsData) (shards : ℕ) (line : List ℕ) (standing : Standing) (old : CallerState) (before : ℕ)
    (so_far : Output) (name : List ℕ) (left : Standing) (new : CallerState) (last : ℕ) (written : Output) where
  report_of : (found : Option ℕ) → number_of standing.present name ≡ found → line ≡ codes "report " ++ name → left ≡ standing
      → IsReportedOf shards name found old before so_far new last written
      → IsAnswered port reads first shards line standing old before so_far left new last written
  report_of (Some tenant) is text same told = reports name tenant text is told same
  report_of None is text same told = asks_nothing (report_of_nobody standing.present line name text is) told.0 told.1 told.2 same

  pub answers_report : line ≡ codes "report " ++ name → left ≡ standing
      → IsReportedOf shards name (number_of standing.present name) old before so_far new last written
      → IsAnswered port reads first shards line standing old before so_far left new last written
  answers_report text same told = report_of (number_of standing.present name) refl text same told

  pub answers_add : line ≡ codes "add " ++ name → last ≡ before
      → ((told : List ℕ) × IsAdded reads first shards name standing old left new told × IsPut so_far written told)
      → IsAnswered port reads first shards line standing old before so_far left new last written
  answers_add text same told = adds name told.0 text told.1 told.2 same

  retirement_of : (found : Option ℕ) → number_of standing.present name ≡ found → line ≡ codes "retire " ++ name
      → IsRetiredOf port shards name found standing old before so_far left new last written
      → IsAnswered port reads first shards line standing old before so_far left new last written
  retirement_of (Some tenant) is text told = retires name tenant text is told
  retirement_of None is text told = asks_nothing (retires_nobody standing.present line name text is) told.1 told.2 told.3 told.0

  pub answers_retire : line ≡ codes "retire " ++ name
      → IsRetiredOf port shards name (number_of standing.present name) standing old before so_far left new last written
      → IsAnswered port reads first shards line standing old before so_far left new last written
  answers_retire text told = retirement_of (number_of standing.present name) refl text told
