-- What the input asks for, and what is done for it and at its end. This project's own rule.
use Rattle.std.specs.Prelude.{◌≡◌, ℕ, ◌%◌, ◌<◌, List, [], ◌∷◌, ◌++◌, filter, not, take, ◌==◌, if◌then◌else◌, codes, map, All, Bool, true, false, Option, Some, None, IfSome}
use Rattle.export_edge.specs.Work.{Through}
use Rattle.machine_hub.specs.declared.receipt.Receipt.{Receipt}
use Rattle.machine_hub.specs.Hub.{IsRefusedOn}
use Rattle.otlp_front.specs.Route.{names_in, number_of}
use Rattle.replay_script.specs.Line.{lines_of}
use Rattle.service_runtime.specs.Input.{line_room}
use Rattle.service_runtime.specs.Documents.{Reads}
use Rattle.service_runtime.specs.Moments.{Rises}
use Rattle.service_runtime.specs.Output.{Output, IsPut}
use Rattle.shared_hub.specs.Logs.{CallerState, IsStepOn, IsEmptyOn}
use Rattle.tail_settings.specs.Change.{strike, after}
use Rattle.tail_settings.specs.Settings.{SettingsData}
use Rattle.tenant_registry.specs.Roster.{Present}
use Rattle.tenant_shard.specs.declared.step.Step.{Step}
use Rattle.tenant_shard.specs.declared.step.Outcome.{Outcome}
use Rattle.tenant_shard.specs.declared.step.Outcome.TheVariants as outcomes
use Rattle.tenant_shard.specs.Outcomes.{not_empty}
use Rattle.service_front.specs.declared.chore.Chore.TheVariants.{Report, Drain, Retire}
use Rattle.service_control.specs.Comings.{Standing, unchanged, IsAdded}
use Rattle.service_front.specs.Lines.{AsksNothing, outcome_line, step_of}

-- the lines of the text, of each as many bytes as are kept
abbrev pub kept_lines : List ℕ → List (List ℕ)
kept_lines text = map (take line_room) (lines_of text)

-- Such a step of the tenant was made at its shard, after calls that were refused memory, each at the moment that the
-- beat then gave, whose last moments these are, before and after.
pub record IsMade (old new : CallerState) (shards tenant before last : ℕ) (step : ℕ → Step) (outcome : Outcome)
    : Type 0 where
  pub refusals : List ℕ
  pub mid : CallerState
  pub refused : Through (λ s now t. IsRefusedOn s t (tenant % shards)) old refusals mid
  pub now : ℕ
  pub receipt : Option Receipt
  pub call : IsStepOn mid new (tenant % shards) (step now) outcome receipt
  pub moments : Rises before (refusals ++ now ∷ []) last

-- one report of the tenant was made at its shard, and what it gave was written under its name
pub record IsReported (name : List ℕ) (old new : CallerState) (shards tenant before last : ℕ)
    (so_far written : Output) : Type 0 where
  pub outcome : Outcome
  pub made : IsMade old new shards tenant before last (step_of Report tenant) outcome
  pub line : IsPut so_far written (outcome_line name outcome)

-- so it was with the tenant of this number, where there is one, and else nothing was done
abbrev pub IsReportedOf : ℕ → List ℕ → Option ℕ → CallerState → ℕ → Output → CallerState → ℕ → Output → Type 0
IsReportedOf shards name (Some tenant) old before so_far new last written =
    IsReported name old new shards tenant before last so_far written
IsReportedOf shards name None old before so_far new last written =
    (new ≡ old) × (last ≡ before) × (written ≡ so_far)

-- these tenants were reported so, one after the other
pub data AreReported (shards : ℕ) (old : CallerState) (before : ℕ) (so_far : Output)
    : Present → CallerState → ℕ → Output → Type 0 where
  no_report : AreReported shards old before so_far [] old before so_far
  report_more : (tenants : Present) (mid : CallerState) (between : ℕ) (text : Output) (tenant : ℕ)
      (name : List ℕ) (new : CallerState) (last : ℕ) (written : Output)
      → AreReported shards old before so_far tenants mid between text
      → IsReported name mid new shards tenant between last text written
      → AreReported shards old before so_far (tenants ++ (tenant, name) ∷ []) new last written

-- these tenants were drained, each by one step at its shard, one after the other
pub data AreDrained (shards : ℕ) (old : CallerState) (before : ℕ) : List ℕ → CallerState → ℕ → Type 0 where
  no_drain : AreDrained shards old before [] old before
  drain_more : (tenants : List ℕ) (mid : CallerState) (between tenant : ℕ) (outcome : Outcome) (new : CallerState)
      (last : ℕ) → AreDrained shards old before tenants mid between
      → IsMade mid new shards tenant between last (step_of Drain tenant) outcome
      → AreDrained shards old before (tenants ++ tenant ∷ []) new last

-- whether a tenant that was to go stays: it wasn't empty
abbrev pub stays : Outcome → Bool
stays (outcomes.Refused tenant number) = number == not_empty
stays _ = false

-- without the tenant of this number, which was struck
abbrev pub without : ℕ → Standing → Standing
without tenant standing = record {
  present = filter (λ other. not (other.0 == tenant)) standing.present;
  changes = standing.changes ++ strike tenant ∷ [];
}

-- who is present, and which changes were made, once the tenant of this number was to go
abbrev pub left_by : Outcome → ℕ → Standing → Standing
left_by outcome tenant standing = if stays outcome then standing else without tenant standing

-- A tenant was to go: it was drained, then it was seen to hold no span, then it was to retire, and what came of that
-- was written under its name. These are present then, and it was struck, unless it stays. Only a service that has an
-- admin port, where its end may be asked for meanwhile, need not have seen that it holds none.
pub record IsRetired (port : Bool) (name : List ℕ) (standing : Standing) (old new : CallerState)
    (shards tenant before last : ℕ) (so_far : Output) (left : Standing) (written : Output) : Type 0 where
  pub after_drain : CallerState
  pub drain_end : ℕ
  pub drain : Outcome
  pub drained : IsMade old after_drain shards tenant before drain_end (step_of Drain tenant) drain
  pub empty : port ≡ false → IsEmptyOn after_drain (tenant % shards) tenant true
  pub outcome : Outcome
  pub made : IsMade after_drain new shards tenant drain_end last (step_of Retire tenant) outcome
  pub left_are : left ≡ left_by outcome tenant standing
  pub line : IsPut so_far written (outcome_line name outcome)

-- so it was with the tenant of this number, where there is one, and else nothing was done
abbrev pub IsRetiredOf : Bool → ℕ → List ℕ → Option ℕ → Standing → CallerState → ℕ → Output → Standing
    → CallerState → ℕ → Output → Type 0
IsRetiredOf port shards name (Some tenant) standing old before so_far left new last written =
    IsRetired port name standing old new shards tenant before last so_far left written
IsRetiredOf port shards name None standing old before so_far left new last written =
    (left ≡ standing) × (new ≡ old) × (last ≡ before) × (written ≡ so_far)

-- Of the tenants that are present the line was answered: by the report of the one for whose counters it asks; by what
-- came of its tenant's coming or going; or by nothing, where it asks for nothing. These are present then, and these
-- changes were made.
pub data IsAnswered (port : Bool) (reads : Reads) (first : SettingsData) (shards : ℕ) (line : List ℕ)
    (standing : Standing) (old : CallerState) (before : ℕ) (so_far : Output) (left : Standing) (new : CallerState)
    (last : ℕ) (written : Output) : Type 0 where
  reports : (name : List ℕ) (tenant : ℕ) → line ≡ codes "report " ++ name → number_of standing.present name ≡ Some tenant
      → IsReported name old new shards tenant before last so_far written → left ≡ standing
      → IsAnswered port reads first shards line standing old before so_far left new last written
  adds : (path told : List ℕ) → line ≡ codes "add " ++ path
      → IsAdded reads first shards path standing old left new told → IsPut so_far written told → last ≡ before
      → IsAnswered port reads first shards line standing old before so_far left new last written
  retires : (name : List ℕ) (tenant : ℕ) → line ≡ codes "retire " ++ name → number_of standing.present name ≡ Some tenant
      → IsRetired port name standing old new shards tenant before last so_far left written
      → IsAnswered port reads first shards line standing old before so_far left new last written
  asks_nothing : AsksNothing standing.present line → new ≡ old → last ≡ before → written ≡ so_far → left ≡ standing
      → IsAnswered port reads first shards line standing old before so_far left new last written

-- these lines were answered, one after the other
pub data AreAnswered (port : Bool) (reads : Reads) (first : SettingsData) (shards : ℕ) (standing : Standing)
    (old : CallerState) (before : ℕ) (so_far : Output)
    : List (List ℕ) → Standing → CallerState → ℕ → Output → Type 0 where
  no_answer : AreAnswered port reads first shards standing old before so_far [] standing old before so_far
  answer_more : (lines : List (List ℕ)) (known : Standing) (mid : CallerState) (between : ℕ) (text : Output)
      (line : List ℕ) (left : Standing) (new : CallerState) (last : ℕ) (written : Output)
      → AreAnswered port reads first shards standing old before so_far lines known mid between text
      → IsAnswered port reads first shards line known mid between text left new last written
      → AreAnswered port reads first shards standing old before so_far (lines ++ line ∷ []) left new last written

-- who is present are the tenants of the settings that these changes made of the first ones
abbrev pub AreInForce : SettingsData → Standing → Type 0
AreInForce first standing = standing.present ≡ (names_in (after first standing.changes)).tenants

-- Who is present once lines were answered are the tenants of the settings that all changes until then made, where
-- those at the start were the tenants of the first ones, none of whom has the next number or one behind it.
abbrev pub TenantsAreInForce : Reads → Type 0
TenantsAreInForce reads =
    (first : SettingsData) → All (λ t. t.number < first.next) first.tenants
    → (port : Bool) (shards : ℕ) (old : CallerState) (before : ℕ) (so_far : Output) (lines : List (List ℕ))
    (left : Standing) (new : CallerState) (last : ℕ) (written : Output)
    → AreAnswered port reads first shards (unchanged (names_in first).tenants) old before so_far lines left new last
    written → AreInForce first left

-- all lines of the input were answered: of one that is known these are all its lines. These tenants
-- are present then, and these changes were made
pub record AreCommandsRead (port : Bool) (reads : Reads) (first : SettingsData) (shards : ℕ)
    (input : Option (List ℕ)) (standing : Standing) (old : CallerState) (before : ℕ) (so_far : Output) (left : Standing)
    (new : CallerState) (last : ℕ) (written : Output) : Type 0 where
  pub lines : List (List ℕ)
  pub known : IfSome input (λ text. lines ≡ kept_lines text)
  pub answered : AreAnswered port reads first shards standing old before so_far lines left new last written

-- each of these tenants was seen to hold no span
abbrev pub AreEmptyOn : CallerState → ℕ → List ℕ → Type 0
AreEmptyOn caller shards [] = Unit {0}
AreEmptyOn caller shards (tenant ∷ tenants) =
    IsEmptyOn caller (tenant % shards) tenant true × AreEmptyOn caller shards tenants
