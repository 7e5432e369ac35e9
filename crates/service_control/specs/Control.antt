-- What who reads the input does, in the code's terms: where it works, its list of tenants, and what its output got,
-- before it and then. This project's own rule.
use Rattle.std.specs.Prelude.{◌≡◌, ℕ, List, length, string_bytes, Bool, Option, is_some}
use Rattle.otlp_front.specs.Route.{number_of}
use Rattle.service_runtime.specs.Documents.{Reads}
use Rattle.service_runtime.specs.Output.{Output, IsPut}
use Rattle.tail_settings.specs.Change.{Change}
use Rattle.tail_settings.specs.Settings.{SettingsData}
use Rattle.tenant_registry.specs.declared.naming.SettingsNaming.{Ghosts as SettingsGhosts}
use Rattle.tenant_registry.specs.declared.roster.Present.{Present as Entry}
use Rattle.tenant_registry.specs.declared.roster.Roster.{Roster}
use Rattle.tenant_registry.specs.Roster.{present_in}
use Rattle.service_control.specs.declared.control.Control.{Control}
use Rattle.service_context.specs.declared.naming.Naming.{Ghosts}
use Rattle.service_control.specs.Comings.{Standing, IsAdded}
use Rattle.service_control.specs.Commands.{AreCommandsRead, IsAnswered, IsReported, IsReportedOf, IsRetiredOf}
use Rattle.service_control.specs.Directed.{IsDirected}

-- who is present by this list, and these changes
abbrev pub standing_with : Roster → List Change → Standing
standing_with known changes = record { present = present_in known; changes = changes }

module _ {J R D : Type 0} {n : Ghosts J} {m : SettingsGhosts J} where
  -- those that who reads the input knows
  abbrev pub standing_of : Control J R D n m → Roster → Standing
  standing_of control known = standing_with known control.registrar

  -- all lines of the input were answered, all tenants sent what they held, and each one's report was written; once the
  -- lines were answered the settings were changed no more
  abbrev pub Directs : Reads → SettingsData → Option (List ℕ) → Control J R D n m → Output → Control J R D n m → Output
      → Type 0
  Directs reads first input old so_far new written =
      (course : IsDirected (is_some old.admin) reads first (standing_of old old.roster) (length old.context.hub.now)
      input old.context.caller old.beat.last so_far new.context.caller new.beat.last written)
      × (new.registrar ≡ course.left.changes)

  -- all lines of the input were answered
  abbrev pub ReadsCommands : Bool → Reads → SettingsData → Option (List ℕ) → Control J R D n m → Roster → Output
      → Control J R D n m → Roster → Output → Type 0
  ReadsCommands port reads first input old known so_far new left written =
      AreCommandsRead port reads first (length old.context.hub.now) input (standing_of old known) old.context.caller
      old.beat.last so_far (standing_of new left) new.context.caller new.beat.last written

  -- this line was answered
  abbrev pub Answers : Bool → Reads → SettingsData → List ℕ → Control J R D n m → Roster → Output → Control J R D n m
      → Roster → Output → Type 0
  Answers port reads first line old known so_far new left written =
      IsAnswered port reads first (length old.context.hub.now) line (standing_of old known) old.context.caller
      old.beat.last so_far (standing_of new left) new.context.caller new.beat.last written

  -- one report of this tenant was made and written
  abbrev pub Reports : Entry → Control J R D n m → Output → Control J R D n m → Output → Type 0
  Reports tenant old so_far new written =
      IsReported (string_bytes tenant.name) old.context.caller new.context.caller (length old.context.hub.now)
      tenant.number old.beat.last new.beat.last so_far written

  -- so it was with the tenant of this name, where there is one, and else nothing was done
  abbrev pub ReportsNamed : List ℕ → Roster → Control J R D n m → Output → Control J R D n m → Output → Type 0
  ReportsNamed name known old so_far new written =
      IsReportedOf (length old.context.hub.now) name (number_of (present_in known) name) old.context.caller
      old.beat.last so_far new.context.caller new.beat.last written

  -- a tenant was to come whose document is at this path, and the line that says what came of it was written
  abbrev pub Adds : Reads → SettingsData → List ℕ → Control J R D n m → Roster → Output → Control J R D n m → Roster
      → Output → Type 0
  Adds reads first path old known so_far new left written =
      (line : List ℕ) × IsAdded reads first (length old.context.hub.now) path (standing_of old known) old.context.caller
      (standing_of new left) new.context.caller line × IsPut so_far written line

  -- the tenant of this name was to go, and what came of it was written; or there is none, and nothing was done
  abbrev pub RetiresNamed : Bool → List ℕ → Control J R D n m → Roster → Output → Control J R D n m → Roster → Output
      → Type 0
  RetiresNamed port name old known so_far new left written =
      IsRetiredOf port (length old.context.hub.now) name (number_of (present_in known) name) (standing_of old known)
      old.context.caller old.beat.last so_far (standing_of new left) new.context.caller new.beat.last written
