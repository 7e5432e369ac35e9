-- From what the control thread did to what the service comes to.
use Rattle.std.proofs.Common.{◌≡◌, ℕ, List, [], ◌∷◌, Option, Result, Ok, Err, IfOk, Bool, subst}
use Rattle.service_runtime.specs.Documents.{Reads}
use Rattle.shared_hub.specs.Logs.{CallerState}
use Rattle.tail_settings.specs.Change.{Change}
use Rattle.tail_settings.specs.Settings.{SettingsData}
use Rattle.tenant_registry.specs.Roster.{Present}
use Rattle.service_control.specs.Directed.{IsDirected}
use Rattle.trace_service.specs.Whole.{IsCourse}

-- the same of what it has
given_with : {T E : Type 0} (P : T → Type 0) (r : Result T E) (x : T) → r ≡ Ok x → IfOk r P → P x
given_with P r x is p = subst (λ s. IfOk s P) is p

-- the caller was a new one, of so many shards, and is the first of all, and no change was made before
pub course_from : {E : Type 0} (mine port : Bool) (reads : Reads) (r : Result ℕ E) (settings : SettingsData) (present : Present) (changes at_end : List Change) (all shards : ℕ)
    (input so_far written : Option (List ℕ)) (old fresh new : CallerState) (before last : ℕ) (callers : List CallerState) → mine ≡ port → all ≡ shards → old ≡ fresh → changes ≡ []
    → (others : List CallerState) × (callers ≡ new ∷ others)
    → IfOk r (λ lost. (course : IsDirected mine reads settings (record { present = present; changes = changes }) all input old before (so_far, 0) new last (written, lost))
    × (at_end ≡ course.left.changes))
    → IfOk r (λ lost. IsCourse port reads settings present shards input fresh (so_far, 0) callers (written, lost))
course_from mine port reads (Ok x) settings present changes at_end all shards input so_far written old fresh new before last callers has_admin_port same is none own directed = record {
  before = before;
  last = last;
  own = new;
  others = own.0;
  callers_are = own.1;
  directed = rw (has_admin_port, same, is, none) at directed.0;
}
course_from mine port reads (Err e) settings present changes at_end all shards input so_far written old fresh new before last callers has_admin_port same is none own directed = tt

-- the same where the input didn't fail, of so many shards, of that new caller and of those tenants
pub course_told : {E : Type 0} (port : Bool) (reads : Reads) (r : Result ℕ E) (lost : ℕ) (settings table : SettingsData) (tenants present : Present) (slots shards : ℕ)
    (input so_far written : Option (List ℕ)) (first fresh : CallerState) (callers : List CallerState) → r ≡ Ok lost → settings ≡ table → tenants ≡ present
    → slots ≡ shards → first ≡ fresh
    → IfOk r (λ n. IsCourse port reads settings tenants slots input first (so_far, 0) callers (written, n))
    → IsCourse port reads table present shards input fresh (so_far, 0) callers (written, lost)
course_told port reads r lost settings table tenants present slots shards input so_far written first fresh callers is named those same new course =
    rw (named, those, same, new) at (given_with (λ n. IsCourse port reads settings tenants slots input first (so_far, 0) callers (written, n)) r lost is course)
