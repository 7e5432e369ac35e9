-- From the parts of what the control thread did to the whole of it.
use Rattle.std.proofs.Common.{◌≡◌, ℕ, List, map, Option, Result, Ok, OnOk, Bool, sym, subst}
use Rattle.service_runtime.specs.Documents.{Reads}
use Rattle.service_runtime.specs.Output.{Output}
use Rattle.shared_hub.specs.Logs.{CallerState}
use Rattle.tail_settings.specs.Change.{Change}
use Rattle.tail_settings.specs.Settings.{SettingsData}
use Rattle.tenant_registry.specs.Roster.{entry_of}
use Rattle.tenant_registry.specs.declared.roster.Present.{Present as Entry}
use Rattle.service_control.specs.Comings.{Standing}
use Rattle.service_control.specs.Commands.{AreDrained, AreEmptyOn, AreReported, AreCommandsRead}
use Rattle.service_control.specs.Directed.{IsDirected}
use Rattle.service_control.proofs.Present.{number, numbers}

-- what a result tells that is Ok
given_ok : {T E P : Type 0} (r : Result T E) (x : T) → r ≡ Ok x → OnOk r P → P
given_ok {P = P} r x is p = subst (λ s. OnOk s P) is p

-- who is present by these entries of the code's list
abbrev pub left_of : List Entry → List Change → Standing
left_of tenants changes = record { present = map entry_of tenants; changes = changes }

-- the parts of it, one after the other, where the input didn't fail, with the changes that were made to its end
pub directed : {T E : Type 0} (port : Bool) (reads : Reads) (heard : Result T E) (x : T) (first : SettingsData) (shards : ℕ) (standing : Standing)
    (tenants : List Entry) (changes at_end : List Change) (input : Option (List ℕ)) (so_far text written : Output) (c0 c1 c2 c3 : CallerState) (m0 m1 m2 m3 : ℕ)
    → heard ≡ Ok x → OnOk heard (AreCommandsRead port reads first shards input standing c0 m0 so_far (left_of tenants changes) c1 m1 text)
    → AreDrained shards c1 m1 (map number tenants) c2 m2 → AreEmptyOn c2 shards (map number tenants)
    → AreReported shards c2 m2 text (map entry_of tenants) c3 m3 written → at_end ≡ changes
    → (course : IsDirected port reads first standing shards input c0 m0 so_far c3 m3 written) × (at_end ≡ course.left.changes)
directed port reads heard x first shards standing tenants changes at_end input so_far text written c0 c1 c2 c3 m0 m1 m2 m3 h read drained empty reported same = (
  record {
    left = left_of tenants changes;
    after_input = c1;
    input_end = m1;
    text = text;
    heard = given_ok {P = AreCommandsRead port reads first shards input standing c0 m0 so_far (left_of tenants changes) c1 m1 text} heard x h read;
    after_drains = c2;
    drain_end = m2;
    drained = subst (λ ns. AreDrained shards c1 m1 ns c2 m2) (sym (numbers tenants)) drained;
    empty = subst (AreEmptyOn c2 shards) (sym (numbers tenants)) empty;
    told = reported;
  },
  same,
)
