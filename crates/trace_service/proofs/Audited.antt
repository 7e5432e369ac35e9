-- The shards whose logs are told at the end.
use Rattle.std.proofs.Common.{◌≡◌, ℕ, zero, suc, List, [], ◌∷◌, replicate, Bool, Some, All, refl, sym, ap, ◌∙◌}
use Rattle.std.specs.Prelude.{slice_get}
use Rattle.std.proofs.lemmas.List.Elements.{All-nil, All-cons}
use Rattle.tail_settings.specs.Settings.{SettingsData}
use Rattle.machine_hub.specs.declared.view.Home.{Home}
use Rattle.machine_hub.specs.Hub.{AreShardRuns}
use Rattle.machine_hub.proofs.Ended.{shard_run}
use Rattle.shard_machine.specs.MachineState.{MachineState, MachineDoes}
use Rattle.shared_hub.specs.Logs.{CallerState, LoggedShard}
use Rattle.shared_hub.specs.Shards.{AreOpened, kept}

keeps_at : (homes : List (Home MachineState)) (keeps : Bool) (n k : ℕ) (home : Home MachineState) → kept homes ≡ replicate n keeps → slice_get homes k ≡ Some home → home.keeps ≡ keeps
keeps_at [] keeps n k home all at = absurd (cc)
keeps_at (x ∷ homes) keeps zero k home all at = absurd (cc)
keeps_at (x ∷ homes) keeps (suc n) zero home all at =
    let own : x.keeps ≡ keeps = cc in
    let is : x ≡ home = cc in
    ap (λ (h : Home MachineState). h.keeps) (sym is) ∙ own
keeps_at (x ∷ homes) keeps (suc n) (suc k) home all at =
    let rest : kept homes ≡ replicate n keeps = cc in
    keeps_at homes keeps n k home rest at

all_from_each : {X : Type 0} (P : X → Type 0) (xs : List X) → ((k : ℕ) (x : X) → slice_get xs k ≡ Some x → P x) → All P xs
all_from_each P [] each = All-nil P
all_from_each P (x ∷ xs) each = All-cons P x xs (each zero x refl) (all_from_each P xs (λ k y at. each (suc k) y at))

module _ (table : SettingsData) (homes : List (Home MachineState)) (callers : List CallerState) (shards : List LoggedShard) (runs : AreShardRuns MachineDoes homes callers shards) where
  pub are_numbered : AreOpened table homes → (k : ℕ) (s : LoggedShard) → slice_get shards k ≡ Some s → s.number ≡ k
  are_numbered opens k s at =
      let here = shard_run MachineDoes homes callers shards runs k s at in
      here.2.run.0 ∙ (opens.each k here.0 here.1).0

  pub are_kept : (keeps : Bool) (n : ℕ) → kept homes ≡ replicate n keeps → All (λ s. s.keeps ≡ keeps) shards
  are_kept keeps n all = all_from_each (λ s. s.keeps ≡ keeps) shards (λ k s at.
      let here = shard_run MachineDoes homes callers shards runs k s at in
      here.2.run.1 ∙ keeps_at homes keeps n k here.0 all here.1)
