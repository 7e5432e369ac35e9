-- The shards of a hub, one after another.
use Rattle.std.proofs.Common.{◌≡◌, ℕ, zero, suc, ◌+◌, List, [], ◌∷◌, ◌++◌, length, replicate, Bool, false, Some, refl, sym, ap, subst, ◌∙◌, arith, length-append}
use Rattle.std.specs.Prelude.{slice_get}
use Rattle.std.proofs.lemmas.List.{map-append, length-map}
use Rattle.tail_settings.specs.Settings.{SettingsData}
use Rattle.machine_hub.specs.declared.view.Home.{Home}
use Rattle.machine_hub.specs.Slot.{home_of}
use Rattle.machine_hub.specs.Hub.{AreNew, homes_of}
use Rattle.tenant_shard.specs.Lives.{ShardStands}
use Rattle.tenant_shard.specs.Table.{opened, members_of}
use Rattle.shard_machine.specs.MachineState.{MachineState, AreSeeded}
use Rattle.shared_hub.specs.Shards.{IsFresh, AreOpened, kept}
use Rattle.shared_hub.specs.Logs.{LoggedShard}

module _ {X : Type 0} where
  some_one : (a b : X) → Some a ≡ Some b → a ≡ b
  some_one a b e = cc

  pub each_push : (P : ℕ → X → Type 0) (xs : List X) (y : X) → ((k : ℕ) (x : X) → slice_get xs k ≡ Some x → P k x) → P (length xs) y → (k : ℕ) (x : X) → slice_get (xs ++ y ∷ []) k ≡ Some x → P k x
  each_push P [] y each last zero x at = subst (P zero) (some_one y x at) last
  each_push P [] y each last (suc k) x at = absurd (cc)
  each_push P (z ∷ xs) y each last zero x at = each zero x at
  each_push P (z ∷ xs) y each last (suc k) x at = each_push (λ n. P (suc n)) xs y (λ n w is. each (suc n) w is) last k x at

new_push : (ss : List LoggedShard) (s : LoggedShard) → AreNew ss → s.entries ≡ [] → s.stopped ≡ false → AreNew (ss ++ s ∷ [])
new_push [] s are empty goes = ((empty, goes), tt)
new_push (x ∷ ss) s are empty goes = (are.0, new_push ss s are.1 empty goes)

-- so many shards, in the order of their numbers
pub record IsBuilt (keep : Bool) (table : SettingsData) (number : ℕ) (shards : List LoggedShard) : Type 0 where
  pub each : (shard : ℕ) (home : Home MachineState) → slice_get (homes_of shards) shard ≡ Some home → (home.number ≡ shard) × IsFresh table (members_of table shard) home.start
  pub keeps : kept (homes_of shards) ≡ replicate number keep
  pub new : AreNew shards
  pub count : length shards ≡ number

replicate_last : (n : ℕ) (b : Bool) → replicate n b ++ b ∷ [] ≡ replicate (suc n) b
replicate_last zero b = refl
replicate_last (suc n) b = ap (λ l. b ∷ l) (replicate_last n b)

module _ (keep : Bool) (table : SettingsData) where
  pub built_none : (shards : List LoggedShard) → shards ≡ [] → IsBuilt keep table 0 shards
  built_none shards none = subst (IsBuilt keep table 0) (sym none) (record { each = λ shard home at. absurd (cc); keeps = refl; new = tt; count = refl })

  pub built_next : (number : ℕ) (shards new : List LoggedShard) (s : LoggedShard) (machine : MachineState) → IsBuilt keep table number shards → new ≡ shards ++ s ∷ []
      → (s.number ≡ number) × (s.machine ≡ machine) × (s.entries ≡ []) × (s.keeps ≡ keep) × (s.stopped ≡ false) → IsFresh table (members_of table number) machine → IsBuilt keep table (number + 1) new
  built_next number shards new s machine built is stands fresh =
      let next : suc number ≡ number + 1 = omega arith in
      let homes : homes_of (shards ++ s ∷ []) ≡ homes_of shards ++ home_of s ∷ [] = map-append home_of shards (s ∷ []) in
      let long : length (homes_of shards) ≡ number = length-map shards home_of ∙ built.count in
      let own : (s.number ≡ length (homes_of shards)) × IsFresh table (members_of table (length (homes_of shards))) s.machine =
      (stands.0 ∙ sym long, subst (λ n. IsFresh table (members_of table n) s.machine) (sym long) (subst (IsFresh table (members_of table number)) (sym stands.1) fresh)) in
      let one : IsBuilt keep table (number + 1) (shards ++ s ∷ []) = record {
        each = subst (λ (hs : List (Home MachineState)). (shard : ℕ) (home : Home MachineState) → slice_get hs shard ≡ Some home → (home.number ≡ shard) × IsFresh table (members_of table shard) home.start) (sym homes)
            (each_push (λ (shard : ℕ) (home : Home MachineState). (home.number ≡ shard) × IsFresh table (members_of table shard) home.start) (homes_of shards) (home_of s) built.each own);
        keeps = ap kept homes ∙ map-append (λ (h : Home MachineState). h.keeps) (homes_of shards) (home_of s ∷ []) ∙ ap (λ l. l ++ s.keeps ∷ []) built.keeps ∙ ap (λ b. replicate number keep ++ b ∷ []) stands.3
            ∙ replicate_last number keep ∙ ap (λ n. replicate n keep) next;
        new = new_push shards s built.new stands.2 stands.4;
        count = length-append shards (s ∷ []) ∙ ap (λ n. n + 1) built.count;
      } in
      subst (IsBuilt keep table (number + 1)) (sym is) one

  pub built_opened : (number : ℕ) (shards : List LoggedShard) → IsBuilt keep table number shards → number ≡ table.global.shards → AreOpened table (homes_of shards)
  built_opened number shards built all = record {
    count = length-map shards home_of ∙ built.count ∙ all;
    each = built.each;
  }

pub fresh_from : (table : SettingsData) (number : ℕ) (slice items : List ℕ) (s : MachineState) → slice ≡ items → items ≡ members_of table number → ShardStands (opened table slice) s.views → AreSeeded table slice s.words → IsFresh table (members_of table number) s
fresh_from table number slice items s same is stands seeded = record {
  stands = subst (λ m. ShardStands (opened table m) s.views) (same ∙ is) stands;
  words = subst (λ m. AreSeeded table m s.words) (same ∙ is) seeded;
}
