-- Tenants one after the other.
use Rattle.std.proofs.Common.{◌≡◌, ℕ, ◌+◌, ◌%◌, ◌<◌, true, List, [], ◌∷◌, ◌++◌, length, map, take, get_or, refl, sym, ap, subst, ◌∙◌, string_bytes}
use Rattle.std.proofs.lemmas.List.{map_more}
use Rattle.service_runtime.specs.Output.{Output}
use Rattle.shared_hub.specs.Logs.{CallerState, IsEmptyOn}
use Rattle.tenant_registry.specs.declared.roster.Present.{Present}
use Rattle.tenant_registry.specs.Roster.{entry_of}
use Rattle.tenant_shard.specs.declared.step.Outcome.{Outcome}
use Rattle.service_front.specs.declared.chore.Chore.TheVariants.{Drain}
use Rattle.service_control.specs.Commands.{IsMade, IsReported, AreDrained, drain_more, AreReported, report_more, AreEmptyOn}
use Rattle.service_front.specs.Lines.{step_of}

abbrev pub number : Present → ℕ
number t = t.number

one_more : {X Y : Type 0} (f : X → Y) (xs : List X) (i : ℕ) (x : X) → i < length xs → x ≡ get_or xs i x
    → map f (take (i + 1) xs) ≡ map f (take i xs) ++ f x ∷ []
one_more f xs i x within at = map_more f xs i x within ∙ ap (λ y. map f (take i xs) ++ f y ∷ []) (sym at)

pub numbers : (xs : List Present) → map (λ (t : ℕ × List ℕ). t.0) (map entry_of xs) ≡ map number xs
numbers [] = refl
numbers (x ∷ xs) = ap (λ ns. x.number ∷ ns) (numbers xs)

-- ---- all of them

module _ (shards : ℕ) (old : CallerState) (before : ℕ) (xs : List Present) (i : ℕ) (x : Present) (mid : CallerState) (between : ℕ)
    (outcome : Outcome) (new : CallerState) (last : ℕ) where
  pub drained_more : i < length xs → x ≡ get_or xs i x → AreDrained shards old before (map number (take i xs)) mid between
      → IsMade mid new shards x.number between last (step_of Drain x.number) outcome
      → AreDrained shards old before (map number (take (i + 1) xs)) new last
  drained_more within at done made =
      subst (λ ts. AreDrained shards old before ts new last) (sym (one_more number xs i x within at))
      (drain_more (map number (take i xs)) mid between x.number outcome new last done made)

module _ (shards : ℕ) (old : CallerState) (before : ℕ) (so_far : Output) (xs : List Present) (i : ℕ) (x : Present)
    (mid : CallerState) (between : ℕ) (text : Output) (new : CallerState) (last : ℕ) (written : Output) where
  pub reported_more : i < length xs → x ≡ get_or xs i x → AreReported shards old before so_far (map entry_of (take i xs)) mid between text
      → IsReported (string_bytes x.name) mid new shards x.number between last text written
      → AreReported shards old before so_far (map entry_of (take (i + 1) xs)) new last written
  reported_more within at done made =
      subst (λ ts. AreReported shards old before so_far ts new last written) (sym (one_more entry_of xs i x within at))
      (report_more (map entry_of (take i xs)) mid between text x.number (string_bytes x.name) new last written done made)

empty_last : (caller : CallerState) (shards : ℕ) (tenants : List ℕ) (tenant : ℕ) → AreEmptyOn caller shards tenants
    → IsEmptyOn caller (tenant % shards) tenant true → AreEmptyOn caller shards (tenants ++ tenant ∷ [])
empty_last caller shards [] tenant all one = (one, tt)
empty_last caller shards (t ∷ tenants) tenant all one = (all.0, empty_last caller shards tenants tenant all.1 one)

pub empty_more : (caller : CallerState) (shards : ℕ) (xs : List Present) (i : ℕ) (x : Present) → i < length xs → x ≡ get_or xs i x
    → AreEmptyOn caller shards (map number (take i xs)) → IsEmptyOn caller (x.number % shards) x.number true
    → AreEmptyOn caller shards (map number (take (i + 1) xs))
empty_more caller shards xs i x within at all one =
    subst (AreEmptyOn caller shards) (sym (one_more number xs i x within at)) (empty_last caller shards (map number (take i xs)) x.number all one)
