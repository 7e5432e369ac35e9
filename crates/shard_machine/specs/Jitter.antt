-- The words of tenants, each from a generator of its own: PCG's XSH RR with 64 bits of state (O'Neill, "PCG: a family
-- of simple fast space-efficient statistically good algorithms for random number generation"), started from a seed as
-- `seed_from_u64` of Rust's `rand_pcg` starts it.
use Rattle.std.specs.Prelude.{◌≡◌, ◌≢◌, ℕ, zero, suc, List, [], ◌∷◌, length, Option, Some, None, option_map, if◌then◌else◌, ◌==◌}
use Rattle.std.specs.Map.{lookup, remove_entry}
use Rattle.rand_core.specs.Pcg32Seed.{pcg32_seed}
use Rattle.rand_pcg.specs.Lcg.{Lcg}
use Rattle.rand_pcg.specs.Pcg.{pcg32, pcg32_of_seed}

-- a generator at its start
abbrev pub start : ℕ → Lcg
start seed = pcg32_of_seed (pcg32_seed 16 seed)

-- its next word
abbrev pub next_word : Lcg → ℕ
next_word g = (pcg32 g).0

-- the generator behind that word
abbrev pub moved : Lcg → Lcg
moved g = (pcg32 g).1

-- its first n words
abbrev pub first_words : ℕ → Lcg → List ℕ
first_words zero g = []
first_words (suc n) g = next_word g ∷ first_words n (moved g)

-- the generator behind them
abbrev pub after_words : ℕ → Lcg → Lcg
after_words zero g = g
after_words (suc n) g = after_words n (moved g)

-- a tenant, by its number, and its generator
abbrev pub TenantGenerator : Type 0
TenantGenerator = ℕ × Lcg

-- the generator of a tenant, where it has one
abbrev pub generator_of : ℕ → List TenantGenerator → Option Lcg
generator_of tenant sources = lookup (λ other. tenant == other) sources

-- a word was drawn for a tenant: it is the next of its own generator, which moves behind it, and no other one moves.
-- Who has none gets no word, and nothing changes
pub record IsDraw (tenant : ℕ) (old : List TenantGenerator) (word : Option ℕ) (new : List TenantGenerator)
    : Type 0 where
  pub word_is : word ≡ option_map next_word (generator_of tenant old)
  pub own : generator_of tenant new ≡ option_map moved (generator_of tenant old)
  pub kept : generator_of tenant old ≡ None → new ≡ old
  pub others : (other : ℕ) → other ≢ tenant → generator_of other new ≡ generator_of other old

-- the generator that a tenant has, or else one at its start
abbrev pub or_start : Option Lcg → ℕ → Lcg
or_start None seed = start seed
or_start (Some g) seed = g

-- a tenant got a generator, at its start, unless it had one, and all others have what they had
pub record IsSeeded (tenant seed : ℕ) (old new : List TenantGenerator) : Type 0 where
  pub own : generator_of tenant new ≡ Some (or_start (generator_of tenant old) seed)
  pub others : (other : ℕ) → other ≢ tenant → generator_of other new ≡ generator_of other old

-- the generators without a tenant's
abbrev pub without : ℕ → List TenantGenerator → List TenantGenerator
without tenant sources = remove_entry (λ other. tenant == other) sources

-- a tenant has no generator any more, and all others have what they had
pub record IsRemoved (tenant : ℕ) (old new : List TenantGenerator) : Type 0 where
  pub own : generator_of tenant new ≡ None
  pub others : (other : ℕ) → other ≢ tenant → generator_of other new ≡ generator_of other old

-- a word that was drawn, and for whom
abbrev pub Drawn : Type 0
Drawn = ℕ × ℕ

-- words were drawn one after the other
abbrev pub Draws : List TenantGenerator → List Drawn → List TenantGenerator → Type 0
Draws old [] new = new ≡ old
Draws old (d ∷ ds) new = (next : List TenantGenerator) × IsDraw d.0 old (Some d.1) next × Draws next ds new

-- those of one tenant
abbrev pub words_of : ℕ → List Drawn → List ℕ
words_of tenant [] = []
words_of tenant (d ∷ ds) = if d.0 == tenant then d.1 ∷ words_of tenant ds else words_of tenant ds

-- the words of a tenant are the first of its own generator, in order, whatever was drawn for others in between
abbrev pub EachHasItsOwn : Type 0
EachHasItsOwn = (tenant : ℕ) (old new : List TenantGenerator) (ds : List Drawn) (g : Lcg) → Draws old ds new →
    generator_of tenant old ≡ Some g →
    (words_of tenant ds ≡ first_words (length (words_of tenant ds)) g)
    × (generator_of tenant new ≡ Some (after_words (length (words_of tenant ds)) g))
