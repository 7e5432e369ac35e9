-- What an output got of the texts that were to be written to it. This project's own rule.
use Rattle.std.specs.Prelude.{◌≡◌, ℕ, ◌+◌, ◌-◌, ◌^◌, min, List, ◌++◌, Option}
use Rattle.std.specs.Io.KnownBytes.{Appends}

-- what an output holds, where that is known, and how many texts were lost on the way to it, up to 2 ^ 64 - 1
abbrev pub Output : Type 0
Output = Option (List ℕ) × ℕ

-- Behind what was written so far this text was written. Or it is lost: the output failed, and of the text only a front
-- is known to be written, of no byte or more.
pub data IsPut (so_far written : Output) (text : List ℕ) : Type 0 where
  whole : Appends so_far.0 written.0 text → written.1 ≡ so_far.1 → IsPut so_far written text
  cut : (front rest : List ℕ) → text ≡ front ++ rest → Appends so_far.0 written.0 front
      → written.1 ≡ min (so_far.1 + 1) (2 ^ 64 - 1) → IsPut so_far written text
