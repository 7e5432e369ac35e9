-- What texts of a pool are told apart by.
use Rattle.std.specs.Prelude.{ℕ, List, take}
use Rattle.std.specs.Int.{w64, from_be_bytes}
use Rattle.sha2.specs.Sha256.{sha256}

-- the first 8 bytes of the SHA-256 (FIPS 180-4), as a big-endian number
abbrev pub text_digest : List ℕ → ℕ
text_digest text = from_be_bytes w64 (take 8 (sha256 text))
