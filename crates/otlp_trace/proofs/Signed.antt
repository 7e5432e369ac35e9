-- Numbers with a sign as they are written, in 64 bits: they fit, and their low bits give them back.
use Rattle.std.proofs.Common.{◌≡◌, ℤ, pos, negsuc, suc, ◌-◌, ◌%◌, ◌<◌, ◌^◌, FitsSigned, arith}
use Rattle.std.proofs.Math.Facts.{Fits-of_z}
use Rattle.std.proofs.lemmas.Int.{to_z-of_z}
use Rattle.std.specs.Int.{w32, w64, cast_signed, cast_unsigned}

pub fits64 : (z : ℤ) → FitsSigned w64 z → cast_unsigned w64 z < 2 ^ 64
fits64 z h = let f = Fits-of_z {w = w64} {z = z} h in omega (arith, f.fits)

pub fits32 : (z : ℤ) → FitsSigned w32 z → cast_unsigned w64 z < 2 ^ 64
fits32 (pos n) h = omega (arith, h.sfits)
fits32 (negsuc n) h = omega (arith, h.sfits)

-- a number of 32 bits with a sign, written as 64
pub low32 : (z : ℤ) → FitsSigned w32 z → cast_signed w32 (cast_unsigned w64 z % 2 ^ 32) ≡ z
low32 (pos n) h = let e : n % 2 ^ 32 ≡ n = omega (arith, h.sfits) in rw e (to_z-of_z w32 (pos n) h)
low32 (negsuc n) h = let e : (2 ^ 64 - suc n) % 2 ^ 32 ≡ 2 ^ 32 - suc n = omega (arith, h.sfits) in rw e (to_z-of_z w32 (negsuc n) h)
