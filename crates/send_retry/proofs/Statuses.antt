-- The statuses of a success.
use Rattle.std.proofs.Common.{◌≡◌, ◌≢◌, ◌∙◌, ◌<◌, ◌+◌, ◌*◌, ◌&&◌, ◌/◌, ◌%◌, ℕ, true, false, sym, arith, refl}
use Rattle.std.specs.Prelude.{nat_le}
use Rattle.std.proofs.lemmas.Bool.{le-leb, leb-true, and_parts}
use Rattle.std.proofs.lemmas.Nat.{div_below, le-div, div-add-mod', mod_below}

pub is_success : (status : ℕ) → (nat_le 200 status && nat_le status 299) ≡ true → status / 100 ≡ 2
is_success status e =
    let b = and_parts (nat_le 200 status) (nat_le status 299) e in
    let low = leb-true 200 status b.0 in
    let high = leb-true status 299 b.1 in
    let least = le-div 2 status 100 (omega arith) (omega arith) in
    let most = div_below status 100 3 (omega arith) (omega arith) in
    omega arith

pub passes : (status : ℕ) → status / 100 ≡ 2 → (nat_le 200 status && nat_le status 299) ≡ true
passes status q =
    let whole : status / 100 * 100 + status % 100 ≡ status = div-add-mod' status 100 in
    let rest : status % 100 < 100 = mod_below status 100 (omega arith) in
    let hundreds : status / 100 * 100 ≡ 200 = rw q refl in
    let low : nat_le 200 status ≡ true = le-leb 200 status (omega arith) in
    let high : nat_le status 299 ≡ true = le-leb status 299 (omega arith) in
    rw (low, high) refl

pub no_success : (status : ℕ) → (nat_le 200 status && nat_le status 299) ≡ false → status / 100 ≢ 2
no_success status e q =
    let wrong : true ≡ false = sym (passes status q) ∙ e in
    cc
