-- What is read off a connection in all.
use Rattle.std.proofs.Common.{◌≡◌, ℕ, ◌+◌, ◌-◌, ◌≤◌, List, [], ◌++◌, length, take, length-take-le, arith, length-append}
use Rattle.http_line.specs.Line.{Moves}
use Rattle.http_line.proofs.Moved.{stays, then, by_read}

-- some bytes were read, and nothing written, and with so many more they are so many
abbrev pub Leaves : {L : Type 0} → (L → L → List ℕ → Type 0) → (L → L → List ℕ → Type 0) → ℕ → L → L → ℕ → Type 0
Leaves gives takes all before now left = (read : List ℕ) × Moves gives takes before now read [] × (length read + left ≡ all)

pub leaves_all : {L : Type 0} {gives takes : L → L → List ℕ → Type 0} (all : ℕ) (before : L) → Leaves gives takes all before before all
leaves_all all before = ([], stays before, omega arith)

pub leaves_less : {L : Type 0} {gives takes : L → L → List ℕ → Type 0} (all : ℕ) (before now after : L) (left count : ℕ) (room : List ℕ) → Leaves gives takes all before now left → gives now after (take count room) → count ≤ length room → count ≤ left → Leaves gives takes all before after (left - count)
leaves_less all before now after left count room was reads within fewer =
    let more = take count room in
    (was.0 ++ more, then was.1 (by_read reads), omega (arith, was.2, length-append was.0 more, length-take-le count room within))

pub leaves_same : {L : Type 0} {gives takes : L → L → List ℕ → Type 0} (all : ℕ) (before now after : L) (left : ℕ) → Leaves gives takes all before now left → gives now after [] → Leaves gives takes all before after left
leaves_same all before now after left was reads =
    (was.0 ++ [], then was.1 (by_read reads), omega (arith, was.2, length-append was.0 []))

pub bounded : {L : Type 0} {gives takes : L → L → List ℕ → Type 0} (all : ℕ) (before now : L) (left : ℕ) → Leaves gives takes all before now left → (read : List ℕ) × Moves gives takes before now read [] × (length read ≤ all)
bounded all before now left was = (was.0, was.1, omega (arith, was.2))
