use Rattle.std.proofs.Common.{◌≡◌, ◌<◌, ◌≤◌, ◌+◌, ◌-◌, ◌*◌, ◌/◌, ◌%◌, ◌^◌, ℕ, arith}
use Rattle.std.proofs.Math.Nat.{mul-div-le, mul_comm}
use Rattle.std.proofs.lemmas.Nat.{div_below, le-div, div-add-mod', mod_below, mul-le}
use Rattle.send_retry.specs.Delay.{StateData, spread}
use Rattle.send_retry.specs.Law.{IsInRange, IsPicked, IsNear}
use Rattle.send_retry.proofs.delays_are_near.Goals as goal

-- an interval's part that a factor of at most 1 takes is at most the interval
part_of : (interval factor : ℕ) → factor ≤ 1000 → interval * factor / 1000 ≤ interval
part_of interval factor h =
    let m = mul-le interval factor interval 1000 (omega arith) h in
    let d = div_below (interval * factor) 1000 (interval + 1) (omega arith) (omega arith) in
    omega arith

-- a word of 32 bits picks one of as many numbers as there are
below : (n word : ℕ) → word < 2 ^ 32 → (n + 1) * word / 2 ^ 32 < n + 1
below n word small =
    let most : word ≤ 4294967295 = omega arith in
    let m : (n + 1) * word ≤ (n + 1) * 4294967295 = mul-le (n + 1) word (n + 1) 4294967295 (omega arith) most in
    div_below ((n + 1) * word) (2 ^ 32) (n + 1) (omega arith) (omega arith)

-- a word that picks a number
record Word (n k : ℕ) : Type 0 where
  pub word : ℕ
  pub small : word < 2 ^ 32
  pub picks : n * word / 2 ^ 32 ≡ k

word_of : (n k : ℕ) → k < n → n ≤ 2 ^ 32 → Word n k
word_of n k within few =
    let a = k * 2 ^ 32 + (n - 1) in
    let word = a / n in
    let low : n * word ≤ a = mul-div-le a n in
    let whole : word * n + a % n ≡ a = div-add-mod' a n in
    let rest : a % n < n = mod_below a n (omega arith) in
    let turned : n * word ≡ word * n = mul_comm n word in
    let least = le-div k (n * word) (2 ^ 32) (omega arith) (omega arith) in
    let most = div_below (n * word) (2 ^ 32) (k + 1) (omega arith) (omega arith) in
    record {
      word = word;
      small = div_below a n (2 ^ 32) (omega arith) (omega arith);
      picks = omega arith;
    }

near : (state : StateData) → IsInRange state → (delay : ℕ) → IsPicked state delay → IsNear state delay
near state range delay p =
    let part : spread state ≤ state.interval = part_of state.interval state.settings.randomization_factor range.factor in
    let less : (2 * spread state + 1) * p.word / 2 ^ 32 < 2 * spread state + 1 = below (2 * spread state) p.word p.small in
    let picks : state.interval - spread state + (2 * spread state + 1) * p.word / 2 ^ 32 ≡ delay = p.picks in
    record { least = omega arith; most = omega arith }

is_picked : (state : StateData) → IsInRange state → (delay : ℕ) → IsNear state delay → IsPicked state delay
is_picked state range delay h =
    let part : spread state ≤ state.interval = part_of state.interval state.settings.randomization_factor range.factor in
    let interval = range.interval in
    let least : state.interval ≤ delay + spread state = h.least in
    let most : delay ≤ state.interval + spread state = h.most in
    let w = word_of (2 * spread state + 1) (delay + spread state - state.interval) (omega arith) (omega arith) in
    let picks : (2 * spread state + 1) * w.word / 2 ^ 32 ≡ delay + spread state - state.interval = w.picks in
    record { word = w.word; small = w.small; picks = omega arith }

pub returns : goal.returns
returns c state range delay = (near state range delay, is_picked state range delay)
