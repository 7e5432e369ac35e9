use Rattle.std.proofs.Common.{rules, arith, ◌≡◌, ◌%◌, ◌^◌, ℕ, ap, sym, ◌∙◌}
use Rattle.pb_wire.specs.Grammar.{Entry, Varint, entry}
use Rattle.otlp_read.specs.Walk.{numbered}
use Rattle.otlp_canonical.specs.Layout.{nothing_held, held_in}
use Rattle.otlp_canonical.proofs.places.with_low_bits.Goals as goal

pub returns : goal.returns
returns c =
    let n = c.args.field.number in
    let number = c.in-Varint.number in
    let is : entry c.args.field ≡ numbered n (Varint number) = search rules in
    let same : (number % 2 ^ 32) % 2 ^ 32 ≡ number % 2 ^ 32 = omega arith in
    ap (λ (x : ℕ). record nothing_held { number = x }) same ∙ sym (ap (λ (e : Entry). held_in e.value) is)
