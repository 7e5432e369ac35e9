use Rattle.std.proofs.Common.{rules, arith, ◌≡◌, ◌%◌, ◌^◌, sym, subst}
use Rattle.pb_wire.specs.Grammar.{Entry, Varint, entry}
use Rattle.otlp_read.specs.Value.{span_step}
use Rattle.otlp_read.specs.Walk.{numbered}
use Rattle.otlp_canonical.proofs.LowBits.{low_alike}
use Rattle.otlp_canonical.proofs.rewritten.with_low_bits.Goals as goal

pub returns : goal.returns
returns c room s spelled =
    let n = c.args.field.number in
    let number = c.in-Varint.number in
    let low = number % 2 ^ 32 in
    let is : entry c.args.field ≡ numbered n (Varint number) = search rules in
    subst (λ (f : Entry). span_step room s (numbered n (Varint low)) spelled ≡ span_step room s f spelled) (sym is) (low_alike n number low room s spelled (omega arith))
