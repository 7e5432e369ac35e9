use Rattle.std.proofs.Common.{◌≤◌, length, rules}
use Rattle.otlp_read.proofs.TypedParts.{each_taken, each_mapped}
use Rattle.otlp_read.proofs.typed.each_known.Goals as goal

pub returns : goal.returns
returns g c =
    let all : length c.args.values.now ≤ c.loop-value.value-index = search rules in
    each_mapped g.T.Typed.typed g.T.Typed.view c.args.values.now (each_taken (λ x. g.T.Typed.typed (g.T.Typed.view x)) c.args.values.now c.loop-value.value-index all c.loop-value.invariant)
