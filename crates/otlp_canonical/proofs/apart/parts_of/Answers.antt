use Rattle.std.proofs.Common.{rules, arith, ◌≡◌, ◌-◌, ◌<◌, ℕ, Option, subst}
use Rattle.pb_wire.specs.Grammar.{Entry}
use Rattle.otlp_canonical.specs.Anew.{IsPair, IsValue}
use Rattle.otlp_canonical.proofs.apart.parts_of.Goals as goal

pub returns : goal.returns
returns c =
    let some : 0 < c.args.room = omega arith in
    let at : c.saturating_sub-depth.result ≡ 101 - c.args.room = search rules in
    let pair = c.in_ok-pair.pair in
    record {
      some = some;
      pair = subst (λ (d : ℕ). IsPair d c.args.text.now pair.key.now pair.value.now pair.has_value pair.unknown) at c.in_ok-pair.ensures;
      value = λ member is. subst (λ (o : Option Entry). IsValue (c.args.room - 1 - 1) (101 - (c.args.room - 1)) pair.value.now o c.in_ok-chosen.chosen.unknown) is c.in_ok-chosen.ensures;
    }
