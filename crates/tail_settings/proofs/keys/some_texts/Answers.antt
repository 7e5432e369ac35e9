use Rattle.std.proofs.Common.{◌<◌, [], length, arith}
use Rattle.std.proofs.lemmas.Bool.Decides.{nat_tests}
use Rattle.toml.specs.Data.{as_str}
use Rattle.tail_settings.specs.Fault.{out_of_range}
use Rattle.tail_settings.specs.Keys.{some_texts_at}
use Rattle.tail_settings.proofs.Arrays.{not_empty-some}
use Rattle.tail_settings.proofs.keys.some_texts.Goals as goal

pub returns-clause-meaning : goal.returns-clause-meaning
unfolding some_texts_at
returns-clause-meaning c =
    let some : 0 < length c.in_ok-values.values.now = grind (arith, nat_tests, c.if-is_empty.ensures) in
    rw c.in_ok-values.ensures.meaning (not_empty-some as_str [] (out_of_range c.args.key.now) c.in_ok-values.values.now some)
