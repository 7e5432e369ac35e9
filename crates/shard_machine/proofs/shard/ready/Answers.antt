use Rattle.std.proofs.Common.{refl, sym, ◌∙◌}
use Rattle.shard_machine.proofs.Going.{no_generator}
use Rattle.shard_machine.proofs.shard.ready.Goals as goal

pub returns-in-None-clause-words : goal.returns-in-None-clause-words
returns-in-None-clause-words c =
    let none = no_generator _ (sym c.draw.ensures.word_is ∙ c.in-None.is) in
    (refl, none, c.draw.ensures.kept none)
