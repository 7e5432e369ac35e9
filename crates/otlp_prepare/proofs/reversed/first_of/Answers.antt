use Rattle.std.proofs.Common.{◌∙◌}
use Rattle.otlp_prepare.proofs.Lists.{first_reversed}
use Rattle.otlp_prepare.proofs.reversed.first_of.Goals as goal

pub returns-clause-front : goal.returns-clause-front
returns-clause-front g c =
    first_reversed _ _ _ _ _ c.in_ok-now.ensures.tail c.reverse-2.ensures.items (c.shrink_to_fit.ensures.items ∙ c.in_ok-now.ensures.items)
