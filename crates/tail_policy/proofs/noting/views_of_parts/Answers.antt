use Rattle.tail_policy.specs.Apart.{apart, text_of_each, text_of_both}
use Rattle.tail_policy.proofs.noting.views_of_parts.Goals as goal

pub returns-clause-facts : goal.returns-clause-facts
returns-clause-facts c = apart

pub returns-clause-text : goal.returns-clause-text
returns-clause-text c = λ span resource. (text_of_each span resource, λ both. text_of_both span resource both.0 both.1)
