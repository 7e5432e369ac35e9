use Rattle.std.proofs.Common.{ap, sym}
use Rattle.std.specs.Prelude.{option_copied}
use Rattle.tenant_stores.proofs.texts.wanted_new.Goals as goal

pub returns-in-Some-clause-known : goal.returns-in-Some-clause-known
returns-in-Some-clause-known c = λ texts. tt

pub returns-in-Some-clause-text : goal.returns-in-Some-clause-text
returns-in-Some-clause-text c = λ texts. sym (ap option_copied c.in-Some.is)

pub returns-in-None-clause-known : goal.returns-in-None-clause-known
returns-in-None-clause-known c = λ texts. tt

pub returns-in-None-clause-text : goal.returns-in-None-clause-text
returns-in-None-clause-text c = λ texts. sym (ap option_copied c.in-None.is)
