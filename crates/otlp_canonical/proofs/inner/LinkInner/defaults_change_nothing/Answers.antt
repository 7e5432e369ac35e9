use Rattle.otlp_canonical.proofs.InnerDefaults.{link_laws}
use Rattle.otlp_canonical.proofs.inner.LinkInner.defaults_change_nothing.Goals as goal

pub returns : goal.returns
returns c = link_laws
