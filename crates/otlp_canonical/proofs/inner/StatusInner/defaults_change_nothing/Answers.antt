use Rattle.otlp_canonical.proofs.InnerDefaults.{status_laws}
use Rattle.otlp_canonical.proofs.inner.StatusInner.defaults_change_nothing.Goals as goal

pub returns : goal.returns
returns c = status_laws
