use Rattle.otlp_canonical.proofs.InnerDefaults.{event_laws}
use Rattle.otlp_canonical.proofs.inner.EventInner.defaults_change_nothing.Goals as goal

pub returns : goal.returns
returns c = event_laws
