use Rattle.otlp_canonical.proofs.Attributes.{event_attributes}
use Rattle.otlp_canonical.proofs.inner.EventInner.attributes_are_read.Goals as goal

pub returns : goal.returns
returns c = event_attributes
