use Rattle.otlp_canonical.proofs.Attributes.{status_attributes}
use Rattle.otlp_canonical.proofs.inner.StatusInner.attributes_are_read.Goals as goal

pub returns : goal.returns
returns c = status_attributes
