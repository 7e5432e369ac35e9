use Rattle.otlp_canonical.proofs.Attributes.{link_attributes}
use Rattle.otlp_canonical.proofs.inner.LinkInner.attributes_are_read.Goals as goal

pub returns : goal.returns
returns c = link_attributes
