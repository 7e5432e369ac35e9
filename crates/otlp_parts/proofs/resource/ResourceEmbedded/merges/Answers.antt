use Rattle.otlp_parts.proofs.Fates.{resource_laws}
use Rattle.otlp_parts.proofs.resource.ResourceEmbedded.merges.Goals as goal

pub returns : goal.returns
returns c = resource_laws
