use Rattle.otlp_parts.proofs.Copied.{resource_copied}
use Rattle.otlp_parts.proofs.resource.ResourceEmbedded.copied.Goals as goal

pub returns : goal.returns
returns c = resource_copied c.args.bytes.now c.in-Some.copy.items (rw c.in-Some.is at c.in_ok-copy.ensures)
