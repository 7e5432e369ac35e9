use Rattle.otlp_parts.proofs.Copied.{scope_copied}
use Rattle.otlp_parts.proofs.scope.InstrumentationScopeEmbedded.copied.Goals as goal

pub returns : goal.returns
returns c = scope_copied c.args.bytes.now c.in-Some.copy.items (rw c.in-Some.is at c.in_ok-copy.ensures)
