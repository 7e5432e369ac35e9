use Rattle.otlp_parts.proofs.Fates.{scope_laws}
use Rattle.otlp_parts.proofs.scope.InstrumentationScopeEmbedded.merges.Goals as goal

pub returns : goal.returns
returns c = scope_laws
