use Rattle.otlp_canonical.proofs.Layouts.{scope_laid_out}
use Rattle.otlp_canonical.proofs.places.InstrumentationScopePlaced.is_laid_out.Goals as goal

pub returns : goal.returns
returns c = scope_laid_out
