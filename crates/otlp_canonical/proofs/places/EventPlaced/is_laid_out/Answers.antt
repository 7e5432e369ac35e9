use Rattle.otlp_canonical.proofs.Layouts.{event_laid_out}
use Rattle.otlp_canonical.proofs.places.EventPlaced.is_laid_out.Goals as goal

pub returns : goal.returns
returns c = event_laid_out
