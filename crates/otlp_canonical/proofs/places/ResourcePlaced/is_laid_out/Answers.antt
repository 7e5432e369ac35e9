use Rattle.otlp_canonical.proofs.Layouts.{resource_laid_out}
use Rattle.otlp_canonical.proofs.places.ResourcePlaced.is_laid_out.Goals as goal

pub returns : goal.returns
returns c = resource_laid_out
