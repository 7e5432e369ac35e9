use Rattle.otlp_canonical.proofs.Layouts.{link_laid_out}
use Rattle.otlp_canonical.proofs.places.LinkPlaced.is_laid_out.Goals as goal

pub returns : goal.returns
returns c = link_laid_out
