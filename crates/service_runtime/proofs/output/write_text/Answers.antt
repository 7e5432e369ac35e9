use Rattle.service_runtime.specs.Output.{cut}
use Rattle.service_runtime.proofs.output.write_text.Goals as goal

pub returns-in-Err : goal.returns-in-Err
returns-in-Err g c =
    let lost = c.in-Err.ensures.cut in
    cut lost.0 lost.1 lost.2 lost.3 c.saturating_add.ensures
