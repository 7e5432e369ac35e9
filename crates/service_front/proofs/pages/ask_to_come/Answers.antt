use Rattle.service_runtime.specs.declared.desk.Asked.{Asked}
use Rattle.tenant_registry.specs.Changed.{TellsAdding}
use Rattle.tenant_registry.proofs.Answered.{if_ok}
use Rattle.service_front.proofs.pages.ask_to_come.Goals as goal

pub returns : goal.returns
returns g c =
    if_ok c.added.result (TellsAdding c.ask-asked.result c.args.document.now) (λ told. (asked : Asked) × TellsAdding asked c.args.document.now told)
    (λ told is. (c.ask-asked.result, is)) c.added.ensures
