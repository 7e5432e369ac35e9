use Rattle.std.proofs.lemmas.Result.{err_from_is_err_and}
use Rattle.tenant_registry.proofs.Came.{turned_away_unparsed}
use Rattle.tenant_registry.proofs.registrar.Registrar.newcomer.Goals as goal

pub returns-in_err-document-clause-fault : goal.returns-in_err-document-clause-fault
returns-in_err-document-clause-fault g c =
    let p = err_from_is_err_and c.from_residual.result c.from_residual.ensures.1 in
    rw (p.1, p.2) (turned_away_unparsed g.J.SettingsNaming.first c.args.self.now c.args.text.now _ c.in_err-document.ensures)
