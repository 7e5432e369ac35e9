use Rattle.std.proofs.lemmas.Bool.{false≢true}
use Rattle.std.proofs.lemmas.Result.{err_from_is_err_and}
use Rattle.tenant_registry.specs.Documents.{no_path, failed, no_text}
use Rattle.tenant_registry.proofs.documents.document.Goals as goal

pub returns-in_default-clause-unread : goal.returns-in_default-clause-unread
returns-in_default-clause-unread g c = no_path c.in_default.ensures.cases.0

pub returns-in_err-bytes-clause-unread : goal.returns-in_err-bytes-clause-unread
returns-in_err-bytes-clause-unread g c =
    let p = err_from_is_err_and c.from_residual.result c.from_residual.ensures.1 in
    rw p.1 (failed _ p.0 (rw c.in-Ok.ensures.cases.0 at c.in_err-bytes.ensures.failure) p.2)

pub returns-clause-unread : goal.returns-clause-unread
returns-clause-unread g c =
    no_text c.in_ok-bytes.bytes.items (rw c.in-Ok.ensures.cases.0 at c.in_ok-bytes.ensures.bytes)
    (λ text. false≢true (c.in-Err.ensures.succeeds text))
