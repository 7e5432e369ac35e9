use Rattle.std.proofs.Common.{[], refl}
use Rattle.std.proofs.lemmas.Result.{err_from_is_err_and}
use Rattle.http_line.specs.Line.{no_call}
use Rattle.http_edge.proofs.server.write_reply.Goals as goal

pub returns-in_err-bytes-clause-on_error : goal.returns-in_err-bytes-clause-on_error
returns-in_err-bytes-clause-on_error g c =
    let p = err_from_is_err_and c.from_residual.result c.from_residual.ensures.1 in
    rw p.1 ([], _, refl, no_call)

pub returns-in_err-bytes-clause-quiet : goal.returns-in_err-bytes-clause-quiet
returns-in_err-bytes-clause-quiet g c = λ _. no_call
