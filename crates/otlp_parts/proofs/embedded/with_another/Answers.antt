use Rattle.std.proofs.lemmas.Result.{err_from_is_err_and}
use Rattle.std.proofs.Common.{Some}
use Rattle.otlp_parts.specs.Embedded.{message_in, message_of, another}
use Rattle.otlp_parts.proofs.Again.{joined, gives_err}
use Rattle.otlp_parts.proofs.Values.{ok_of}
use Rattle.otlp_parts.proofs.embedded.with_another.Goals as goal

pub returns-in_err-look_at-clause-exact : goal.returns-in_err-look_at-clause-exact
returns-in_err-look_at-clause-exact g c =
    let p = err_from_is_err_and c.from_residual.result c.from_residual.ensures.1 in
    let e = g.M.Embedded.embedding in
    let before = Some (message_of e c.args.texts.items) in
    gives_err _ c.from_residual.result p.0 c.in_err-look_at.field-0.0 (message_in e c.args.bytes.now) (another e before c.args.bytes.now) p.1 p.2 (c.merges.ensures.same_fault before c.args.bytes.now) c.in_err-look_at.ensures.exact

pub returns : goal.returns
returns g c =
    let one = joined g.M.Embedded.embedding c.merges.ensures c.args.texts.items c.args.bytes.now c.requires.sound (ok_of _ _ c.in_ok-look_at.ensures.exact) in
    record { exact = rw c.in_ok-extend_from_slice.ensures.items one.1; sound = rw c.in_ok-extend_from_slice.ensures.items one.0 }
