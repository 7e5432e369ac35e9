use Rattle.std.proofs.Common.{Err, [], ap, refl, sym, ◌∙◌, append-nil}
use Rattle.std.proofs.lemmas.Result.{err_from_is_err_and}
use Rattle.http_line.proofs.Moved.{then_to}
use Rattle.http_edge.proofs.Served.{tells, breaks, write_failed}
use Rattle.http_edge.proofs.server.serve.Goals as goal

pub returns-in-Err-ReadFailed-clause-fault : goal.returns-in-Err-ReadFailed-clause-fault
returns-in-Err-ReadFailed-clause-fault g c =
    let t = (rw (c.in-Err-ReadFailed.is ∙ ap Err c.in-Err-ReadFailed.field-0-is) at c.converse.ensures.broken) (λ is. cc) in
    (t.0, t.1, t.2, breaks t.1 t.3 (λ _. t.5 refl) t.4)

pub returns-in-Err-WriteFailed-clause-fault : goal.returns-in-Err-WriteFailed-clause-fault
returns-in-Err-WriteFailed-clause-fault g c =
    let t = (rw (c.in-Err-WriteFailed.is ∙ ap Err c.in-Err-WriteFailed.field-0-is) at c.converse.ensures.broken) (λ is. cc) in
    (t.0, t.1, t.2, breaks t.1 t.3 (λ other. absurd (other refl)) t.4)

pub returns-in_err-send-in-Err-OutOfMemory-clause-fault : goal.returns-in_err-send-in-Err-OutOfMemory-clause-fault
returns-in_err-send-in-Err-OutOfMemory-clause-fault g c =
    let t = c.converse.ensures.short (c.in-Err-OutOfMemory.is ∙ ap Err c.in-Err-OutOfMemory.field-0-is) in
    let e = c.in_err-send-in-Err-OutOfMemory.ensures.on_error in
    let p = err_from_is_err_and c.from_residual.result c.from_residual.ensures.1 in
    let same = p.2 in
    rw p.1 (
      t.0,
      _,
      then_to t.2 e.3 (append-nil t.0) refl,
      tells g.H.Handler.refusals c.converse.new.bodiless e.0 e.1 (λ is. c.in_err-send-in-Err-OutOfMemory.ensures.no_read (cc)) (sym (rw c.refusals.ensures at c.no_memory_bytes.ensures) ∙ e.2)
          (λ other. absurd (other (write_failed _ (λ is. c.in_err-send-in-Err-OutOfMemory.ensures.no_read (cc))
          (λ is. c.in_err-send-in-Err-OutOfMemory.ensures.no_memory (cc))))) t.3,
    )

pub returns-in_ok-send-in-Err-OutOfMemory-clause-fault : goal.returns-in_ok-send-in-Err-OutOfMemory-clause-fault
returns-in_ok-send-in-Err-OutOfMemory-clause-fault g c =
    let t = c.converse.ensures.short (c.in-Err-OutOfMemory.is ∙ ap Err c.in-Err-OutOfMemory.field-0-is) in
    let all = c.in_ok-send-in-Err-OutOfMemory.ensures.on_success in (
      t.0,
      _,
      then_to t.2 all (append-nil t.0) refl,
      tells g.H.Handler.refusals c.converse.new.bodiless _ [] (λ is. absurd (cc)) (sym (rw c.refusals.ensures at c.no_memory_bytes.ensures) ∙ sym (append-nil _)) (λ _. refl) t.3,
    )

pub returns-in_err-send-in-Err-OutOfMemory-clause-write : goal.returns-in_err-send-in-Err-OutOfMemory-clause-write
returns-in_err-send-in-Err-OutOfMemory-clause-write g c = λ is.
    let p = err_from_is_err_and c.from_residual.result c.from_residual.ensures.1 in
    let told = p.1 in
    let same = p.2 in
    let before = c.converse.ensures.unfailed (c.in-Err-OutOfMemory.is ∙ ap Err c.in-Err-OutOfMemory.field-0-is) in
    rw before at c.in_err-send-in-Err-OutOfMemory.ensures.failed (cc)

pub returns-in_ok-send-in-Err-OutOfMemory-clause-unfailed : goal.returns-in_ok-send-in-Err-OutOfMemory-clause-unfailed
returns-in_ok-send-in-Err-OutOfMemory-clause-unfailed g c = λ is.
    c.in_ok-send-in-Err-OutOfMemory.ensures.kept ∙ c.converse.ensures.unfailed (c.in-Err-OutOfMemory.is ∙ ap Err c.in-Err-OutOfMemory.field-0-is)
