use Rattle.std.proofs.Common.{◌≡◌, ◌≢◌, ℕ, List, [], refl}
use Rattle.std.proofs.lemmas.Result.{err_from_is_err_and}
use Rattle.http_line.specs.Line.{Moves}
use Rattle.http_edge.specs.Steps.{HasFailed}
use Rattle.http_edge.specs.Post.{LacksAnswer}
use Rattle.http_edge.specs.declared.wire.EdgeFault.{EdgeFault}
use Rattle.http_edge.specs.declared.wire.EdgeFault.TheVariants.{OutOfMemory, ReadFailed, WriteFailed}
use Rattle.export_edge.specs.Posting.{BreaksOff, in_post, in_answer}
use Rattle.export_edge.proofs.posting.exchange.Goals as goal

-- what was read is, where a read failed, what holds no whole answer
broken_off : {L : Type 0} (gives takes : L → L → List ℕ → Type 0) (failed : L → ℕ) (post : List ℕ) (old between new : L)
    (fault : EdgeFault) → Moves gives takes old between [] post → failed between ≡ failed old
    → (read : List ℕ) × Moves gives takes between new read [] → fault ≢ WriteFailed
    → (fault ≡ ReadFailed → HasFailed (failed between) (failed new))
    → (fault ≡ OutOfMemory → failed new ≡ failed between)
    → (fault ≡ ReadFailed → (read : List ℕ) × Moves gives takes between new read [] × LacksAnswer read)
    → BreaksOff gives takes failed post old new fault
broken_off gives takes failed post old between new ReadFailed posts kept come other has same unread =
    let u = unread refl in
    in_answer between u.0 posts kept u.1 other has same (λ _. u.2)
broken_off gives takes failed post old between new WriteFailed posts kept come other has same unread = absurd (other refl)
broken_off gives takes failed post old between new OutOfMemory posts kept come other has same unread =
    in_answer between come.0 posts kept come.1 other has same (λ is. absurd (cc))

pub returns-in_err-write_post-clause-on_error : goal.returns-in_err-write_post-clause-on_error
returns-in_err-write_post-clause-on_error g c =
    let e = c.in_err-write_post.ensures.on_error in
    let p = err_from_is_err_and c.from_residual.result c.from_residual.ensures.1 in
    let same = p.2 in
    rw p.1 (in_post e.0 e.1 e.2 e.3 (λ is. c.in_err-write_post.ensures.no_read (cc)) (λ is. c.in_err-write_post.ensures.quiet (cc)) (λ is. c.in_err-write_post.ensures.unfailed (cc)) (λ is. c.in_err-write_post.ensures.failed (cc)))

pub returns-in_err-answer-clause-on_error : goal.returns-in_err-answer-clause-on_error
returns-in_err-answer-clause-on_error g c =
    let e = c.in_err-answer.ensures.on_error in
    let p = err_from_is_err_and c.from_residual-in_err-answer.result c.from_residual-in_err-answer.ensures.1 in
    let same = p.2 in
    rw p.1 (broken_off _ _ _ _ _ c.write_post.new.line _ _ c.in_ok-write_post.ensures.on_success c.in_ok-write_post.ensures.kept e (λ is. c.in_err-answer.ensures.no_write (cc)) (λ is. c.in_err-answer.ensures.failed (cc)) (λ is. c.in_err-answer.ensures.unfailed (cc)) (λ is. c.in_err-answer.ensures.unread (cc)))
