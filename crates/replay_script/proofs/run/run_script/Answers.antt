use Rattle.std.proofs.lemmas.Result.{err_from_is_err_and}
use Rattle.replay_script.proofs.Going.{sent_all, sent_part, from_nothing}
use Rattle.replay_script.proofs.run.run_script.Goals as goal

pub returns-in_err-send : goal.returns-in_err-send
returns-in_err-send g c =
    let p = err_from_is_err_and c.from_residual.result c.from_residual.ensures.1 in
    let told = from_nothing g.S.Session.answers _ _ _ _ _ _ _ _ c.new-output.ensures.text c.answer_lines-told.ensures.output in
    record { output = rw (p.1, p.2, c.in_err-send.ensures.on_error) (sent_part g.S.Session.answers _ _ _ _ _ _ _ _ _ told c.in_err-send.ensures.sends) }

pub returns : goal.returns
returns g c =
    let told = from_nothing g.S.Session.answers _ _ _ _ _ _ _ _ c.new-output.ensures.text c.answer_lines-told.ensures.output in
    record { output = sent_all g.S.Session.answers _ _ _ _ _ _ _ _ _ told c.in_ok-send.ensures.sends c.in_ok-send.ensures.all }
