use Rattle.std.proofs.Common.{ℕ, List, [], Err, refl, ap}
use Rattle.std.proofs.lemmas.Result.{err_from_is_err_and}
use Rattle.trace_collector.proofs.Replayed.{nothing_told}
use Rattle.collector_command.specs.Fault.{IsOfText}
use Rattle.collector_command.specs.Run.{IsRun}
use Rattle.collector_command.specs.declared.fault.ProgramFault.{ProgramFault}
use Rattle.collector_command.proofs.replay.replay_under.Goals as goal

-- bytes that spell no text end before anything is written
unread_run : (bytes script : List ℕ) (fault : ProgramFault) → IsOfText bytes fault → IsRun bytes script [] (Err fault)
unread_run bytes script fault of = record {
  spelled = λ text. absurd (of.unspelled text);
  nothing_written = λ none. refl;
  not_toml = λ none. ap Err of.told;
}

pub returns-in_err-settings : goal.returns-in_err-settings
returns-in_err-settings g c =
    let p = err_from_is_err_and c.from_residual.result c.from_residual.ensures.1 in
    let fault = c.in_err-settings.field-0.0 in
    rw (p.1, p.2) (nothing_told _ (λ (script written : List ℕ). IsRun c.args.settings.items script written (Err fault)) _
    (λ script. unread_run c.args.settings.items script fault c.in_err-settings.ensures.fault))
