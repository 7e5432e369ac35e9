use Rattle.std.proofs.Common.{ℕ, List, None, Ok, Err, refl}
use Rattle.std.proofs.lemmas.Result.{err_from_is_err_and}
use Rattle.tail_settings.specs.Settings.{settings_view}
use Rattle.replay_script.specs.Line.{lines_of}
use Rattle.replay_script.specs.Transcript.{Ends}
use Rattle.trace_collector.specs.Fault.{script_fault, settings_fault}
use Rattle.trace_collector.specs.Standing.{Answers}
use Rattle.trace_collector.specs.declared.engine.ReplayFault.TheVariants as faults
use Rattle.trace_collector.specs.Replay.{IsReplay}
use Rattle.trace_collector.specs.Alone.{TellsEachAlone}
use Rattle.trace_collector.proofs.EachTold.{nothing_tells, ran_tells, fault_tells}
use Rattle.trace_collector.proofs.Replayed.{ran_replays, fault_replays, was_memory, memory_so_far, some_told, unread_replays, nothing_begins, nothing_told, nothing_so_far, unread_stops, no_fault_stops, fault_stops}
use Rattle.trace_collector.proofs.Members.{all_present}
use Rattle.trace_collector.proofs.engine.replay.Goals as goal

pub open-requires : goal.open-requires
open-requires g c = all_present c.args.settings.now (settings_view c.in_ok-settings.settings) c.in_ok-settings.ensures.on_success

pub returns-in_err-settings-clause-output : goal.returns-in_err-settings-clause-output
returns-in_err-settings-clause-output g c =
    let p = err_from_is_err_and c.from_residual.result c.from_residual.ensures.1 in
    let text = c.args.settings.now in
    let fault = c.in_err-settings.field-0.0 in
    rw (p.1, p.2) (nothing_told _
    (λ (script written : List ℕ). IsReplay text script written (Err (settings_fault fault))) _
    (λ script. unread_replays text script fault c.in_err-settings.ensures.fault))

pub returns-in_err-shards-clause-output : goal.returns-in_err-shards-clause-output
returns-in_err-shards-clause-output g c =
    let p = err_from_is_err_and c.from_residual-in_err-shards.result c.from_residual-in_err-shards.ensures.1 in
    let text = c.args.settings.now in
    rw (p.1, p.2) (nothing_told _ (λ (script written : List ℕ). IsReplay text script written (Err faults.OutOfMemory)) _
    (λ script. (λ s means. nothing_begins s script, λ f fails. refl)))

pub returns-in_err-settings-clause-so_far : goal.returns-in_err-settings-clause-so_far
returns-in_err-settings-clause-so_far g c = λ memory. nothing_so_far _ _ c.args.settings.now

pub returns-in_err-shards-clause-so_far : goal.returns-in_err-shards-clause-so_far
returns-in_err-shards-clause-so_far g c = λ memory. nothing_so_far _ _ c.args.settings.now

pub returns-in_err-run_script-clause-so_far : goal.returns-in_err-run_script-clause-so_far
returns-in_err-run_script-clause-so_far g c =
    let p = err_from_is_err_and c.from_residual-in_err-run_script.result c.from_residual-in_err-run_script.ensures.1 in
    let shards = c.in_ok-shards.shards in
    let fault = c.in_err-run_script.field-0.0 in
    let along = c.in_ok-shards.ensures.stand in
    λ memory.
    memory_so_far _ _ _ _ c.args.settings.now shards (settings_view c.in_ok-settings.settings) fault c.in_ok-settings.ensures.on_success along
    (was_memory _ _ fault p.1 p.2 memory) c.in_err-run_script.ensures.output

pub returns-in_err-run_script-clause-output : goal.returns-in_err-run_script-clause-output
returns-in_err-run_script-clause-output g c =
    let p = err_from_is_err_and c.from_residual-in_err-run_script.result c.from_residual-in_err-run_script.ensures.1 in
    let text = c.args.settings.now in
    let shards = c.in_ok-shards.shards in
    let fault = c.in_err-run_script.field-0.0 in
    let along = c.in_ok-shards.ensures.stand in
    rw (p.1, p.2) (some_told _
    (λ (script written : List ℕ). Ends Answers (lines_of script) shards _ written (Err fault))
    (λ (script written : List ℕ). IsReplay text script written (Err (script_fault fault))) _ _
    (λ script written ends. fault_replays text script written _ shards (settings_view c.in_ok-settings.settings) fault c.in_ok-settings.ensures.on_success along ends)
    c.in_err-run_script.ensures.output)

pub returns-clause-output : goal.returns-clause-output
returns-clause-output g c =
    let text = c.args.settings.now in
    let shards = c.in_ok-shards.shards in
    let along = c.in_ok-shards.ensures.stand in
    some_told _
    (λ (script written : List ℕ). Ends Answers (lines_of script) shards None written (Ok tt))
    (λ (script written : List ℕ). IsReplay text script written (Ok tt)) _ _
    (λ script written ends. ran_replays text script written None shards (settings_view c.in_ok-settings.settings) tt c.in_ok-settings.ensures.on_success along ends)
    c.in_ok-run_script.ensures.output

pub returns-in_err-settings-clause-each_alone : goal.returns-in_err-settings-clause-each_alone
returns-in_err-settings-clause-each_alone g c = nothing_tells _ _ c.args.settings.now c.from_residual.result

pub returns-in_err-shards-clause-each_alone : goal.returns-in_err-shards-clause-each_alone
returns-in_err-shards-clause-each_alone g c = nothing_tells _ _ c.args.settings.now c.from_residual-in_err-shards.result

pub returns-in_err-run_script-clause-each_alone : goal.returns-in_err-run_script-clause-each_alone
returns-in_err-run_script-clause-each_alone g c =
    let p = err_from_is_err_and c.from_residual-in_err-run_script.result c.from_residual-in_err-run_script.ensures.1 in
    let text = c.args.settings.now in
    let shards = c.in_ok-shards.shards in
    let fault = c.in_err-run_script.field-0.0 in
    let along = c.in_ok-shards.ensures.stand in
    rw (p.1, p.2) (some_told _
    (λ (script written : List ℕ). Ends Answers (lines_of script) shards _ written (Err fault))
    (λ (script written : List ℕ). TellsEachAlone text script written (Err (script_fault fault))) _ _
    (λ script written ends. fault_tells text script written _ shards (settings_view c.in_ok-settings.settings) fault c.in_ok-settings.ensures.on_success along ends)
    c.in_err-run_script.ensures.output)

pub returns-clause-each_alone : goal.returns-clause-each_alone
returns-clause-each_alone g c =
    let text = c.args.settings.now in
    let shards = c.in_ok-shards.shards in
    let along = c.in_ok-shards.ensures.stand in
    some_told _
    (λ (script written : List ℕ). Ends Answers (lines_of script) shards None written (Ok tt))
    (λ (script written : List ℕ). TellsEachAlone text script written (Ok tt)) _ _
    (λ script written ends. ran_tells text script written None shards (settings_view c.in_ok-settings.settings) tt c.in_ok-settings.ensures.on_success along ends)
    c.in_ok-run_script.ensures.output

pub returns-in_err-settings-clause-to_fault : goal.returns-in_err-settings-clause-to_fault
returns-in_err-settings-clause-to_fault g c =
    let p = err_from_is_err_and c.from_residual.result c.from_residual.ensures.1 in
    rw (p.1, p.2) (unread_stops _ _ c.in_err-settings.field-0.0)

pub returns-in_err-shards-clause-to_fault : goal.returns-in_err-shards-clause-to_fault
returns-in_err-shards-clause-to_fault g c =
    let p = err_from_is_err_and c.from_residual-in_err-shards.result c.from_residual-in_err-shards.ensures.1 in
    rw (p.1, p.2) (no_fault_stops _)

pub returns-in_err-run_script-clause-to_fault : goal.returns-in_err-run_script-clause-to_fault
returns-in_err-run_script-clause-to_fault g c =
    let p = err_from_is_err_and c.from_residual-in_err-run_script.result c.from_residual-in_err-run_script.ensures.1 in
    rw (p.1, p.2) (fault_stops _ _ _ _ c.in_ok-shards.shards c.in_err-run_script.field-0.0 c.in_err-run_script.ensures.output)

pub returns-clause-to_fault : goal.returns-clause-to_fault
returns-clause-to_fault g c = no_fault_stops _
