use Rattle.std.proofs.Common.{◌++◌, Some, ap, sym, ◌∙◌}
use Rattle.std.proofs.lemmas.Result.{on_ok_weaker}
use Rattle.replay_script.specs.Answer.{added_text}
use Rattle.trace_collector.proofs.shards.Shards.welcome.Goals as goal

pub returns-clause-on_success : goal.returns-clause-on_success
returns-clause-on_success c =
    let stepped = c.in_ok-step_at.ensures.on_success in
    on_ok_weaker c.put_added.result (λ text. record {
      section = c.in_ok-section.section;
      outcome = c.in_ok-step_at.field-0;
      kept = stepped.0;
      left = stepped.1;
      own = sym c.in-Some.ensures ∙ ap Some (sym c.in_ok-section.ensures);
      was = stepped.2;
      steps = stepped.3;
      is_now = stepped.4;
      text = text ∙ ap (λ name. c.args.out.now.items ++ added_text name c.args.tenant) c.name_of.ensures;
    }) c.put_added.ensures.on_success
