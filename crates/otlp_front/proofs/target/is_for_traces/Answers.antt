use Rattle.std.proofs.Common.{◌≡◌, codes, sym, ap, ◌∙◌}
use Rattle.std.proofs.lemmas.Slice.Eq.{bytes_eq-Decides}
use Rattle.otlp_front.specs.Target.{is_for_traces}
use Rattle.otlp_front.proofs.Usual.{usual_target}
use Rattle.otlp_front.proofs.target.is_for_traces.Goals as goal

pub returns-then-eq : goal.returns-then-eq
returns-then-eq c =
    let same : c.args.target.now ≡ codes "/v1/traces" =
    (bytes_eq-Decides c.args.target.now c.as_slice.result.now).0 (sym c.eq.ensures ∙ c.if-eq.true) ∙ c.as_slice.ensures in
    c.if-eq.true ∙ sym (ap is_for_traces same ∙ usual_target)
