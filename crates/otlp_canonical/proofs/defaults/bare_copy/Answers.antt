use Rattle.std.proofs.Common.{rules, ◌≡◌}
use Rattle.otlp_trace.specs.Defaults.{no_span}
use Rattle.otlp_read.specs.Value.{span_step}
use Rattle.otlp_read.specs.Walk.{read_with}
use Rattle.otlp_canonical.proofs.Back.{some_copy}
use Rattle.otlp_canonical.proofs.defaults.bare_copy.Goals as goal

pub returns : goal.returns
returns c =
    let between = c.in-Some.copy.items in
    let same : read_with span_step c.args.room no_span c.args.text.now ≡ read_with span_step c.args.room no_span between = search rules in
    let at : c.as_slice-2.result.now ≡ between = search rules in
    some_copy (λ v. v.items) c.args.room c.args.text.now c.as_slice-2.result.now c.in_ok-anew.anew (rw at same) c.in_ok-anew.ensures
