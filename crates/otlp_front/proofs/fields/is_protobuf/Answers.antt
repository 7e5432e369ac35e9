use Rattle.std.proofs.Common.{◌≡◌, Some, option_copied, codes, sym, ap, ◌∙◌}
use Rattle.std.proofs.lemmas.Slice.Eq.{bytes_eq-Decides}
use Rattle.otlp_front.specs.Fields.{is_protobuf}
use Rattle.otlp_front.proofs.Usual.{usual_type}
use Rattle.otlp_front.proofs.fields.is_protobuf.Goals as goal

pub returns-then-eq : goal.returns-then-eq
returns-then-eq c =
    let same : c.in-Some.value.now ≡ codes "application/x-protobuf" =
    (bytes_eq-Decides c.in-Some.value.now c.as_slice.result.now).0 (sym c.eq.ensures ∙ c.if-eq.true) ∙ c.as_slice.ensures in
    c.if-eq.true ∙ sym (ap (λ o. is_protobuf (option_copied o)) c.in-Some.is
    ∙ (ap (λ v. is_protobuf (Some v)) same ∙ usual_type))
