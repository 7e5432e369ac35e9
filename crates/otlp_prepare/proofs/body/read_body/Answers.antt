use Rattle.std.proofs.Common.{◌<◌, ◌^◌, ℕ, List, sym, subst}
use Rattle.std.specs.List.{All}
use Rattle.std.proofs.lemmas.Result.{IfOk-weaker}
use Rattle.otlp_trace.specs.Data.{RequestData}
use Rattle.otlp_read.specs.Typed.{TypedRequest}
use Rattle.otlp_read.specs.Value.{IsValue}
use Rattle.otlp_parts.specs.declared.parts.BodyParts.{BodyParts}
use Rattle.otlp_parts.specs.Parts.{body_parts_view}
use Rattle.otlp_parts.specs.Texts.{ArePartsOf, BodyTexts}
use Rattle.otlp_prepare.specs.BodySpans.{AreRead}
use Rattle.otlp_prepare.proofs.Valued.{body_read}
use Rattle.otlp_prepare.proofs.body.read_body.Goals as goal

pub returns-clause-typed : goal.returns-clause-typed
returns-clause-typed c = λ v is.
    c.values_are_sound.ensures.typed c.args.body v (subst (λ (bs : List ℕ). All (λ b. b < 2 ^ 8) bs) c.as_slice.ensures c.are_bytes.ensures) is

pub returns-clause-nested : goal.returns-clause-nested
returns-clause-nested c = λ v is. c.values_are_sound.ensures.nested c.args.body v is

pub returns-clause-read : goal.returns-clause-read
returns-clause-read c =
    let typed : (v : RequestData) → IsValue c.args.body v → TypedRequest v = λ v is.
    c.values_are_sound.ensures.typed c.args.body v (subst (λ (bs : List ℕ). All (λ b. b < 2 ^ 8) bs) c.as_slice.ensures c.are_bytes.ensures) is in
    IfOk-weaker c.read_parts.result (λ (parts : BodyParts). ArePartsOf c.args.body (body_parts_view parts)) (λ (parts : BodyParts). AreRead (body_parts_view parts))
    (λ parts are. subst (λ (b : BodyTexts). AreRead b) (sym are.same) (body_read are.value (typed are.value are.is) (c.values_are_sound.ensures.nested c.args.body are.value are.is)))
    c.read_parts.ensures.value
