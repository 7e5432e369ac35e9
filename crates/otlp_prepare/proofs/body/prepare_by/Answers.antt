use Rattle.std.proofs.Common.{rules, ◌≡◌, Ok, Result, ap}
use Rattle.otlp_read.specs.declared.fault.ReadFault.{ReadFault}
use Rattle.otlp_read.proofs.Answered.{only_memory}
use Rattle.otlp_parts.specs.Parts.{body_parts_view}
use Rattle.otlp_parts.specs.Texts.{BodyTexts, texts_of}
use Rattle.otlp_prepare.specs.Prepared.{refusal_of}
use Rattle.otlp_prepare.specs.declared.refusal.Refusal.TheVariants as refusal
use Rattle.otlp_prepare.proofs.body.prepare_by.Goals as goal

pub returns-in_err-read-clause-only : goal.returns-in_err-read-clause-only
returns-in_err-read-clause-only g c = λ v is.
    let memory : refusal_of c.in_err-read.field-0.0 ≡ refusal.OutOfMemory =
    ap refusal_of (only_memory c.in_err-read.field-0.0 (texts_of v) (c.in_err-read.ensures.only v is)) in
    search (rules, memory)

pub returns-clause-only : goal.returns-clause-only
returns-clause-only g c = λ v is.
    let only : Path (Result BodyTexts ReadFault) (Ok (texts_of v)) (Ok (body_parts_view c.in_ok-read.read)) = c.in_ok-read.ensures.only v is in
    let same : body_parts_view c.in_ok-read.read ≡ texts_of v = cc in
    c.in_ok-prepared.ensures v (c.in_ok-read.ensures.typed v is) (c.in_ok-read.ensures.nested v is) same

pub returns-clause-value : goal.returns-clause-value
returns-clause-value g c =
    let are = c.in_ok-read.ensures.value in
    (are.value, are.is, c.in_ok-prepared.ensures are.value (c.in_ok-read.ensures.typed are.value are.is) (c.in_ok-read.ensures.nested are.value are.is) are.same)
