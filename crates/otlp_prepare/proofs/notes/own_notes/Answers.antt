use Rattle.std.proofs.Common.{◌≡◌, [], List, ap, map, subst, ◌∙◌}
use Rattle.std.specs.Prelude.{IfOk}
use Rattle.span_view.specs.Reading.{facts_of}
use Rattle.tail_policy.specs.declared.note.TraceNote.{TraceNote}
use Rattle.tail_policy.specs.Note.{note_of}
use Rattle.otlp_prepare.specs.BodySpans.{UnnotedSpanData}
use Rattle.otlp_prepare.proofs.Lists.{map_twice}
use Rattle.otlp_prepare.proofs.notes.own_notes.Goals as goal

pub returns : goal.returns
returns g c =
    let policies = c.args.policies.now in
    let views = ap (map (note_of policies)) (c.as_slice.ensures.value ∙ c.in_ok-views.ensures) ∙ map_twice (note_of policies) (λ (p : UnnotedSpanData). facts_of p.text []) c.args.parts.now in
    subst (λ (xs : List TraceNote). IfOk c.note_all.result (λ notes. notes.items ≡ xs)) views c.note_all.ensures
