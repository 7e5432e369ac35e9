use Rattle.std.proofs.Common.{◌≡◌, ◌∙◌, ◌∷◌, sym, ap, map, refl, rules, w32, to_z, of_z}
use Rattle.std.specs.Int.RustNames.{FitsSigned}
use Rattle.std.specs.Prelude.{unwrap_or}
use Rattle.std.proofs.lemmas.Int.{to_z-of_z}
use Rattle.span_view.specs.Fields.{first_start, first_end, first_status, attributes_told, field_shown}
use Rattle.tail_settings.specs.Policy.{policy_view}
use Rattle.tail_policy.specs.Note.{leaves_in, bits_of, attributes_meet}
use Rattle.tail_policy.proofs.Joined.{one_more, none_left}
use Rattle.tail_policy.proofs.tally.tally.Goals as goal

pub loop-field-preserved : goal.loop-field-preserved
loop-field-preserved c =
    let steps = c.in-Some.ensures.steps ∙ ap (λ f. field_shown f ∷ c.next.new.self) c.in-Attribute.is in
    record {
      met = one_more c.in-Attribute.pair (attributes_told c.next.new.self) (attributes_told c.loop-field.field-iterator) (leaves_in (map policy_view c.args.policies.now)) c.loop-field.met c.attribute_bits-met.result _ (ap attributes_told steps) c.attribute_bits-met.ensures c.loop-field.invariant.met;
      start = ap (unwrap_or c.loop-field.start) (sym (ap first_start steps)) ∙ c.loop-field.invariant.start;
      end = ap (unwrap_or c.loop-field.end) (sym (ap first_end steps)) ∙ c.loop-field.invariant.end;
      status = ap (unwrap_or c.loop-field.status) (sym (ap first_status steps)) ∙ c.loop-field.invariant.status;
    }

pub returns : goal.returns
returns c =
    let ls = leaves_in (map policy_view c.args.policies.now) in
    let ends = c.in-None.ensures.steps.0 in
    let whole = c.into_iter-field-iterator.ensures.into_iter_gives in
    let met : c.loop-field.met ≡ bits_of (attributes_meet (attributes_told c.args.fields)) ls =
    none_left (attributes_told c.loop-field.field-iterator) ls c.loop-field.met _ (ap attributes_told ends) c.loop-field.invariant.met
    ∙ ap (λ fs. bits_of (attributes_meet (attributes_told fs)) ls) whole in
    let first : c.unwrap_or-2.result ≡ first_start c.args.fields =
    c.unwrap_or-2.ensures ∙ ap (unwrap_or c.loop-field.start) (sym (ap first_start ends)) ∙ c.loop-field.invariant.start ∙ ap first_start whole in
    let last : c.unwrap_or-3.result ≡ first_end c.args.fields =
    c.unwrap_or-3.ensures ∙ ap (unwrap_or c.loop-field.end) (sym (ap first_end ends)) ∙ c.loop-field.invariant.end ∙ ap first_end whole in
    let fits : FitsSigned w32 c.unwrap_or-4.result = search rules in
    let code : to_z w32 (of_z w32 c.unwrap_or-4.result) ≡ first_status c.args.fields =
    to_z-of_z w32 c.unwrap_or-4.result fits
    ∙ c.unwrap_or-4.ensures ∙ ap (unwrap_or c.loop-field.status) (sym (ap first_status ends)) ∙ c.loop-field.invariant.status ∙ ap first_status whole in
    rw (met, first, last, code) refl
