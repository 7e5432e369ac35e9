use Rattle.std.proofs.Common.{◌≡◌, ◌∙◌, List, map, sym, ap, subst}
use Rattle.std.specs.Arc.{arc_slice_items}
use Rattle.otlp_parts.specs.Parts.{body_parts_view}
use Rattle.tail_settings.specs.Policy.{PolicyData, policy_view}
use Rattle.tail_settings.specs.Section.{section_view}
use Rattle.tail_settings.specs.declared.policy.PolicySpec.{PolicySpec}
use Rattle.prepared_body.specs.Prepared.{AreReady}
use Rattle.otlp_prepare.proofs.Joined.{are_ready}
use Rattle.otlp_prepare.proofs.Valued.{all_prepared}
use Rattle.otlp_prepare.proofs.body.prepare_parts.Goals as goal

pub of-requires-clause-ready : goal.of-requires-clause-ready
of-requires-clause-ready g c =
    let shared : arc_slice_items c.in_ok-shared.shared ≡ arc_slice_items c.args.section.now.tail_sampling.policies = c.in_ok-shared.ensures.cases in
    let policies : c.of-policies.result ≡ map policy_view (arc_slice_items c.in_ok-shared.shared) = c.of-policies.ensures ∙ ap (λ (ps : List PolicySpec). map policy_view ps) (c.as_slice.ensures.value ∙ sym shared) in
    subst (λ (ps : List PolicyData). AreReady ps c.in_ok-found.found.origins.items c.in_ok-spans.spans.items) policies
    (are_ready c.of-policies.result c.in_ok-found.found.origins.items c.in_ok-found.found.parts.items c.in_ok-spans.spans.items c.in_ok-spans.ensures c.in_ok-found.ensures.grouped c.in_ok-found.ensures.found)

pub returns : goal.returns
returns g c = λ v typed nested same.
    let shared : arc_slice_items c.in_ok-shared.shared ≡ arc_slice_items c.args.section.now.tail_sampling.policies = c.in_ok-shared.ensures.cases in
    let taken = ap (λ (ps : List PolicySpec). map policy_view ps) shared in
    all_prepared c.read_spans_are_viewed.ensures.facts v (body_parts_view c.args.body) c.of-policies.result (map policy_view (arc_slice_items c.in_ok-shared.shared)) c.in_ok-found.found.origins.items c.in_ok-found.found.parts.items c.in_ok-spans.spans.items c.args.tenant (section_view c.args.section.now) c.of.result typed nested same c.in_ok-found.ensures.found c.in_ok-found.ensures.arrivals c.in_ok-spans.ensures taken c.of.ensures

pub of-requires-clause-grouped : goal.of-requires-clause-grouped
of-requires-clause-grouped g c = c.in_ok-found.ensures.grouped
