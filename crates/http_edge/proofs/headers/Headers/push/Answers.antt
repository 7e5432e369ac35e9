use Rattle.std.proofs.Common.{◌≡◌, [], ◌∷◌, ◌++◌, length, map, ap, ◌∙◌, rules, arith}
use Rattle.httparse.specs.Spans.{header_bytes}
use Rattle.http_edge.proofs.Cut.{fields_front, fields_more, fields_pushed}
use Rattle.http_edge.proofs.headers.Headers.push.Goals as goal

pub returns-in_err-extend_from_slice-2-clause-kept : goal.returns-in_err-extend_from_slice-2-clause-kept
returns-in_err-extend_from_slice-2-clause-kept c =
    let inside = c.self.inside in
    let text : c.extend_from_slice-2.new.self.items ≡ inside.text.items ++ c.args.name.now =
    c.in_err-extend_from_slice-2.ensures.items ∙ c.in_ok-extend_from_slice.ensures.items in
    let kept : map (header_bytes c.extend_from_slice-2.new.self.items) inside.spans.items ≡ c.args.self.now =
    ap (λ bs. map (header_bytes bs) inside.spans.items) text
    ∙ (fields_front inside.text.items c.args.name.now inside.spans.items c.self.invariant ∙ c.self.view_is) in
    search rules

pub returns-in_err-push-clause-kept : goal.returns-in_err-push-clause-kept
returns-in_err-push-clause-kept c =
    let inside = c.self.inside in
    let text : c.extend_from_slice-2.new.self.items ≡ (inside.text.items ++ c.args.name.now) ++ c.args.value.now =
    c.in_ok-extend_from_slice-2.ensures.items ∙ ap (λ bs. bs ++ c.args.value.now) c.in_ok-extend_from_slice.ensures.items in
    let kept : map (header_bytes c.extend_from_slice-2.new.self.items) c.push.new.self.items ≡ c.args.self.now =
    ap (λ ss. map (header_bytes c.extend_from_slice-2.new.self.items) ss) c.in_err-push.ensures.items
    ∙ (ap (λ bs. map (header_bytes bs) inside.spans.items) text
    ∙ (fields_more inside.text.items c.args.name.now c.args.value.now inside.spans.items c.self.invariant ∙ c.self.view_is)) in
    search rules

pub returns-clause-pushed : goal.returns-clause-pushed
returns-clause-pushed c =
    let inside = c.self.inside in
    let name = c.args.name.now in
    let value = c.args.value.now in
    let text : c.extend_from_slice-2.new.self.items ≡ (inside.text.items ++ name) ++ value =
    c.in_ok-extend_from_slice-2.ensures.items ∙ ap (λ bs. bs ++ value) c.in_ok-extend_from_slice.ensures.items in
    ap (λ bs. map (header_bytes bs) c.push.new.self.items) text
    ∙ (ap (λ ss. map (header_bytes ((inside.text.items ++ name) ++ value)) ss) c.in_ok-push.ensures.items
    ∙ (fields_pushed inside.text.items name value inside.spans.items c.len-start.result c.len-middle.result c.len-end.result
    c.self.invariant (omega arith)
    (omega (arith, ap length c.in_ok-extend_from_slice.ensures.items)) (omega (arith, ap length text))
    ∙ ap (λ fs. fs ++ (name, value) ∷ []) c.self.view_is))
