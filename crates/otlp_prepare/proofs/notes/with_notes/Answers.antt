use Rattle.std.proofs.Common.{rules, ◌≡◌, List, subst}
use Rattle.std.specs.Prelude.{IfOk}
use Rattle.std.proofs.lemmas.Iterator.{items_from_collect, YieldsList-from_map, YieldsList-from_zip}
use Rattle.std.proofs.lemmas.Iterator.Adapters.{YieldsList-from_vec}
use Rattle.prepared_body.specs.declared.noted.NotedSpan.{NotedSpan}
use Rattle.otlp_prepare.proofs.Joined.{both_parts, joined}
use Rattle.otlp_prepare.proofs.notes.with_notes.Goals as goal

pub returns : goal.returns
returns c = λ policies own.
    subst (λ (xs : List NotedSpan). IfOk c.collect.result (λ spans. spans.items ≡ xs)) (joined policies c.args.parts.items c.args.own.items own)
    (items_from_collect _ c.collect.ensures.ran
    (YieldsList-from_map _ both_parts (YieldsList-from_zip (YieldsList-from_vec c.args.parts.items (cc) (cc)) (YieldsList-from_vec c.args.own.items (cc) (cc))) c.map.ensures.closure (λ x r q k. search rules)))
