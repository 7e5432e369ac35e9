use Rattle.std.proofs.Common.{rules, []}
use Rattle.std.proofs.lemmas.Iterator.{items_from_collect, YieldsList-from_slice, YieldsList-from_map}
use Rattle.span_view.specs.Reading.{facts_of}
use Rattle.otlp_prepare.specs.BodySpans.{UnnotedSpanData}
use Rattle.otlp_prepare.proofs.notes.own_views.Goals as goal

pub returns : goal.returns
returns c =
    items_from_collect _ c.collect.ensures.ran
    (YieldsList-from_map _ (λ (p : UnnotedSpanData). facts_of p.text []) (YieldsList-from_slice c.args.parts.now (cc)) c.map.ensures.closure (λ x r q k. search rules))
