use Rattle.std.proofs.Common.{◌∙◌, ap}
use Rattle.std.proofs.lemmas.List.{get_or_read}
use Rattle.prepared_body.specs.Arrivals.{no_origin}
use Rattle.prepared_body.specs.Origin.{OriginTexts}
use Rattle.tenant_pipeline.proofs.Origins.{like_among, like_resource}
use Rattle.tenant_pipeline.proofs.post.HeldOrigins.keys_like.Goals as goal

pub returns-in-Some-clause-among : goal.returns-in-Some-clause-among
returns-in-Some-clause-among c =
    like_among c.args.origins.now c.args.self.now c.first.result c.in-Some.place c.index.result.now c.keys.result c.in-Some.ensures c.index.ensures c.keys.ensures

pub returns-in-Some-clause-like : goal.returns-in-Some-clause-like
returns-in-Some-clause-like c = λ p was.
    like_resource c.args.origins.now c.args.self.now c.first.result c.in-Some.place c.index.result.now c.keys.result c.in-Some.ensures c.index.ensures c.keys.ensures
    c.args.index (c.first.ensures ∙ ap (λ (o : OriginTexts). o.first) (get_or_read c.args.origins.now c.args.index c.index-origins-index.result c.requires.within c.index-origins-index.is no_origin)) c.requires.grouped p was
