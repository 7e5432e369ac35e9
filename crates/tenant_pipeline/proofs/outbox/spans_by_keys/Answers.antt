use Rattle.std.proofs.Common.{◌≡◌, ◌++◌, ◌+◌, ◌∙◌, ℕ, List, ◌∷◌, drop, get_or, sym, ap, Some}
use Rattle.std.proofs.lemmas.List.{drop_more}
use Rattle.std.specs.Borrow.{Bor}
use Rattle.span_batcher.specs.Texts.{spans_in}
use Rattle.span_pool.specs.Stored.{StoredData}
use Rattle.tenant_stores.specs.Part.{part}
use Rattle.tenant_stores.specs.View.{spans_at}
use Rattle.tenant_pipeline.proofs.Spans.{span_more}
use Rattle.tenant_pipeline.proofs.outbox.spans_by_keys.Goals as goal

pub loop-key-preserved : goal.loop-key-preserved
loop-key-preserved c =
    let i = c.loop-key.key-index in
    let keys : List ℕ = c.args.keys.now in
    let p = part c.args.tenant c.args.stores.now in
    let texts = c.args.stores.now.texts in
    let next : drop i keys ≡ get_or keys i 0 ∷ drop (i + 1) keys = drop_more keys i 0 c.loop-key-test.true in
    let there : p.spans (get_or keys i 0) ≡ Some c.in-Some.found.now = sym c.in-Some.ensures in
    ap (λ (xs : List (Bor StoredData)). spans_in texts xs ++ spans_at p.spans p.texts (drop (i + 1) keys)) c.in_ok-push.ensures.items
    ∙ (span_more c.args.tenant c.args.stores.now c.loop-key.spans.items c.in-Some.found (get_or keys i 0) (drop (i + 1) keys) there
    ∙ (ap (λ (ks : List ℕ). spans_in texts c.loop-key.spans.items ++ spans_at p.spans p.texts ks) (sym next) ∙ c.loop-key.invariant))
