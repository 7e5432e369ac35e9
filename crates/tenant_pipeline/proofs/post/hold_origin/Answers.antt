use Rattle.std.proofs.Common.{◌≡◌, ◌∙◌, ◌++◌, sym, subst}
use Rattle.span_pool.specs.Stored.{OwnedKeys, origin_at}
use Rattle.tenant_stores.specs.Part.{part}
use Rattle.tenant_stores.specs.Invariant.{StoreInvariant}
use Rattle.tenant_stores.specs.Trail.{HoldsAll}
use Rattle.tenant_stores.specs.View.{text_at, text_keys}
use Rattle.prepared_body.specs.Arrivals.{origin_view}
use Rattle.tenant_pipeline.proofs.Placing.{given_back}
use Rattle.tenant_pipeline.proofs.post.hold_origin.Goals as goal

pub returns-in-Ok-clause-uses_added : goal.returns-in-Ok-clause-uses_added
returns-in-Ok-clause-uses_added c = λ n pending held among sound.
    let tenant = c.args.tenant in
    subst (λ (k : OwnedKeys). HoldsAll (text_keys k.keys) (part tenant c.args.stores.now) (part tenant c.hold_texts.new.stores)) (sym c.in-Ok.ensures)
    (c.in_ok-keys.ensures.uses_added n pending held among sound)

pub returns-in-Ok-clause-store_invariant : goal.returns-in-Ok-clause-store_invariant
returns-in-Ok-clause-store_invariant c = λ n pending held among sound.
    let tenant = c.args.tenant in
    subst (λ (k : OwnedKeys). StoreInvariant n pending (text_keys k.keys ++ held) (part tenant c.hold_texts.new.stores)) (sym c.in-Ok.ensures)
    (c.in_ok-keys.ensures.store_invariant n pending held among sound)

pub returns-in-Ok-clause-origin : goal.returns-in-Ok-clause-origin
returns-in-Ok-clause-origin c = λ n pending held among sound.
    let q = part c.args.tenant c.hold_texts.new.stores in
    subst (λ (k : OwnedKeys). origin_at (text_at q.texts) k.keys ≡ origin_view c.args.origin.now) (sym c.in-Ok.ensures)
    (c.in_ok-keys.ensures.origin n pending held among sound)

pub returns-in-Err-clause-others_unchanged : goal.returns-in-Err-clause-others_unchanged
returns-in-Err-clause-others_unchanged c = λ other ne. c.release_all.ensures.others_unchanged other ne ∙ c.in_ok-keys.ensures.others_unchanged other ne

pub returns-in-Err-clause-on_refusal : goal.returns-in-Err-clause-on_refusal
returns-in-Err-clause-on_refusal c = λ n pending held among sound.
    let tenant = c.args.tenant in
    given_back (text_keys c.in_ok-keys.keys) (part tenant c.args.stores.now) (part tenant c.hold_texts.new.stores) (part tenant c.release_all.new.self)
    (c.in_ok-keys.ensures.uses_added n pending held among sound) c.release_all.ensures.uses_removed
