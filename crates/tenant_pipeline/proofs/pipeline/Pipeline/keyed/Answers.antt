use Rattle.std.proofs.Common.{◌≡◌, ◌∙◌, ◌++◌, ap, sym, subst}
use Rattle.span_pool.specs.Stored.{OwnedKeys, StoredData, origin_at}
use Rattle.span_pool.specs.declared.keys.TextKeys.{TextKeys}
use Rattle.tenant_stores.specs.Part.{part}
use Rattle.tenant_stores.specs.Invariant.{StoreInvariant}
use Rattle.tenant_stores.specs.Promises.{WhereInHand}
use Rattle.tenant_stores.specs.Trail.{HoldsAll}
use Rattle.tenant_stores.specs.View.{text_at, text_keys}
use Rattle.tenant_pipeline.proofs.Placing.{given_back, same_among}
use Rattle.tenant_pipeline.proofs.Posting.{on_err}
use Rattle.tenant_pipeline.proofs.pipeline.Pipeline.keyed.Goals as goal

-- the span is kept with the keys of these uses
keys_are : (c : goal.After-of) → c.of.result.keys ≡ c.in_ok-again.again
keys_are c = ap (λ (s : StoredData). s.keys) c.of.ensures ∙ ap (λ (k : OwnedKeys). k.keys) c.in-Ok.ensures

pub returns-in_err-again-clause-on_refusal : goal.returns-in_err-again-clause-on_refusal
returns-in_err-again-clause-on_refusal c =
    let p = part c.args.self.now.tenant c.args.stores.now in
    let q = part c.args.self.now.tenant c.hold_again.new.self in
    on_err c.from_residual-in_err-again.result
    (subst (λ (k : TextKeys). WhereInHand k p (λ n pending held. q ≡ p)) c.keys.ensures c.in_err-again.ensures.on_refusal)

pub returns-in-Ok-clause-uses_added : goal.returns-in-Ok-clause-uses_added
returns-in-Ok-clause-uses_added c = λ n pending held among sound.
    let tenant = c.args.self.now.tenant in
    subst (λ (k : TextKeys). HoldsAll (text_keys k) (part tenant c.args.stores.now) (part tenant c.hold_again.new.self)) (sym (keys_are c))
    (c.in_ok-again.ensures.uses_added n pending held (same_among _ _ held c.keys.ensures among) sound)

pub returns-in-Ok-clause-store_invariant : goal.returns-in-Ok-clause-store_invariant
returns-in-Ok-clause-store_invariant c = λ n pending held among sound.
    let tenant = c.args.self.now.tenant in
    subst (λ (k : TextKeys). StoreInvariant n pending (text_keys k ++ held) (part tenant c.hold_again.new.self)) (sym (keys_are c))
    (c.in_ok-again.ensures.store_invariant n pending held (same_among _ _ held c.keys.ensures among) sound)

pub returns-in-Ok-clause-texts : goal.returns-in-Ok-clause-texts
returns-in-Ok-clause-texts c = λ n pending held among sound.
    let tenant = c.args.self.now.tenant in
    let old = part tenant c.args.stores.now in
    let new = part tenant c.hold_again.new.self in
    subst (λ (k : TextKeys). origin_at (text_at new.texts) k ≡ origin_at (text_at old.texts) c.args.keys.now.keys) (sym (keys_are c))
    (c.in_ok-again.ensures.texts n pending held (same_among _ _ held c.keys.ensures among) sound ∙ ap (λ (k : TextKeys). origin_at (text_at old.texts) k) c.keys.ensures)

pub returns-in-Ok-clause-shows : goal.returns-in-Ok-clause-shows
returns-in-Ok-clause-shows c = λ n pending held keys among sound shown.
    c.in_ok-again.ensures.shows n pending held keys (same_among _ _ held c.keys.ensures among) sound shown

pub returns-in-Ok-clause-stay : goal.returns-in-Ok-clause-stay
returns-in-Ok-clause-stay c = λ n pending held among sound.
    c.in_ok-again.ensures.stay n pending held (same_among _ _ held c.keys.ensures among) sound

pub returns-in-Err-clause-others_unchanged : goal.returns-in-Err-clause-others_unchanged
returns-in-Err-clause-others_unchanged c = λ other ne. c.release_all.ensures.others_unchanged other ne ∙ c.in_ok-again.ensures.others_unchanged other ne

pub returns-in-Err-clause-on_refusal : goal.returns-in-Err-clause-on_refusal
returns-in-Err-clause-on_refusal c = λ n pending held among sound.
    let tenant = c.args.self.now.tenant in
    given_back (text_keys c.in_ok-again.again) (part tenant c.args.stores.now) (part tenant c.hold_again.new.self) (part tenant c.release_all.new.self)
    (c.in_ok-again.ensures.uses_added n pending held (same_among _ _ held c.keys.ensures among) sound) c.release_all.ensures.uses_removed
