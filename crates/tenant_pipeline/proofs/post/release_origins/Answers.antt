use Rattle.std.proofs.Common.{◌≡◌, ◌∙◌, ◌++◌, ◌-◌, [], ◌∷◌, ℕ, List, take, append-nil, ap, refl, subst, sym}
use Rattle.span_pool.specs.Stored.{OwnedKeys}
use Rattle.span_pool.specs.declared.keys.TextKeys.{TextKeys}
use Rattle.tenant_stores.specs.Part.{part}
use Rattle.tenant_stores.specs.Invariant.{StoreInvariant}
use Rattle.tenant_stores.specs.Trail.{HoldsAll}
use Rattle.tenant_pipeline.specs.Posts.{all_keys, all_text_keys}
use Rattle.tenant_pipeline.proofs.Origins.{all_left, keys_pushed, one_less_held, given_back}
use Rattle.tenant_pipeline.proofs.post.release_origins.Goals as goal

pub loop-keys-init : goal.loop-keys-init
loop-keys-init c = record {
  rest = all_left (all_keys c.args.all.items) (part c.args.tenant c.args.stores.now);
  others = λ other ne. refl;
}

pub loop-keys-preserved : goal.loop-keys-preserved
loop-keys-preserved c =
    let one = c.release_all.ensures in
    record {
      rest = one_less_held (all_keys c.args.all.items) (all_keys c.loop-keys.left.items) (all_keys c.pop.new.self.items) c.keys-in-Some.result (part c.args.tenant c.args.stores.now) (part c.args.tenant c.loop-keys.stores) (part c.args.tenant c.release_all.new.self)
          (keys_pushed c.pop.new.self.items c.in-Some.keys _ c.in-Some.ensures.items ∙ ap (λ (k : TextKeys). all_keys c.pop.new.self.items ++ k ∷ []) (sym c.keys-in-Some.ensures)) c.loop-keys.invariant.rest one.uses_removed one.store_invariant one.shows;
      others = λ other ne. one.others_unchanged other ne ∙ c.loop-keys.invariant.others other ne;
    }

pub returns-clause-uses_removed : goal.returns-clause-uses_removed
returns-clause-uses_removed c = λ start holds.
    let p = part c.args.tenant c.loop-keys.stores in
    let left : List OwnedKeys = c.loop-keys.left.items in
    let end = c.in_default.ensures in
    let none : left ≡ [] = end.items ∙ (append-nil c.pop.new.self.items ∙ (end.rest ∙ ap (λ (k : ℕ). take (k - 1) left) end.cases.0)) in
    given_back p start (subst (λ (ks : List OwnedKeys). HoldsAll (all_text_keys (all_keys ks)) start p) none (c.loop-keys.invariant.rest.own start holds))

pub returns-clause-store_invariant : goal.returns-clause-store_invariant
returns-clause-store_invariant c = λ n pending held sound.
    let p = part c.args.tenant c.loop-keys.stores in
    let left : List OwnedKeys = c.loop-keys.left.items in
    let end = c.in_default.ensures in
    let none : left ≡ [] = end.items ∙ (append-nil c.pop.new.self.items ∙ (end.rest ∙ ap (λ (k : ℕ). take (k - 1) left) end.cases.0)) in
    subst (λ (ks : List OwnedKeys). StoreInvariant n pending (all_text_keys (all_keys ks) ++ held) p) none (c.loop-keys.invariant.rest.sound n pending held sound)
