use Rattle.std.proofs.Common.{◌≡◌, ◌∙◌, refl, ℕ, List}
use Rattle.text_pool.specs.Part as texts
use Rattle.tenant_stores.specs.Part.{part}
use Rattle.tenant_stores.specs.View.{text_keys}
use Rattle.tenant_stores.specs.Counts.{Counts}
use Rattle.tenant_stores.specs.Invariant.{StoreInvariant}
use Rattle.tenant_stores.proofs.Parts.{part_by}
use Rattle.tenant_stores.proofs.Held.{on_err, holds_all, held_sound, held_shows, held_stays}
use Rattle.tenant_stores.proofs.stores.Stores.hold_all.Goals as goal

pub returns-clause-uses_added : goal.returns-clause-uses_added
returns-clause-uses_added g c = λ n pending held sound.
    let t = texts.part c.args.tenant c.args.self.now.texts in
    holds_all (text_keys c.in_ok-keys.keys) (part c.args.tenant c.args.self.now) (part c.args.tenant (record c.args.self.now { texts = c.hold_four.new.texts })) refl
    (c.in_ok-keys.ensures.keys_held sound.kept (c.wanted_new-resource.ensures.known t) (c.wanted_new-resource_schema_url.ensures.known t) (c.wanted_new-scope.ensures.known t) (c.wanted_new-scope_schema_url.ensures.known t)) refl refl

pub returns-clause-texts : goal.returns-clause-texts
returns-clause-texts g c = λ n pending held sound.
    let t = texts.part c.args.tenant c.args.self.now.texts in
    c.in_ok-keys.ensures.origin sound.kept (c.wanted_new-resource.ensures.known t) (c.wanted_new-resource_schema_url.ensures.known t) (c.wanted_new-scope.ensures.known t) (c.wanted_new-scope_schema_url.ensures.known t)
    ∙ cc (c.wanted_new-resource.ensures.text t, c.wanted_new-resource_schema_url.ensures.text t, c.wanted_new-scope.ensures.text t, c.wanted_new-scope_schema_url.ensures.text t)

pub returns-clause-store_invariant : goal.returns-clause-store_invariant
returns-clause-store_invariant g c = λ n pending held sound.
    let t = texts.part c.args.tenant c.args.self.now.texts in
    held_sound (text_keys c.in_ok-keys.keys) (part c.args.tenant c.args.self.now) (part c.args.tenant (record c.args.self.now { texts = c.hold_four.new.texts })) refl
    (c.in_ok-keys.ensures.keys_held sound.kept (c.wanted_new-resource.ensures.known t) (c.wanted_new-resource_schema_url.ensures.known t) (c.wanted_new-scope.ensures.known t) (c.wanted_new-scope_schema_url.ensures.known t)) refl refl n pending held sound

pub returns-clause-shows : goal.returns-clause-shows
returns-clause-shows g c = λ n pending held keys sound among.
    let t = texts.part c.args.tenant c.args.self.now.texts in
    held_shows (text_keys c.in_ok-keys.keys) (part c.args.tenant c.args.self.now) (part c.args.tenant (record c.args.self.now { texts = c.hold_four.new.texts })) refl
    (c.in_ok-keys.ensures.keys_held sound.kept (c.wanted_new-resource.ensures.known t) (c.wanted_new-resource_schema_url.ensures.known t) (c.wanted_new-scope.ensures.known t) (c.wanted_new-scope_schema_url.ensures.known t)) refl refl n pending held sound keys among

pub returns-clause-stay : goal.returns-clause-stay
returns-clause-stay g c = λ n pending held sound.
    let t = texts.part c.args.tenant c.args.self.now.texts in
    held_stays (text_keys c.in_ok-keys.keys) (part c.args.tenant c.args.self.now) (part c.args.tenant (record c.args.self.now { texts = c.hold_four.new.texts })) refl
    (c.in_ok-keys.ensures.keys_held sound.kept (c.wanted_new-resource.ensures.known t) (c.wanted_new-resource_schema_url.ensures.known t) (c.wanted_new-scope.ensures.known t) (c.wanted_new-scope_schema_url.ensures.known t)) refl refl n pending held sound

pub returns-clause-others_unchanged : goal.returns-clause-others_unchanged
returns-clause-others_unchanged g c = λ other ne. part_by _ _ _ _ _ _ _ _ refl (c.in_ok-keys.ensures.others_unchanged other ne) refl refl

pub returns-in_err-keys-clause-others_unchanged : goal.returns-in_err-keys-clause-others_unchanged
returns-in_err-keys-clause-others_unchanged g c = λ other ne. part_by _ _ _ _ _ _ _ _ refl (c.in_err-keys.ensures.others_unchanged other ne) refl refl

pub returns-in_err-keys-clause-on_refusal : goal.returns-in_err-keys-clause-on_refusal
returns-in_err-keys-clause-on_refusal g c =
    let t = texts.part c.args.tenant c.args.self.now.texts in
    let old = part c.args.tenant c.args.self.now in
    let new = part c.args.tenant (record c.args.self.now { texts = c.hold_four.new.texts }) in
    let same : (n : Counts) (pending held : List ℕ) → StoreInvariant n pending held old → new ≡ old = λ n pending held sound.
    part_by _ _ _ _ _ _ _ _ refl (c.in_err-keys.ensures.on_refusal sound.kept (c.wanted_new-resource.ensures.known t) (c.wanted_new-resource_schema_url.ensures.known t) (c.wanted_new-scope.ensures.known t) (c.wanted_new-scope_schema_url.ensures.known t)) refl refl in
    on_err c.from_residual.result same
