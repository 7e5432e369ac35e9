use Rattle.std.proofs.Common.{◌≡◌, ◌∙◌, refl, ℕ, List}
use Rattle.text_pool.specs.Part as texts
use Rattle.tenant_stores.specs.Part.{part}
use Rattle.tenant_stores.specs.View.{text_keys}
use Rattle.tenant_stores.specs.Counts.{Counts}
use Rattle.tenant_stores.specs.Invariant.{StoreInvariant}
use Rattle.tenant_stores.specs.Shows.{AreAmong}
use Rattle.tenant_stores.specs.HeldTexts.{AreHeld}
use Rattle.tenant_stores.proofs.Parts.{part_by}
use Rattle.tenant_stores.proofs.Held.{on_err, holds_all, held_sound, held_shows, held_stays, in_hand, origin_scoped, outer_known}
use Rattle.tenant_stores.proofs.stores.Stores.hold_scope.Goals as goal

pub returns-clause-uses_added : goal.returns-clause-uses_added
returns-clause-uses_added g c = λ n pending held among sound.
    let stores = c.args.self.now in
    let old = part c.args.tenant stores in
    let new = part c.args.tenant (record stores { texts = c.hold_four.new.texts }) in
    let keys = c.args.keys in
    let t = texts.part c.args.tenant stores.texts in
    let known = outer_known c.wanted_again-resource.result c.wanted_again-resource_schema_url.result c.wanted_new-scope.result c.wanted_new-scope_schema_url.result keys t
    c.wanted_again-resource.ensures c.wanted_again-resource_schema_url.ensures (in_hand n pending held old sound (text_keys keys) among) in
    let more : AreHeld (text_keys c.in_ok-again.again) old.texts new.texts = c.in_ok-again.ensures.keys_held sound.kept known.0 known.1 (c.wanted_new-scope.ensures.known t) (c.wanted_new-scope_schema_url.ensures.known t) in
    holds_all (text_keys c.in_ok-again.again) old new refl more refl refl

pub returns-clause-texts : goal.returns-clause-texts
returns-clause-texts g c = λ n pending held among sound.
    let stores = c.args.self.now in
    let old = part c.args.tenant stores in
    let keys = c.args.keys in
    let t = texts.part c.args.tenant stores.texts in
    let known = outer_known c.wanted_again-resource.result c.wanted_again-resource_schema_url.result c.wanted_new-scope.result c.wanted_new-scope_schema_url.result keys t
    c.wanted_again-resource.ensures c.wanted_again-resource_schema_url.ensures (in_hand n pending held old sound (text_keys keys) among) in
    c.in_ok-again.ensures.origin sound.kept known.0 known.1 (c.wanted_new-scope.ensures.known t) (c.wanted_new-scope_schema_url.ensures.known t)
    ∙ origin_scoped c.wanted_again-resource.result c.wanted_again-resource_schema_url.result c.wanted_new-scope.result c.wanted_new-scope_schema_url.result keys t
    c.wanted_again-resource.ensures c.wanted_again-resource_schema_url.ensures _ _
    (c.wanted_new-scope.ensures.text t) (c.wanted_new-scope_schema_url.ensures.text t)

pub returns-clause-store_invariant : goal.returns-clause-store_invariant
returns-clause-store_invariant g c = λ n pending held among sound.
    let stores = c.args.self.now in
    let old = part c.args.tenant stores in
    let new = part c.args.tenant (record stores { texts = c.hold_four.new.texts }) in
    let keys = c.args.keys in
    let t = texts.part c.args.tenant stores.texts in
    let known = outer_known c.wanted_again-resource.result c.wanted_again-resource_schema_url.result c.wanted_new-scope.result c.wanted_new-scope_schema_url.result keys t
    c.wanted_again-resource.ensures c.wanted_again-resource_schema_url.ensures (in_hand n pending held old sound (text_keys keys) among) in
    let more : AreHeld (text_keys c.in_ok-again.again) old.texts new.texts = c.in_ok-again.ensures.keys_held sound.kept known.0 known.1 (c.wanted_new-scope.ensures.known t) (c.wanted_new-scope_schema_url.ensures.known t) in
    held_sound (text_keys c.in_ok-again.again) old new refl more refl refl n pending held sound

pub returns-clause-shows : goal.returns-clause-shows
returns-clause-shows g c = λ n pending held shown among sound within.
    let stores = c.args.self.now in
    let old = part c.args.tenant stores in
    let new = part c.args.tenant (record stores { texts = c.hold_four.new.texts }) in
    let keys = c.args.keys in
    let t = texts.part c.args.tenant stores.texts in
    let known = outer_known c.wanted_again-resource.result c.wanted_again-resource_schema_url.result c.wanted_new-scope.result c.wanted_new-scope_schema_url.result keys t
    c.wanted_again-resource.ensures c.wanted_again-resource_schema_url.ensures (in_hand n pending held old sound (text_keys keys) among) in
    let more : AreHeld (text_keys c.in_ok-again.again) old.texts new.texts = c.in_ok-again.ensures.keys_held sound.kept known.0 known.1 (c.wanted_new-scope.ensures.known t) (c.wanted_new-scope_schema_url.ensures.known t) in
    held_shows (text_keys c.in_ok-again.again) old new refl more refl refl n pending held sound shown within

pub returns-clause-stay : goal.returns-clause-stay
returns-clause-stay g c = λ n pending held among sound.
    let stores = c.args.self.now in
    let old = part c.args.tenant stores in
    let new = part c.args.tenant (record stores { texts = c.hold_four.new.texts }) in
    let keys = c.args.keys in
    let t = texts.part c.args.tenant stores.texts in
    let known = outer_known c.wanted_again-resource.result c.wanted_again-resource_schema_url.result c.wanted_new-scope.result c.wanted_new-scope_schema_url.result keys t
    c.wanted_again-resource.ensures c.wanted_again-resource_schema_url.ensures (in_hand n pending held old sound (text_keys keys) among) in
    let more : AreHeld (text_keys c.in_ok-again.again) old.texts new.texts = c.in_ok-again.ensures.keys_held sound.kept known.0 known.1 (c.wanted_new-scope.ensures.known t) (c.wanted_new-scope_schema_url.ensures.known t) in
    held_stays (text_keys c.in_ok-again.again) old new refl more refl refl n pending held sound

pub returns-clause-others_unchanged : goal.returns-clause-others_unchanged
returns-clause-others_unchanged g c = λ other ne. part_by _ _ _ _ _ _ _ _ refl (c.in_ok-again.ensures.others_unchanged other ne) refl refl

pub returns-in_err-again-clause-others_unchanged : goal.returns-in_err-again-clause-others_unchanged
returns-in_err-again-clause-others_unchanged g c = λ other ne. part_by _ _ _ _ _ _ _ _ refl (c.in_err-again.ensures.others_unchanged other ne) refl refl

pub returns-in_err-again-clause-on_refusal : goal.returns-in_err-again-clause-on_refusal
returns-in_err-again-clause-on_refusal g c =
    let stores = c.args.self.now in
    let old = part c.args.tenant stores in
    let new = part c.args.tenant (record stores { texts = c.hold_four.new.texts }) in
    let keys = c.args.keys in
    let t = texts.part c.args.tenant stores.texts in
    let same : (n : Counts) (pending held : List ℕ) → AreAmong (text_keys keys) held → StoreInvariant n pending held old → new ≡ old = λ n pending held among sound.
    let known = outer_known c.wanted_again-resource.result c.wanted_again-resource_schema_url.result c.wanted_new-scope.result c.wanted_new-scope_schema_url.result keys t
    c.wanted_again-resource.ensures c.wanted_again-resource_schema_url.ensures (in_hand n pending held old sound (text_keys keys) among) in
    part_by _ _ _ _ _ _ _ _ refl (c.in_err-again.ensures.on_refusal sound.kept known.0 known.1 (c.wanted_new-scope.ensures.known t) (c.wanted_new-scope_schema_url.ensures.known t)) refl refl in
    on_err c.from_residual.result same
