use Rattle.std.proofs.Common.{arith, ◌≡◌, ◌+◌, ◌∙◌, ◌++◌, ℕ, List, [], ◌∷◌, length, ap, set, subst, sym}
use Rattle.std.proofs.lemmas.List.{get_or_read}
use Rattle.std.specs.Prelude.{IfSome}
use Rattle.span_pool.specs.Stored.{Origin, OwnedKeys, origin_at}
use Rattle.std.specs.Vec.{with_item}
use Rattle.tenant_stores.specs.HeldTexts.{origin_in}
use Rattle.tenant_stores.specs.Promises.{WhereHeld}
use Rattle.tenant_stores.specs.Part.{part}
use Rattle.tenant_stores.specs.Shows.{AreAmong}
use Rattle.tenant_stores.specs.View.{text_at}
use Rattle.tenant_stores.proofs.Lists.{count-append}
use Rattle.prepared_body.specs.Arrivals.{no_origin, origin_view}
use Rattle.prepared_body.specs.Arrivals as prepared
use Rattle.tenant_pipeline.specs.declared.post.HeldOrigins.{HeldOrigins}
use Rattle.tenant_pipeline.specs.Posts.{all_keys, held_keys, keys_at, keys_if}
use Rattle.tenant_pipeline.proofs.Holds.{held_there, holds_more, more_sound, not_held, origin_here, place_here, place_read, still_held}
use Rattle.tenant_pipeline.proofs.Origins.{among_more}
use Rattle.tenant_pipeline.proofs.Posting.{on_err}
use Rattle.tenant_pipeline.proofs.post.HeldOrigins.hold.Goals as goal

pub returns-then-place-gt0-clause-origin : goal.returns-then-place-gt0-clause-origin
returns-then-place-gt0-clause-origin c = λ n pending held sound.
    let own : HeldOrigins = c.args.self.now in
    let was = c.requires.origins in
    let many = was.many in
    let within = c.requires.within in
    let place : ℕ = c.index-place.result.now in
    let is = place_read own c.args.index place (omega (arith, many, within)) c.index-place.ensures in
    held_there c.args.origins.now own c.args.index place (part c.args.tenant c.args.stores.now) was is c.if-place-gt0.true

pub returns-then-place-gt0-clause-noted : goal.returns-then-place-gt0-clause-noted
returns-then-place-gt0-clause-noted c =
    let many = c.requires.origins.many in
    let within = c.requires.within in
    let place : ℕ = c.index-place.result.now in
    let is = place_read c.args.self.now c.args.index place (omega (arith, many, within)) c.index-place.ensures in
    let some = c.if-place-gt0.true in
    omega (arith, is, some)

pub returns-in_err-reserve-clause-again : goal.returns-in_err-reserve-clause-again
returns-in_err-reserve-clause-again c =
    not_held c.args.origins.now c.args.self.now c.args.index c.index-place.result.now (part c.args.tenant c.args.stores.now) c.requires.origins c.requires.within c.index-place.ensures c.if-place-gt0.false

pub returns-in_err-keys-clause-again : goal.returns-in_err-keys-clause-again
returns-in_err-keys-clause-again c =
    not_held c.args.origins.now c.args.self.now c.args.index c.index-place.result.now (part c.args.tenant c.args.stores.now) c.requires.origins c.requires.within c.index-place.ensures c.if-place-gt0.false

-- ---- where another one is held with its resource

pub hold_origin-requires : goal.hold_origin-requires
hold_origin-requires c =
    let p = part c.args.tenant c.args.stores.now in
    let here : origin_view c.index-origins-index.result ≡ prepared.origin_at c.args.origins.now c.args.index =
    ap origin_view (get_or_read c.args.origins.now c.args.index c.index-origins-index.result c.requires.within c.index-origins-index.is no_origin) in
    record {
      like = subst (λ (o : Origin). IfSome c.keys_like-like.result (λ keys. prepared.HasSameResource (origin_in p keys) o)) (sym here) (c.keys_like-like.ensures.like p c.requires.origins);
    }

pub returns-in_err-keys-clause-part_on_refusal : goal.returns-in_err-keys-clause-part_on_refusal
returns-in_err-keys-clause-part_on_refusal c = on_err c.from_residual-in_err-keys.result (λ n pending held sound.
    let old = held_keys c.args.self.now in
    c.in_err-keys.ensures.on_refusal n pending (old ++ held) (among_more (keys_if c.keys_like-like.result) old held c.keys_like-like.ensures.among) sound)

-- ---- where it is held since

-- what is held then
abbrev now : goal.After-self-2-1 → HeldOrigins
now c = record { places = with_item c.args.self.now.places c.args.index (c.len-count.result + 1); keys = c.push_reserved.new.self; last = c.args.index }

keys_are : (c : goal.After-self-2-1) → c.push_reserved.new.self.items ≡ c.args.self.now.keys.items ++ c.in_ok-keys.keys ∷ []
keys_are c = c.push_reserved.ensures.items ∙ ap (λ (ks : List OwnedKeys). ks ++ c.in_ok-keys.keys ∷ []) c.reserve.ensures.items

count_is : (c : goal.After-self-2-1) → c.len-count.result ≡ length c.args.self.now.keys.items
count_is c =
    let count = c.len-count.ensures in
    let same = c.reserve.ensures.len in
    let size = c.args.self.now.keys.ok.0 in
    omega (arith, count, same, size)

places_are : (c : goal.After-self-2-1) → (now c).places.items ≡ set c.args.self.now.places.items c.args.index (length c.args.self.now.keys.items + 1)
places_are c = ap (λ (k : ℕ). set c.args.self.now.places.items c.args.index (k + 1)) (count_is c)

-- keys of texts with its resource are in hand
among_now : (c : goal.After-self-2-1) (held : List ℕ) → AreAmong (keys_if c.keys_like-like.result) (held_keys c.args.self.now ++ held)
among_now c held = among_more (keys_if c.keys_like-like.result) (held_keys c.args.self.now) held c.keys_like-like.ensures.among

-- the texts at its keys are its own
text_there : (c : goal.After-self-2-1) → WhereHeld (held_keys c.args.self.now) (part c.args.tenant c.args.stores.now)
    (λ n pending held. origin_at (text_at (part c.args.tenant c.hold_origin.new.stores).texts) c.in_ok-keys.keys.keys ≡ prepared.origin_at c.args.origins.now c.args.index)
text_there c = λ n pending held sound.
    c.in_ok-keys.ensures.origin n pending (held_keys c.args.self.now ++ held) (among_now c held) sound
    ∙ ap origin_view (get_or_read c.args.origins.now c.args.index c.index-origins-index.result c.requires.within c.index-origins-index.is no_origin)

pub returns-clause-origin : goal.returns-clause-origin
returns-clause-origin c = λ n pending held sound.
    let q = part c.args.tenant c.hold_origin.new.stores in
    ap (λ (k : ℕ). origin_in q (keys_at (all_keys c.push_reserved.new.self.items) k)) (count_is c)
    ∙ origin_here c.args.origins.now c.args.self.now (now c) c.args.index c.in_ok-keys.keys (part c.args.tenant c.args.stores.now) q
    (keys_are c) (places_are c) c.requires.origins c.requires.within (text_there c n pending held sound)

pub returns-clause-origins : goal.returns-clause-origins
returns-clause-origins c = λ n pending held sound.
    let old = held_keys c.args.self.now in
    let stay = c.in_ok-keys.ensures.stay n pending (old ++ held) (among_now c held) sound in
    still_held c.args.origins.now c.args.self.now (now c) c.args.index c.in_ok-keys.keys (part c.args.tenant c.args.stores.now) (part c.args.tenant c.hold_origin.new.stores)
    (keys_are c) (places_are c) c.requires.origins c.requires.within (text_there c n pending held sound)
    (λ key some. stay key (let both = count-append key old held in omega (arith, both, some)))

pub returns-clause-uses_added : goal.returns-clause-uses_added
returns-clause-uses_added c = λ n pending held sound.
    holds_more c.args.origins.now c.args.self.now (now c) c.args.index c.in_ok-keys.keys (part c.args.tenant c.args.stores.now) (part c.args.tenant c.hold_origin.new.stores)
    (keys_are c) (places_are c) c.requires.origins c.requires.within
    (c.in_ok-keys.ensures.uses_added n pending (held_keys c.args.self.now ++ held) (among_now c held) sound)

pub returns-clause-store_invariant : goal.returns-clause-store_invariant
returns-clause-store_invariant c = λ n pending held sound.
    more_sound c.args.origins.now c.args.self.now (now c) c.args.index c.in_ok-keys.keys (part c.args.tenant c.args.stores.now) (part c.args.tenant c.hold_origin.new.stores)
    (keys_are c) (places_are c) c.requires.origins c.requires.within n pending held
    (c.in_ok-keys.ensures.store_invariant n pending (held_keys c.args.self.now ++ held) (among_now c held) sound)

pub returns-clause-noted : goal.returns-clause-noted
returns-clause-noted c =
    let here = place_here c.args.origins.now c.args.self.now (now c) c.args.index c.in_ok-keys.keys (part c.args.tenant c.args.stores.now) (part c.args.tenant c.hold_origin.new.stores)
    (keys_are c) (places_are c) c.requires.origins c.requires.within in
    let count = count_is c in
    omega (arith, here, count)

pub returns-clause-again : goal.returns-clause-again
returns-clause-again c =
    not_held c.args.origins.now c.args.self.now c.args.index c.index-place.result.now (part c.args.tenant c.args.stores.now) c.requires.origins c.requires.within c.index-place.ensures c.if-place-gt0.false

pub returns-clause-shows : goal.returns-clause-shows
returns-clause-shows c = λ n pending held shown sound within.
    c.in_ok-keys.ensures.shows n pending (held_keys c.args.self.now ++ held) shown (among_now c held) sound within
