-- Texts of origins that are held for the spans of a body.
use Rattle.std.proofs.Common.{◌≡◌, ℕ, zero, suc, ◌<◌, ◌-◌, List, [], ◌∷◌, ◌++◌, length, get_or, refl, sym, ap, subst, ◌∙◌, arith, append_assoc, append-nil, Option, Some, None}
use Rattle.std.proofs.lemmas.List.{length-map, map-append}
use Rattle.std.specs.Prelude.{option_to_list}
use Rattle.span_pool.specs.Stored.{Origin, OwnedKeys, bytes_of, origin_at}
use Rattle.span_pool.specs.Stored as keyed
use Rattle.span_pool.specs.declared.keys.TextKeys.{TextKeys}
use Rattle.tail_policy.specs.declared.note.TraceNote.{TraceNote}
use Rattle.tenant_stores.specs.Changes.{all_released, ReleasesAll}
use Rattle.tenant_stores.specs.Counts.{Counts, count}
use Rattle.tenant_stores.specs.Part.{Part}
use Rattle.tenant_stores.specs.Shows.{AreAmong}
use Rattle.tenant_stores.specs.Invariant.{StoreInvariant}
use Rattle.tenant_stores.specs.Trail.{HoldsAll}
use Rattle.tenant_stores.specs.View.{text_keys, view}
use Rattle.tenant_stores.proofs.Held.{four_parts}
use Rattle.tenant_stores.proofs.Lists.{count-append, count-self}
use Rattle.tenant_stores.proofs.Parts.{all_released-append, part_by}
use Rattle.prepared_body.specs.Arrivals as prepared
use Rattle.prepared_body.specs.Origin.{OriginTexts}
use Rattle.tenant_stores.specs.HeldTexts.{origin_in}
use Rattle.tenant_pipeline.specs.declared.post.HeldOrigins.{HeldOrigins}
use Rattle.tenant_pipeline.specs.Posts.{all_keys, all_text_keys, held_keys, keys_at, keys_if, place_of, AreHeldAt, IsLike, IsPlaceLike}

-- ---- keys

pub keys-push : (all : List TextKeys) (keys : TextKeys) → all_text_keys (all ++ keys ∷ []) ≡ text_keys keys ++ all_text_keys all
keys-push [] keys = sym (append-nil (text_keys keys))
keys-push (k ∷ all) keys =
    ap (λ (ks : List ℕ). ks ++ text_keys k) (keys-push all keys) ∙ append_assoc (text_keys keys) (all_text_keys all) (text_keys k)

-- those of one origin more
pub keys_pushed : (all : List OwnedKeys) (one : OwnedKeys) (all' : List OwnedKeys) → all' ≡ all ++ one ∷ [] → all_keys all' ≡ all_keys all ++ one.keys ∷ []
keys_pushed all one all' is = ap all_keys is ∙ map-append (λ (k : OwnedKeys). k.keys) all (one ∷ [])

-- and at an index
pub keys_index : (all : List OwnedKeys) (index : ℕ) (d : OwnedKeys) → index < length all → keys_at (all_keys all) index ≡ (get_or all index d).keys
keys_index [] index d within = absurd (omega arith)
keys_index (one ∷ all) zero d within = refl
keys_index (one ∷ all) (suc index) d within = keys_index all index d (omega (arith, within))

-- with others behind them
pub keys-push_held : (all : List TextKeys) (keys : TextKeys) (held : List ℕ) → all_text_keys (all ++ keys ∷ []) ++ held ≡ text_keys keys ++ (all_text_keys all ++ held)
keys-push_held all keys held = ap (λ (ks : List ℕ). ks ++ held) (keys-push all keys) ∙ append_assoc (text_keys keys) (all_text_keys all) held

-- an origin's keys are among those of all
pub among_at : (all : List TextKeys) (index : ℕ) → index < length all → AreAmong (text_keys (keys_at all index)) (all_text_keys all)
among_at [] index within = absurd (omega arith)
among_at (keys ∷ all) zero within = λ key. let both = count-append key (all_text_keys all) (text_keys keys) in omega (arith, both)
among_at (keys ∷ all) (suc index) within = λ key.
    let both = count-append key (all_text_keys all) (text_keys keys) in
    let rest = among_at all index (omega (arith, within)) key in
    omega (arith, both, rest)

-- ---- texts that stay

one_stays : (f g : ℕ → Option (List ℕ)) (key : Option ℕ) → ((t : ℕ) → 0 < count t (option_to_list key) → g t ≡ f t) → keyed.text_at g key ≡ keyed.text_at f key
one_stays f g None same = refl
one_stays f g (Some key) same = same key (let self = count-self key [] in omega (arith, self))

pub origin_stays : (f g : ℕ → Option (List ℕ)) (keys : TextKeys) → ((t : ℕ) → 0 < count t (text_keys keys) → g t ≡ f t) → origin_at g keys ≡ origin_at f keys
origin_stays f g keys same =
    let resource = one_stays f g keys.resource (λ t some. same t (let e = four_parts keys t in omega (arith, e, some))) in
    let resource_url = one_stays f g keys.resource_schema_url (λ t some. same t (let e = four_parts keys t in omega (arith, e, some))) in
    let scope = one_stays f g keys.scope (λ t some. same t (let e = four_parts keys t in omega (arith, e, some))) in
    let scope_url = one_stays f g keys.scope_schema_url (λ t some. same t (let e = four_parts keys t in omega (arith, e, some))) in
    λ i. record { resource = resource i; resource_schema_url = bytes_of (resource_url i); scope = scope i; scope_schema_url = bytes_of (scope_url i) }

-- ---- and given back, the last first

-- what these keys' texts were held for holds of the rest of them
pub record AreLeft (all left : List TextKeys) (old p : Part TraceNote) : Type 0 where
  pub own : (start : Part TraceNote) → HoldsAll (all_text_keys all) start old → HoldsAll (all_text_keys left) start p
  pub sound : (n : Counts) (pending held : List ℕ) → StoreInvariant n pending (all_text_keys all ++ held) old → StoreInvariant n pending (all_text_keys left ++ held) p
  pub shows : (n : Counts) (pending held shown : List ℕ) → StoreInvariant n pending (all_text_keys all ++ held) old → AreAmong shown pending → view n shown p ≡ view n shown old

pub all_left : (all : List TextKeys) (p : Part TraceNote) → AreLeft all all p p
all_left all p = record { own = λ start holds. holds; sound = λ n pending held sound. sound; shows = λ n pending held shown sound among. refl }

pub one_less_held : (all left front : List TextKeys) (keys : TextKeys) (old p q : Part TraceNote) → left ≡ front ++ keys ∷ [] → AreLeft all left old p →
    ReleasesAll (text_keys keys) p q →
    ((n : Counts) (pending held : List ℕ) → StoreInvariant n pending (text_keys keys ++ held) p → StoreInvariant n pending held q) →
    ((n : Counts) (pending held shown : List ℕ) → StoreInvariant n pending (text_keys keys ++ held) p → AreAmong shown pending → view n shown q ≡ view n shown p) →
    AreLeft all front old q
one_less_held all left front keys old p q popped was own is_sound shows =
    let split : (held : List ℕ) → all_text_keys left ++ held ≡ text_keys keys ++ (all_text_keys front ++ held) = λ held.
    ap (λ (ks : List TextKeys). all_text_keys ks ++ held) popped ∙ keys-push_held front keys held in
    let reached : (n : Counts) (pending held : List ℕ) → StoreInvariant n pending (all_text_keys all ++ held) old → StoreInvariant n pending (text_keys keys ++ (all_text_keys front ++ held)) p = λ n pending held sound.
    subst (λ (ks : List ℕ). StoreInvariant n pending ks p) (split held) (was.sound n pending held sound) in
    record {
      own = λ start holds.
          let before : HoldsAll (all_text_keys left) start p = was.own start holds in
          let keys_are : all_text_keys left ≡ text_keys keys ++ all_text_keys front = ap all_text_keys popped ∙ keys-push front keys in
          record {
            spans = own.spans ∙ before.spans;
            texts = ap (all_released (all_text_keys front)) own.texts
                ∙ (sym (all_released-append (text_keys keys) (all_text_keys front) p.texts)
                ∙ (ap (λ (ks : List ℕ). all_released ks p.texts) (sym keys_are) ∙ before.texts));
            rows = own.rows ∙ before.rows;
            latest_rows = own.latest_rows ∙ before.latest_rows;
          };
      sound = λ n pending held sound. is_sound n pending (all_text_keys front ++ held) (reached n pending held sound);
      shows = λ n pending held shown sound among. shows n pending (all_text_keys front ++ held) shown (reached n pending held sound) among ∙ was.shows n pending held shown sound among;
    }

-- nothing is held any more
pub given_back : (p start : Part TraceNote) → HoldsAll [] start p → p ≡ start
given_back p start holds =
    part_by p.spans start.spans p.texts start.texts p.rows start.rows p.latest_rows start.latest_rows holds.spans holds.texts holds.rows holds.latest_rows

-- ---- keys of texts that have the same resource

-- keys that are among some are among more
pub among_more : (keys xs ys : List ℕ) → AreAmong keys xs → AreAmong keys (xs ++ ys)
among_more keys xs ys among = λ key. let both = count-append key xs ys in let few = among key in omega (arith, both, few)

pub among_taken : (like : Option TextKeys) (keys : TextKeys) (held : List ℕ) → like ≡ Some keys → AreAmong (keys_if like) held → AreAmong (text_keys keys) held
among_taken like keys held is among = subst (λ (l : Option TextKeys). AreAmong (keys_if l) held) is among

pub resource_like : (like : Option TextKeys) (keys : TextKeys) (origin : OriginTexts) (p : Part TraceNote) → like ≡ Some keys → IsLike like origin p
    → prepared.HasSameResource (origin_in p keys) (prepared.origin_view origin)
resource_like like keys origin p is same = subst (λ (l : Option TextKeys). IsLike l origin p) is same

-- those of an origin that is held, and of the same resource spans
module _ (origins : List OriginTexts) (held : HeldOrigins) (first place : ℕ) (read : OwnedKeys) (keys : TextKeys) (at : IsPlaceLike origins held first place)
    (read_is : read ≡ get_or held.keys.items place read) (keys_are : keys ≡ read.keys)
  where
    keys_there : keys_at (all_keys held.keys.items) place ≡ keys
    keys_there = keys_index held.keys.items place read at.there ∙ (ap (λ (k : OwnedKeys). k.keys) (sym read_is) ∙ sym keys_are)

    pub like_among : AreAmong (text_keys keys) (held_keys held)
    like_among =
        let size = length-map held.keys.items (λ (k : OwnedKeys). k.keys) in
        let less = at.there in
        subst (λ (ks : TextKeys). AreAmong (text_keys ks) (held_keys held)) keys_there (among_at (all_keys held.keys.items) place (omega (arith, size, less)))

    pub like_resource : (index : ℕ) → first ≡ prepared.first_at origins index → prepared.IsGrouped origins index → (p : Part TraceNote) → AreHeldAt origins held p
        → prepared.HasSameResource (origin_in p keys) (prepared.origin_at origins index)
    like_resource index same grouped p was =
        let there : origin_in p (keys_at (all_keys held.keys.items) (place_of held at.index - 1)) ≡ prepared.origin_at origins at.index = was.texts at.index at.held_is in
        let keys_same : keys_at (all_keys held.keys.items) (place_of held at.index - 1) ≡ keys =
        ap (λ (k : ℕ). keys_at (all_keys held.keys.items) k) (sym at.place_is) ∙ keys_there in
        let text : prepared.origin_at origins at.index ≡ origin_in p keys = sym there ∙ ap (λ (ks : TextKeys). origin_in p ks) keys_same in
        subst (λ (o : Origin). prepared.HasSameResource o (prepared.origin_at origins index)) text (grouped at.index at.within (at.same ∙ same))
