-- Uses of several texts that are held, one list after the other.
use Rattle.std.proofs.Common.{◌≡◌, ℕ, ◌+◌, ◌-◌, ◌<◌, ◌≤◌, List, [], ◌∷◌, ◌++◌, refl, sym, ap, ◌∙◌, arith, append_assoc, Bool, true, false, Option, Some, None, eqb, cond, subst}
use Rattle.std.specs.Prelude.{IfSome, option_to_list, Result, Ok, Err, OnErr}
use Rattle.std.proofs.lemmas.Bool.Decides.{nat_tests}
use Rattle.span_pool.specs.Stored as keyed
use Rattle.span_pool.specs.declared.keys.TextKeys.{TextKeys}
use Rattle.text_pool.specs.Part.{with_text, released, held, text_of}
use Rattle.text_pool.specs.declared.pool.CountedText.{CountedText}
use Rattle.tenant_stores.specs.Part.{Part}
use Rattle.tenant_stores.specs.Counts.{Counts, count}
use Rattle.tenant_stores.specs.View.{text_at, text_keys, view}
use Rattle.tenant_stores.specs.Invariant.{uses_of, StoreInvariant}
use Rattle.tenant_stores.specs.Changes.{all_released}
use Rattle.tenant_stores.specs.Trail.{HoldsAll}
use Rattle.tenant_stores.specs.Shows.{AreAmong, Stay}
use Rattle.tenant_stores.specs.HeldTexts.{AreKept, AreHeld, IsKnown, wanted_text, again_of, origin_of}
use Rattle.tenant_stores.specs.declared.texts.TextRequest.{TextRequest}
use Rattle.tenant_stores.specs.declared.texts.TextRequest.TheVariants.{Nothing, New, Again}
use Rattle.tenant_stores.proofs.Parts.{part_by, span_here, span_restored, all_released-append, held_text}
use Rattle.tenant_stores.proofs.Lists.{count-append, count-self}
use Rattle.tenant_stores.proofs.Uses.{all-released, all-kept, one_held, held_kept}
use Rattle.tenant_stores.proofs.Stays.{held-stays}
use Rattle.tenant_stores.proofs.Shows.{texts_show}

-- what holds anyway holds where there is an error
pub on_err : {T E : Type 0} {P : Type 0} (r : Result T E) → P → OnErr r P
on_err (Ok value) p = tt
on_err (Err error) p = p

-- ---- one text

-- a use more and a use less
slot_back : (tenant : ℕ) (text : List ℕ) (o : Option CountedText) → IfSome o (λ kept. 0 < kept.uses) → released (held tenant text o) ≡ o
slot_back tenant text None kept = refl
slot_back tenant text (Some slot) kept = by_test (eqb (slot.uses + 1) 1) refl
  where
    by_test : (b : Bool) → eqb (slot.uses + 1) 1 ≡ b → cond b None (Some (record slot { uses = slot.uses + 1 - 1 })) ≡ Some slot
    by_test true e = let same : slot.uses + 1 ≡ 1 = grind (arith, nat_tests, e) in let some : 0 < slot.uses = kept in absurd (omega (arith, same, some))
    by_test false e = let same : slot.uses + 1 - 1 ≡ slot.uses = omega arith in ap (λ (u : ℕ). Some (record slot { uses = u })) same

pub one_is_held : (tenant key : ℕ) (text : List ℕ) (at : ℕ → Option CountedText) → AreKept at → AreHeld (key ∷ []) at (with_text key (held tenant text (at key)) at)
one_is_held tenant key text at kept = record {
  back =
      let slot = held tenant text (at key) in
      let there : with_text key slot at key ≡ slot = span_here key slot at in
      ap (λ (o : Option CountedText). with_text key (released o) (with_text key slot at)) there ∙ span_restored at key slot (released slot) (sym (slot_back tenant text (at key) (kept key)));
  uses = λ t. one_held tenant key text at t;
  kept = held_kept tenant key text at kept;
  stay = λ t some. held-stays tenant key text at t some;
}

pub none_is_held : (at : ℕ → Option CountedText) → AreKept at → AreHeld [] at at
none_is_held at kept = record { back = refl; uses = λ t. omega arith; kept = kept; stay = λ t some. refl }

-- ---- one after the other

pub more_held : (xs ys : List ℕ) (old middle new : ℕ → Option CountedText) → AreHeld ys old middle → AreHeld xs middle new → AreHeld (xs ++ ys) old new
more_held xs ys old middle new first later = record {
  back = all_released-append xs ys new ∙ (ap (all_released ys) later.back ∙ first.back);
  uses = λ t. omega (arith, first.uses t, later.uses t, count-append t xs ys);
  kept = later.kept;
  stay = λ t some. later.stay t (omega (arith, some, first.uses t)) ∙ first.stay t some;
}

-- what is wanted stays what it is
pub known_later : (w : TextRequest) (ks : List ℕ) (old new : ℕ → Option CountedText) → AreHeld ks old new → IsKnown w old → IsKnown w new × (wanted_text w new ≡ wanted_text w old)
known_later Nothing ks old new held known = (tt, refl)
known_later (New text) ks old new held known = (tt, refl)
known_later (Again key) ks old new held known = let some : 0 < uses_of (old key) = known in (omega (arith, some, held.uses key), held.stay key some)

-- a text at a key that was held stays
pub held_later : (key : Option ℕ) (xs ys : List ℕ) (old middle new : ℕ → Option CountedText) → AreHeld ys old middle → AreHeld xs middle new → ((t : ℕ) → count t (option_to_list key) ≤ count t ys) → keyed.text_at (text_at new) key ≡ keyed.text_at (text_at middle) key
held_later None xs ys old middle new first later among = refl
held_later (Some key) xs ys old middle new first later among = later.stay key (omega (arith, first.uses key, among key, count-self key []))

-- ---- a part whose texts are held

module _ {N : Type 0} (keys : List ℕ) (p q : Part N) (spans : q.spans ≡ p.spans) (texts' : AreHeld keys p.texts q.texts) (rows : q.rows ≡ p.rows) (latest_rows : q.latest_rows ≡ p.latest_rows) where
  pub holds_all : HoldsAll keys p q
  holds_all = record { spans = spans; texts = texts'.back; rows = rows; latest_rows = latest_rows }

  pub held_sound : (n : Counts) (pending held : List ℕ) → StoreInvariant n pending held p → StoreInvariant n pending (keys ++ held) q
  held_sound n pending held sound =
      subst (λ (x : Part N). StoreInvariant n pending (keys ++ held) x) (sym (part_by q.spans p.spans q.texts q.texts q.rows p.rows q.latest_rows p.latest_rows spans refl rows latest_rows)) (record {
        order = sound.order;
        named = sound.named;
        bare = sound.bare;
        used = λ t. omega (arith, sound.used t, texts'.uses t, count-append t keys held);
        kept = texts'.kept;
        latest_rows = sound.latest_rows;
        there = sound.there;
        vacant = sound.vacant;
        left = sound.left;
      })

  pub held_shows : (n : Counts) (pending held : List ℕ) → StoreInvariant n pending held p → (shown : List ℕ) → AreAmong shown pending → view n shown q ≡ view n shown p
  held_shows n pending held sound shown among = texts_show p q n pending shown sound.order spans rows (λ t named. texts'.stay t (omega (arith, named, sound.used t))) among

  pub held_stays : (n : Counts) (pending held : List ℕ) → StoreInvariant n pending held p → Stay held p.texts q.texts
  held_stays n pending held sound t some = texts'.stay t (omega (arith, some, sound.used t))

-- several uses are given back
pub released_sound : {N : Type 0} (gone : List ℕ) (p q : Part N) → q.spans ≡ p.spans → q.texts ≡ all_released gone p.texts → q.rows ≡ p.rows → q.latest_rows ≡ p.latest_rows → (n : Counts) (pending held : List ℕ) → StoreInvariant n pending (gone ++ held) p → StoreInvariant n pending held q
released_sound {N} gone p q spans texts' rows latest_rows n pending held sound =
    subst (λ (x : Part N). StoreInvariant n pending held x) (sym (part_by q.spans p.spans q.texts (all_released gone p.texts) q.rows p.rows q.latest_rows p.latest_rows spans texts' rows latest_rows)) (record {
      order = sound.order;
      named = sound.named;
      bare = sound.bare;
      used = λ t. omega (arith, sound.used t, all-released gone p.texts t, count-append t gone held);
      kept = all-kept gone p.texts sound.kept;
      latest_rows = sound.latest_rows;
      there = sound.there;
      vacant = sound.vacant;
      left = sound.left;
    })

-- ---- four keys

-- keys that are held are known
pub again_known : (key : Option ℕ) (texts : ℕ → Option CountedText) → ((t : ℕ) → 0 < count t (option_to_list key) → 0 < uses_of (texts t)) → IsKnown (again_of key) texts
again_known None texts there = tt
again_known (Some key) texts there = there key (omega (arith, count-self key []))

pub again_text : (key : Option ℕ) (texts : ℕ → Option CountedText) → wanted_text (again_of key) texts ≡ keyed.text_at (text_at texts) key
again_text None texts = refl
again_text (Some key) texts = refl

-- each of the four is among all
pub four_parts : (keys : TextKeys) (t : ℕ) → count t (text_keys keys) ≡ count t (option_to_list keys.resource) + (count t (option_to_list keys.resource_schema_url) + (count t (option_to_list keys.scope) + count t (option_to_list keys.scope_schema_url)))
four_parts keys t =
    let a = option_to_list keys.resource in
    let b = option_to_list keys.resource_schema_url in
    let c = option_to_list keys.scope in
    let d = option_to_list keys.scope_schema_url in
    omega (arith, count-append t a (b ++ (c ++ d)), count-append t b (c ++ d), count-append t c d)

-- ---- a text that is known by its key

text_of_known : (text : List ℕ) (o : Option CountedText) → IfSome o (λ kept. Some kept.text ≡ Some text) → IfSome o (λ kept. kept.text ≡ text)
text_of_known text None same = tt
text_of_known text (Some kept) same = cc

pub again_is_held : (tenant key again : ℕ) (at new : ℕ → Option CountedText) → AreKept at → 0 < uses_of (at key) → IfSome (at key) (λ kept. new ≡ with_text again (held tenant kept.text (at again)) at)
    → IfSome (at again) (λ kept. Some kept.text ≡ text_of (at key)) → AreHeld (again ∷ []) at new × (text_at new again ≡ text_at at key)
again_is_held tenant key again at new kept known own same = by_slot (at key) known own same
  where
    by_slot : (o : Option CountedText) → 0 < uses_of o → IfSome o (λ kept. new ≡ with_text again (held tenant kept.text (at again)) at) → IfSome (at again) (λ kept. Some kept.text ≡ text_of o) → AreHeld (again ∷ []) at new × (text_at new again ≡ text_of o)
    by_slot None known own same = absurd (omega (arith, known))
    by_slot (Some slot) known own same = (
      subst (λ (f : ℕ → Option CountedText). AreHeld (again ∷ []) at f) (sym own) (one_is_held tenant again slot.text at kept),
      ap (λ (f : ℕ → Option CountedText). text_at f again) own ∙ held_text tenant again slot.text at (text_of_known slot.text (at again) same),
    )

-- a text that comes with its bytes
pub new_is_held : (tenant key : ℕ) (text : List ℕ) (at new : ℕ → Option CountedText) → AreKept at → new ≡ with_text key (held tenant text (at key)) at
    → IfSome (at key) (λ kept. kept.text ≡ text) → AreHeld (key ∷ []) at new × (text_at new key ≡ Some text)
new_is_held tenant key text at new kept own same = (
  subst (λ (f : ℕ → Option CountedText). AreHeld (key ∷ []) at f) (sym own) (one_is_held tenant key text at kept),
  ap (λ (f : ℕ → Option CountedText). text_at f key) own ∙ held_text tenant key text at same,
)

-- ---- two lists of keys

-- of two that are wanted, one after the other
pub two_held : (w v : TextRequest) (key last : Option ℕ) (old middle new : ℕ → Option CountedText) → AreHeld (option_to_list last) old middle → (AreKept middle → IsKnown w middle → AreHeld (option_to_list key) middle new)
    → IsKnown w old → AreHeld (option_to_list key ++ option_to_list last) old new
two_held w v key last old middle new first later known =
    more_held (option_to_list key) (option_to_list last) old middle new first (later first.kept (known_later w (option_to_list last) old middle first known).0)

pub two_first : (w : TextRequest) (key last : Option ℕ) (old middle new : ℕ → Option CountedText) → AreHeld (option_to_list last) old middle
    → (AreKept middle → IsKnown w middle → keyed.text_at (text_at new) key ≡ wanted_text w middle) → IsKnown w old → keyed.text_at (text_at new) key ≡ wanted_text w old
two_first w key last old middle new first later known =
    let on = known_later w (option_to_list last) old middle first known in
    later first.kept on.0 ∙ on.1

pub two_last : (w v : TextRequest) (key last : Option ℕ) (old middle new : ℕ → Option CountedText) → AreHeld (option_to_list last) old middle → keyed.text_at (text_at middle) last ≡ wanted_text v old
    → (AreKept middle → IsKnown w middle → AreHeld (option_to_list key) middle new) → IsKnown w old → keyed.text_at (text_at new) last ≡ wanted_text v old
two_last w v key last old middle new first text later known =
    held_later last (option_to_list key) (option_to_list last) old middle new first (later first.kept (known_later w (option_to_list last) old middle first known).0) (λ t. omega arith) ∙ text

-- ---- four of them

module _ (a b c d : TextRequest) (keys : TextKeys) (old middle new : ℕ → Option CountedText) where
  abbrev upper : List ℕ
  upper = option_to_list keys.resource ++ option_to_list keys.resource_schema_url

  abbrev lower : List ℕ
  lower = option_to_list keys.scope ++ option_to_list keys.scope_schema_url

  four_keys : upper ++ lower ≡ text_keys keys
  four_keys = append_assoc (option_to_list keys.resource) (option_to_list keys.resource_schema_url) lower

  module _ (first : AreHeld lower old middle) (later : AreKept middle → IsKnown a middle → IsKnown b middle → AreHeld upper middle new) (known_a : IsKnown a old) (known_b : IsKnown b old) where
    on_a : IsKnown a middle × (wanted_text a middle ≡ wanted_text a old)
    on_a = known_later a lower old middle first known_a

    on_b : IsKnown b middle × (wanted_text b middle ≡ wanted_text b old)
    on_b = known_later b lower old middle first known_b

    last_held : AreHeld upper middle new
    last_held = later first.kept on_a.0 on_b.0

    pub four_held : AreHeld (text_keys keys) old new
    four_held = subst (λ (ks : List ℕ). AreHeld ks old new) four_keys (more_held upper lower old middle new first last_held)

    pub four_origin : (AreKept middle → IsKnown a middle → IsKnown b middle → keyed.text_at (text_at new) keys.resource ≡ wanted_text a middle)
        → (AreKept middle → IsKnown a middle → IsKnown b middle → keyed.text_at (text_at new) keys.resource_schema_url ≡ wanted_text b middle)
        → keyed.text_at (text_at middle) keys.scope ≡ wanted_text c old → keyed.text_at (text_at middle) keys.scope_schema_url ≡ wanted_text d old
        → keyed.origin_at (text_at new) keys ≡ origin_of (wanted_text a old) (wanted_text b old) (wanted_text c old) (wanted_text d old)
    four_origin is_a is_b is_c is_d =
        let one : keyed.text_at (text_at new) keys.resource ≡ wanted_text a old = is_a first.kept on_a.0 on_b.0 ∙ on_a.1 in
        let two : keyed.text_at (text_at new) keys.resource_schema_url ≡ wanted_text b old = is_b first.kept on_a.0 on_b.0 ∙ on_b.1 in
        let three : keyed.text_at (text_at new) keys.scope ≡ wanted_text c old =
        held_later keys.scope upper lower old middle new first last_held (λ t. omega (arith, count-append t (option_to_list keys.scope) (option_to_list keys.scope_schema_url))) ∙ is_c in
        let four : keyed.text_at (text_at new) keys.scope_schema_url ≡ wanted_text d old =
        held_later keys.scope_schema_url upper lower old middle new first last_held (λ t. omega (arith, count-append t (option_to_list keys.scope) (option_to_list keys.scope_schema_url))) ∙ is_d in
        cc (one, two, three, four)

-- and where the first two of them are refused, the last two are given back
pub four_refused : (b : TextRequest) (s u : Option ℕ) (old middle refused' one new : ℕ → Option CountedText) → AreHeld (option_to_list s ++ option_to_list u) old middle → (AreKept middle → IsKnown b middle → refused' ≡ middle) → IsKnown b old
    → one ≡ all_released (option_to_list s) refused' → new ≡ all_released (option_to_list u) one → new ≡ old
four_refused b s u old middle refused' one new first later known first_back last_back =
    let same : refused' ≡ middle = later first.kept (known_later b (option_to_list s ++ option_to_list u) old middle first known).0 in
    last_back ∙ (ap (all_released (option_to_list u)) (first_back ∙ ap (all_released (option_to_list s)) same) ∙ (sym (all_released-append (option_to_list s) (option_to_list u) middle) ∙ first.back))

-- ---- keys that are in hand

pub in_hand : {N : Type 0} (n : Counts) (pending held : List ℕ) (p : Part N) → StoreInvariant n pending held p → (keys : List ℕ) → AreAmong keys held → (t : ℕ) → 0 < count t keys → 0 < uses_of (p.texts t)
in_hand n pending held p sound keys among t some = omega (arith, sound.used t, some, among t)

known_by : (w : TextRequest) (key : Option ℕ) (texts : ℕ → Option CountedText) → w ≡ again_of key → ((t : ℕ) → 0 < count t (option_to_list key) → 0 < uses_of (texts t)) → IsKnown w texts
known_by w key texts is there = subst (λ (v : TextRequest). IsKnown v texts) (sym is) (again_known key texts there)

text_by : (w : TextRequest) (key : Option ℕ) (texts : ℕ → Option CountedText) → w ≡ again_of key → wanted_text w texts ≡ keyed.text_at (text_at texts) key
text_by w key texts is = ap (λ (v : TextRequest). wanted_text v texts) is ∙ again_text key texts

module _ (a b c d : TextRequest) (keys : TextKeys) (texts : ℕ → Option CountedText) (is_a : a ≡ again_of keys.resource) (is_b : b ≡ again_of keys.resource_schema_url) (is_c : c ≡ again_of keys.scope) (is_d : d ≡ again_of keys.scope_schema_url) where
  pub origin_again : origin_of (wanted_text a texts) (wanted_text b texts) (wanted_text c texts) (wanted_text d texts) ≡ keyed.origin_at (text_at texts) keys
  origin_again = cc (text_by a keys.resource texts is_a, text_by b keys.resource_schema_url texts is_b, text_by c keys.scope texts is_c, text_by d keys.scope_schema_url texts is_d)

  pub all_known : ((t : ℕ) → 0 < count t (text_keys keys) → 0 < uses_of (texts t)) → IsKnown a texts × IsKnown b texts × IsKnown c texts × IsKnown d texts
  all_known there = (
    known_by a keys.resource texts is_a (λ t some. there t (omega (arith, some, four_parts keys t))),
    known_by b keys.resource_schema_url texts is_b (λ t some. there t (omega (arith, some, four_parts keys t))),
    known_by c keys.scope texts is_c (λ t some. there t (omega (arith, some, four_parts keys t))),
    known_by d keys.scope_schema_url texts is_d (λ t some. there t (omega (arith, some, four_parts keys t))),
  )

-- the first two are so, and the last two come with their bytes
module _ (a b c d : TextRequest) (keys : TextKeys) (texts : ℕ → Option CountedText) (is_a : a ≡ again_of keys.resource) (is_b : b ≡ again_of keys.resource_schema_url) where
  pub origin_scoped : (scope scope_schema_url : Option (List ℕ)) → wanted_text c texts ≡ scope → wanted_text d texts ≡ scope_schema_url
      → origin_of (wanted_text a texts) (wanted_text b texts) (wanted_text c texts) (wanted_text d texts)
      ≡ origin_of (keyed.text_at (text_at texts) keys.resource) (keyed.text_at (text_at texts) keys.resource_schema_url) scope scope_schema_url
  origin_scoped scope scope_schema_url is_c is_d = cc (text_by a keys.resource texts is_a, text_by b keys.resource_schema_url texts is_b, is_c, is_d)

  pub outer_known : ((t : ℕ) → 0 < count t (text_keys keys) → 0 < uses_of (texts t)) → IsKnown a texts × IsKnown b texts
  outer_known there = (
    known_by a keys.resource texts is_a (λ t some. there t (omega (arith, some, four_parts keys t))),
    known_by b keys.resource_schema_url texts is_b (λ t some. there t (omega (arith, some, four_parts keys t))),
  )
