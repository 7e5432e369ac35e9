-- Texts of an origin that are held before the first of its spans is taken.
use Rattle.std.proofs.Common.{◌≡◌, ◌≢◌, ◌<◌, ◌≤◌, ◌+◌, ◌-◌, ◌++◌, ◌∙◌, ℕ, zero, suc, List, [], ◌∷◌, length, get_or, set, replicate, refl, sym, ap, subst, arith, append-nil, Bool, true, false, cond, eqb, None}
use Rattle.std.proofs.lemmas.Bool.Decides.{nat_tests}
use Rattle.std.proofs.lemmas.List.{get_or_append_left, get_or_read, get_or-set_other, get_or-set_same, length-append, length-map, length-replicate, length-set}
use Rattle.std.proofs.Math.Seq.{get_or-append_seam}
use Rattle.span_pool.specs.Stored.{Origin as OriginData, OwnedKeys, origin_at}
use Rattle.span_pool.specs.declared.keys.TextKeys.{TextKeys}
use Rattle.tail_policy.specs.declared.note.TraceNote.{TraceNote}
use Rattle.tail_policy.specs.Note.{note_of}
use Rattle.tenant_stores.specs.Changes.{all_released}
use Rattle.tenant_stores.specs.Counts.{Counts, count}
use Rattle.tenant_stores.specs.HeldTexts.{origin_in}
use Rattle.tenant_stores.specs.Part.{Part}
use Rattle.tenant_stores.specs.Invariant.{StoreInvariant}
use Rattle.tenant_stores.specs.Promises.{ShowsSameHeld, WhereHeld}
use Rattle.tenant_stores.specs.Shows.{AreAmong}
use Rattle.tenant_stores.specs.Trail.{HoldsAll}
use Rattle.tenant_stores.specs.View.{text_at, text_keys}
use Rattle.tenant_stores.proofs.Lists.{count-append}
use Rattle.tenant_stores.proofs.Parts.{all_released-append}
use Rattle.tenant_rules.specs.Arrivals.{Arrival, trace_of}
use Rattle.tenant_rules.specs.State.{State}
use Rattle.tenant_rules.specs.Machine.{come, counted_in, goes}
use Rattle.prepared_body.specs.Arrivals as prepared
use Rattle.prepared_body.specs.Origin.{OriginTexts}
use Rattle.prepared_body.specs.declared.noted.NotedSpan.{NotedSpan}
use Rattle.tenant_pipeline.specs.declared.journal.Journal.{Journal}
use Rattle.tenant_pipeline.specs.declared.pipeline.Pipeline.{Pipeline}
use Rattle.tenant_pipeline.specs.declared.post.HeldOrigins.{HeldOrigins}
use Rattle.tenant_pipeline.specs.Posts.{all_keys, all_text_keys, arrival_at, held_keys, keys_at, place_of, AreHeldAt, Came, CameNext, HoldsMore, IsComing, IsFull, IsNext, IsPosting, IsWritten, IsWrittenWith}
use Rattle.tenant_pipeline.specs.Undo.{hits_undone}
use Rattle.drop_ledger.specs.Ledger.{LedgerData}
use Rattle.tenant_pipeline.proofs.Placing.{takes_back}
use Rattle.tenant_pipeline.specs.StateIn.{counts_in, policies_of, state_by, written_state_of, view_in}
use Rattle.tenant_pipeline.proofs.Before.{all_before}
use Rattle.tenant_pipeline.proofs.Origins.{among_at, keys-push, keys-push_held, keys_index, keys_pushed, origin_stays}
use Rattle.tenant_pipeline.proofs.Posting.{held_over}

-- ---- none is held

no_place : (n index : ℕ) → ◌≡◌ {A = ℕ} (get_or (replicate n 0) index 0) 0
no_place zero index = refl
no_place (suc n) zero = refl
no_place (suc n) (suc index) = no_place n index

pub none_at : (origins : List OriginTexts) (held : HeldOrigins) (n : ℕ) (p : Part TraceNote) → n ≡ length origins → held.places.items ≡ replicate n 0 → AreHeldAt origins held p
none_at origins held n p many places =
    let none : (index : ℕ) → place_of held index ≡ 0 = λ index. ap (λ (xs : List ℕ). get_or xs index 0) places ∙ no_place n index in
    record {
      many = ap length places ∙ (length-replicate n 0 ∙ many);
      within = λ index. let is = none index in omega (arith, is);
      texts = λ index some. let is = none index in absurd (omega (arith, is, some));
    }

pub none_held_keys : (held : HeldOrigins) (p : Part TraceNote) → held.keys.items ≡ [] → HoldsAll (held_keys held) p p
none_held_keys held p none =
    let start : HoldsAll [] p p = record { spans = refl; texts = refl; rows = refl; latest_rows = refl } in
    subst (λ (ks : List OwnedKeys). HoldsAll (all_text_keys (all_keys ks)) p p) (sym none) start

-- ---- one is already

pub place_read : (held : HeldOrigins) (index place : ℕ) → index < length held.places.items → place ≡ get_or held.places.items index place → place_of held index ≡ place
place_read held index place within is = sym (get_or_read held.places.items index place within is 0)

-- one without a place isn't
pub not_held : {A : Type 0} (origins : List OriginTexts) (held : HeldOrigins) (index place : ℕ) (p : Part TraceNote) → AreHeldAt origins held p → index < length origins → place ≡ get_or held.places.items index place → place ≤ 0 → 0 < place_of held index → A
not_held origins held index place p was within is none some =
    let many = was.many in
    let read = place_read held index place (omega (arith, many, within)) is in
    absurd (omega (arith, read, none, some))

pub held_there : (origins : List OriginTexts) (held : HeldOrigins) (index place : ℕ) (p : Part TraceNote) → AreHeldAt origins held p → place_of held index ≡ place → 0 < place →
    origin_in p (keys_at (all_keys held.keys.items) (place - 1)) ≡ prepared.origin_at origins index
held_there origins held index place p was is some = ap (λ (k : ℕ). origin_in p (keys_at (all_keys held.keys.items) (k - 1))) (sym is) ∙ was.texts index (omega (arith, is, some))

pub no_more : (held : HeldOrigins) (p : Part TraceNote) → HoldsMore held held p p
no_more held p = record { more = []; keys = refl; holds = record { spans = refl; texts = refl; rows = refl; latest_rows = refl } }

-- ---- one more is

abbrev no_keys : TextKeys
no_keys = record { resource = None; resource_schema_url = None; scope = None; scope_schema_url = None }

module _ (origins : List OriginTexts) (old new : HeldOrigins) (index : ℕ) (one : OwnedKeys) (p q : Part TraceNote)
    (keys_are : new.keys.items ≡ old.keys.items ++ one ∷ []) (places_are : new.places.items ≡ set old.places.items index (length old.keys.items + 1))
    (was : AreHeldAt origins old p) (within : index < length origins)
  where
    all_are : all_keys new.keys.items ≡ all_keys old.keys.items ++ one.keys ∷ []
    all_are = keys_pushed old.keys.items one new.keys.items keys_are

    more_keys : held_keys new ≡ text_keys one.keys ++ held_keys old
    more_keys = ap all_text_keys all_are ∙ keys-push (all_keys old.keys.items) one.keys

    pub holds_more : HoldsAll (text_keys one.keys) p q → HoldsMore old new p q
    holds_more holds = record { more = text_keys one.keys; keys = more_keys; holds = holds }

    pub more_sound : (n : Counts) (pending held : List ℕ) → StoreInvariant n pending (text_keys one.keys ++ (held_keys old ++ held)) q → StoreInvariant n pending (held_keys new ++ held) q
    more_sound n pending held sound =
        subst (λ (ks : List ℕ). StoreInvariant n pending ks q) (sym (ap (λ (ks : List TextKeys). all_text_keys ks ++ held) all_are ∙ keys-push_held (all_keys old.keys.items) one.keys held)) sound

    size : length new.keys.items ≡ length old.keys.items + 1
    size = ap length keys_are ∙ length-append old.keys.items (one ∷ [])

    sized : length (all_keys old.keys.items) ≡ length old.keys.items
    sized = length-map old.keys.items (λ (k : OwnedKeys). k.keys)

    pub place_here : place_of new index ≡ length old.keys.items + 1
    place_here = ap (λ (xs : List ℕ). get_or xs index 0) places_are ∙ get_or-set_same old.places.items index (length old.keys.items + 1) 0 (let many = was.many in omega (arith, many, within))

    place_other : (i : ℕ) → i ≢ index → place_of new i ≡ place_of old i
    place_other i ne = ap (λ (xs : List ℕ). get_or xs i 0) places_are ∙ get_or-set_other old.places.items index i (length old.keys.items + 1) 0 ne

    keys_here : keys_at (all_keys new.keys.items) (length old.keys.items) ≡ one.keys
    keys_here = ap (λ (ks : List TextKeys). keys_at ks (length old.keys.items)) all_are
        ∙ (ap (λ (k : ℕ). keys_at (all_keys old.keys.items ++ one.keys ∷ []) k) (sym sized)
        ∙ get_or-append_seam (all_keys old.keys.items) one.keys [] no_keys)

    keys_other : (j : ℕ) → j < length old.keys.items → keys_at (all_keys new.keys.items) j ≡ keys_at (all_keys old.keys.items) j
    keys_other j less = ap (λ (ks : List TextKeys). keys_at ks j) all_are
        ∙ get_or_append_left (all_keys old.keys.items) (one.keys ∷ []) no_keys j (omega (arith, less, sized))

    pub origin_here : origin_at (text_at q.texts) one.keys ≡ prepared.origin_at origins index → origin_in q (keys_at (all_keys new.keys.items) (length old.keys.items)) ≡ prepared.origin_at origins index
    origin_here text = ap (λ (ks : TextKeys). origin_in q ks) keys_here ∙ text

    module _ (text : origin_at (text_at q.texts) one.keys ≡ prepared.origin_at origins index) (stay : (key : ℕ) → 0 < count key (held_keys old) → text_at q.texts key ≡ text_at p.texts key)
      where
        abbrev Held : ℕ → Type 0
        Held i = (place_of new i ≤ length new.keys.items) × (0 < place_of new i → origin_in q (keys_at (all_keys new.keys.items) (place_of new i - 1)) ≡ prepared.origin_at origins i)

        here : Held index
        here = (
          omega (arith, place_here, size),
          λ some.
              let at : place_of new index - 1 ≡ length old.keys.items = omega (arith, place_here) in
              ap (λ (k : ℕ). origin_in q (keys_at (all_keys new.keys.items) k)) at ∙ origin_here text,
        )

        there : (i : ℕ) → i ≢ index → Held i
        there i ne =
            let same = place_other i ne in
            let most = was.within i in (
              omega (arith, same, most, size),
              λ some.
                  let place : ℕ = place_of old i - 1 in
                  let at : place_of new i - 1 ≡ place = omega (arith, same) in
                  let few : place < length old.keys.items = omega (arith, same, most, some) in
                  let keys : TextKeys = keys_at (all_keys old.keys.items) place in
                  ap (λ (k : ℕ). origin_in q (keys_at (all_keys new.keys.items) k)) at
                  ∙ (ap (λ (ks : TextKeys). origin_in q ks) (keys_other place few)
                  ∙ (origin_stays (text_at p.texts) (text_at q.texts) keys (λ t any. stay t (let among = among_at (all_keys old.keys.items) place (omega (arith, few, sized)) t in omega (arith, among, any)))
                  ∙ was.texts i (omega (arith, same, some)))),
            )

        each : (i : ℕ) → Held i
        each i = by_test (eqb i index) refl
          where
            by_test : (b : Bool) → eqb i index ≡ b → Held i
            by_test true e = subst (λ (j : ℕ). Held j) (sym (let is : i ≡ index = grind (arith, nat_tests, e) in is)) here
            by_test false e = there i (grind (arith, nat_tests, e))

        pub still_held : AreHeldAt origins new q
        still_held = record {
          many = ap length places_are ∙ (length-set old.places.items index (length old.keys.items + 1) ∙ was.many);
          within = λ i. (each i).0;
          texts = λ i some. (each i).1 some;
        }

-- ---- a span comes with the texts of its origin held

-- none is taken without room
pub no_room : (moment : ℕ) (origins : List OriginTexts) (journal : Journal) (held : HeldOrigins) (span : NotedSpan) (own : Pipeline) (p : Part TraceNote) → IsNext moment journal origins held span own p →
    IsFull (written_state_of own p) → CameNext (come moment (prepared.arrival_in origins span)) moment journal origins held own own p p
no_room moment origins journal held span own p next full = record {
  rules = ap (λ (b : Bool). cond b (goes moment (prepared.arrival_in origins span) (counted_in (written_state_of own p))) (written_state_of own p)) (sym full);
  posting = next.posting;
  held_at = next.held_at;
  counted_by = omega arith;
}

-- nothing of it is kept
pub unkept : (change : State → State) (moment : ℕ) (origins : List OriginTexts) (journal : Journal) (held : HeldOrigins) (span : NotedSpan) (own own' : Pipeline) (p : Part TraceNote) →
    IsNext moment journal origins held span own p → Came change moment journal journal own own' p p → CameNext change moment journal origins held own own' p p
unkept change moment origins journal held span own own' p next came = record {
  rules = came.rules;
  posting = came.posting (held_keys held) next.posting;
  held_at = next.held_at;
  counted_by = came.counted_by;
}

-- counters are taken back whatever they are
pub recounted : (ledger : LedgerData) (journal : Journal) (start own : Pipeline) (first p : Part TraceNote) → IsWritten journal start own first p → IsWritten journal start (record own { ledger = ledger }) first p
recounted ledger journal start own first p was = record {
  trail = was.trail;
  undo = takes_back journal.undo start (hits_undone journal.hits own) own.rows ledger was.undo;
  hits = was.hits;
}

-- the same texts are held
pub written_kept : (held held' : HeldOrigins) (journal : Journal) (start own : Pipeline) (first p q : Part TraceNote) → held'.keys.items ≡ held.keys.items → q ≡ p → IsWrittenWith journal held start own first p → IsWrittenWith journal held' start own first q
written_kept held held' journal start own first p q keys same was = record {
  first = was.first;
  holds = subst (λ (ks : List OwnedKeys). HoldsAll (all_text_keys (all_keys ks)) first was.first) (sym keys) was.holds;
  written = subst (λ (r : Part TraceNote). IsWritten journal start own was.first r) (sym same) was.written;
}

-- what stays written stays so with them held
pub written_on : (held : HeldOrigins) (journal journal' : Journal) (own own' : Pipeline) (p q : Part TraceNote) →
    ((start : Pipeline) (first : Part TraceNote) → IsWritten journal start own first p → IsWritten journal' start own' first q) →
    (start : Pipeline) (first : Part TraceNote) → IsWrittenWith journal held start own first p → IsWrittenWith journal' held start own' first q
written_on held journal journal' own own' p q stays start first was = record { first = was.first; holds = was.holds; written = stays start was.first was.written }

module _ (moment : ℕ) (journal : Journal) (origins : List OriginTexts) (held0 held1 : HeldOrigins) (span : NotedSpan) (own : Pipeline) (p q : Part TraceNote)
    (next : IsNext moment journal origins held0 span own p)
    (more : WhereHeld (held_keys held0) p (λ n pending held. HoldsMore held0 held1 p q))
    (is_sound : WhereHeld (held_keys held0) p (λ n pending held. StoreInvariant n pending (held_keys held1 ++ held) q))
    (shows : ShowsSameHeld (held_keys held0) p q)
  where
    abbrev pending : List ℕ
    pending = journal.undo.gone.items ++ own.batcher.spans

    sound0 : StoreInvariant (counts_in own) pending (held_keys held0 ++ []) p
    sound0 = subst (λ (ks : List ℕ). StoreInvariant (counts_in own) pending ks p) (sym (append-nil (held_keys held0))) next.posting.holds.sound

    sound1 : StoreInvariant (counts_in own) pending (held_keys held1) q
    sound1 = subst (λ (ks : List ℕ). StoreInvariant (counts_in own) pending ks q) (append-nil (held_keys held1)) (is_sound (counts_in own) pending [] sound0)

    same : view_in own q ≡ view_in own p
    same = shows (counts_in own) pending [] own.batcher.spans sound0 (λ key. let both = count-append key journal.undo.gone.items own.batcher.spans in omega (arith, both))

    -- the rules see no change
    pub state_held : written_state_of own q ≡ written_state_of own p
    state_held = ap (state_by own) same

    holding : IsPosting moment journal (held_keys held1) own q
    holding = record {
      holds = held_over moment own.rows.swept journal.undo.gone.items journal.undo.gone.items (held_keys held0) (held_keys held1) own p q next.posting.holds sound1 same;
      quiet = next.posting.quiet;
      offers = next.posting.offers;
    }

    pub written_more : (start : Pipeline) (first : Part TraceNote) → IsWrittenWith journal held0 start own first p → IsWrittenWith journal held1 start own first q
    written_more start first was =
        let m = more (counts_in own) pending [] sound0 in
        let before = all_before m.more journal.placed.items was.first p q was.written.trail m.holds in
        let keys = held_keys held0 in
        let holds : HoldsAll (m.more ++ keys) first before.0 = record {
          spans = before.2.spans ∙ was.holds.spans;
          texts = all_released-append m.more keys before.0.texts ∙ (ap (all_released keys) before.2.texts ∙ was.holds.texts);
          rows = before.2.rows ∙ was.holds.rows;
          latest_rows = before.2.latest_rows ∙ was.holds.latest_rows;
        } in
        record {
          first = before.0;
          holds = subst (λ (ks : List ℕ). HoldsAll ks first before.0) (sym m.keys) holds;
          written = record { trail = before.1; undo = was.written.undo; hits = was.written.hits };
        }

    module _ (place : ℕ) (read : OwnedKeys) (within : place < length held1.keys.items) (is : read ≡ get_or held1.keys.items place read)
        (origin : WhereHeld (held_keys held0) p (λ n pending held. origin_in q (keys_at (all_keys held1.keys.items) place) ≡ prepared.origin_at origins span.origin))
        (all : WhereHeld (held_keys held0) p (λ n pending held. AreHeldAt origins held1 q))
      where
        sized_now : length (all_keys held1.keys.items) ≡ length held1.keys.items
        sized_now = length-map held1.keys.items (λ (k : OwnedKeys). k.keys)

        read_is : keys_at (all_keys held1.keys.items) place ≡ read.keys
        read_is = keys_index held1.keys.items place read within ∙ ap (λ (k : OwnedKeys). k.keys) (sym is)

        arrival_same : arrival_at q read.keys span.text ≡ prepared.arrival_in origins span
        arrival_same = ap (λ (o : OriginData). prepared.arrival_with o span.text) (ap (λ (ks : TextKeys). origin_in q ks) (sym read_is) ∙ origin (counts_in own) pending [] sound0)

        pub is_coming_held : IsComing moment journal read.keys span (held_keys held1) own q
        is_coming_held = record {
          posting = holding;
          among = subst (λ (ks : TextKeys). AreAmong (text_keys ks) (held_keys held1)) read_is (among_at (all_keys held1.keys.items) place (omega (arith, within, sized_now)));
          note = next.ready.note ∙ ap (λ (a : Arrival). note_of (policies_of own) a.facts) (sym arrival_same);
          trace = next.ready.trace ∙ ap trace_of (sym arrival_same);
        }

        pub came_held : (journal' : Journal) (own' : Pipeline) (r : Part TraceNote) → Came (come moment (arrival_at q read.keys span.text)) moment journal journal' own own' q r →
            CameNext (come moment (prepared.arrival_in origins span)) moment journal' origins held1 own own' p r
        came_held journal' own' r came =
            let here = all (counts_in own) pending [] sound0 in
            record {
              rules = came.rules ∙ (ap (λ (a : Arrival). come moment a (written_state_of own q)) arrival_same ∙ ap (come moment (prepared.arrival_in origins span)) state_held);
              posting = came.posting (held_keys held1) holding;
              held_at = record {
                many = here.many;
                within = here.within;
                texts = λ index some.
                    let at : ℕ = place_of held1 index - 1 in
                    let most = here.within index in
                    came.texts (held_keys held1) holding (keys_at (all_keys held1.keys.items) at) (among_at (all_keys held1.keys.items) at (omega (arith, most, some, sized_now))) ∙ here.texts index some;
              };
              counted_by = came.counted_by;
            }
