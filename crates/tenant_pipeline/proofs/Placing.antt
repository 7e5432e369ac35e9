-- What a span of a post, with the texts of its origin held once more, leaves of its tenant's part.
use Rattle.std.proofs.Common.{◌≡◌, ◌<◌, ◌≤◌, ◌++◌, ◌∙◌, ℕ, List, [], ◌∷◌, length, refl, sym, subst, arith, Option, Some, None}
use Rattle.std.specs.Prelude.{option_to_list}
use Rattle.drop_ledger.specs.Ledger.{LedgerData}
use Rattle.span_pool.specs.Stored.{StoredData, origin_at, texts_of}
use Rattle.span_pool.specs.Stored as keyed
use Rattle.span_pool.specs.declared.keys.TextKeys.{TextKeys}
use Rattle.text_pool.specs.declared.pool.CountedText.{CountedText}
use Rattle.tail_policy.specs.declared.note.TraceNote.{TraceNote}
use Rattle.tenant_stores.specs.declared.undo.UndoEntry.{UndoEntry}
use Rattle.tenant_stores.specs.Changes.{ReleasesAll}
use Rattle.tenant_stores.specs.Counts.{Counts, count}
use Rattle.tenant_stores.specs.Part.{Part}
use Rattle.tenant_stores.specs.Shows.{AreAmong, Stay}
use Rattle.tenant_stores.specs.Invariant.{StoreInvariant}
use Rattle.tenant_stores.specs.Trail.{HoldsAll, IsUndone, Trail}
use Rattle.tenant_stores.specs.View.{text_at, text_keys, view}
use Rattle.tenant_stores.proofs.Held.{four_parts}
use Rattle.tenant_stores.proofs.Lists.{count-append, count-self}
use Rattle.tenant_stores.proofs.Parts.{part_by}
use Rattle.tenant_stores.proofs.Sounds.{leaves_sound}
use Rattle.tenant_rules.specs.State.{State}
use Rattle.tenant_pipeline.specs.declared.pipeline.Pipeline.{Pipeline}
use Rattle.tenant_pipeline.specs.declared.pipeline.RowCounts.{RowCounts}
use Rattle.tenant_pipeline.specs.declared.journal.Journal.{Journal}
use Rattle.tenant_pipeline.specs.declared.undo.Undo.{Undo}
use Rattle.tenant_pipeline.specs.StateIn.{arrival_of, counts_in, written_state_of, view_in}
use Rattle.tenant_pipeline.specs.Invariant.{PipelineInvariantAt}
use Rattle.tenant_pipeline.specs.Posts.{arrival_at, Came, IsPosting, IsWritten}
use Rattle.tenant_pipeline.specs.Undo.{TakesBack, hits_undone}

-- ---- what is held

-- as many texts are held, whatever the list of their keys
pub among_held : (n : Counts) (pending held other : List ℕ) (p : Part TraceNote) → StoreInvariant n pending held p → StoreInvariant n pending other p → (keys : List ℕ) → AreAmong keys held → AreAmong keys other
among_held n pending held other p sound again keys among = λ key. omega (arith, among key, sound.used key, again.used key)

-- the same keys are among them
pub same_among : (one other : TextKeys) (held : List ℕ) → one ≡ other → AreAmong (text_keys other) held → AreAmong (text_keys one) held
same_among one other held is among = subst (λ (k : TextKeys). AreAmong (text_keys k) held) (sym is) among

-- an origin whose texts stay
pub origin_stays : (held : List ℕ) (old new : ℕ → Option CountedText) (keys : TextKeys) → AreAmong (text_keys keys) held → Stay held old new → origin_at (text_at new) keys ≡ origin_at (text_at old) keys
origin_stays held old new keys among stay = cc (one keys.resource first, one keys.resource_schema_url second, one keys.scope third, one keys.scope_schema_url fourth)
  where
    one : (key : Option ℕ) → ((t : ℕ) → 0 < count t (option_to_list key) → 0 < count t held) → keyed.text_at (text_at new) key ≡ keyed.text_at (text_at old) key
    one None some = refl
    one (Some key) some = stay key (some key (omega (arith, count-self key [])))

    first : (t : ℕ) → 0 < count t (option_to_list keys.resource) → 0 < count t held
    first t some = omega (arith, some, among t, four_parts keys t)

    second : (t : ℕ) → 0 < count t (option_to_list keys.resource_schema_url) → 0 < count t held
    second t some = omega (arith, some, among t, four_parts keys t)

    third : (t : ℕ) → 0 < count t (option_to_list keys.scope) → 0 < count t held
    third t some = omega (arith, some, among t, four_parts keys t)

    fourth : (t : ℕ) → 0 < count t (option_to_list keys.scope_schema_url) → 0 < count t held
    fourth t some = omega (arith, some, among t, four_parts keys t)

-- texts that were held and are given back
pub given_back : (keys : List ℕ) (p q r : Part TraceNote) → HoldsAll keys p q → ReleasesAll keys q r → r ≡ p
given_back keys p q r holds back =
    part_by r.spans p.spans r.texts p.texts r.rows p.rows r.latest_rows p.latest_rows (back.spans ∙ holds.spans) (back.texts ∙ holds.texts) (back.rows ∙ holds.rows) (back.latest_rows ∙ holds.latest_rows)

-- keys of pending spans in another order
pub pending_same : (n : Counts) (pending left held : List ℕ) (p : Part TraceNote) → ((key : ℕ) → count key left ≡ count key pending) → StoreInvariant n pending held p → StoreInvariant n left held p
pending_same n pending left held p all sound =
    leaves_sound [] p p (record { spans = refl; texts = refl; rows = refl; latest_rows = refl }) n pending left held (λ key. omega (arith, all key)) sound

-- ---- what is written down

pub trail_more : (start p q : Part TraceNote) (xs : List (UndoEntry TraceNote)) (x : UndoEntry TraceNote) → Trail start xs p → IsUndone x p q → Trail start (xs ++ x ∷ []) q
trail_more start p q [] x trail placed = (q, subst (λ (r : Part TraceNote). IsUndone x r q) trail placed, refl)
trail_more start p q (y ∷ ys) x trail placed = (trail.0, trail.1, trail_more trail.0 p q ys x trail.2 placed)

-- numbers of rows and counters are taken back whatever they are
pub takes_back : (undo : Undo) (start own : Pipeline) (rows : RowCounts) (ledger : LedgerData) → TakesBack undo start own → TakesBack undo start (record own { rows = rows; ledger = ledger })
takes_back undo start own rows ledger back = record {
  rows = back.rows;
  ledger = back.ledger;
  batcher = back.batcher;
  mark = back.mark;
  sender = back.sender;
  offers = back.offers;
  same = back.same;
}

-- ---- a span with its texts

-- a span that is kept has its origin's texts, each held once more
pub record IsKeyed (keys : TextKeys) (text : List ℕ) (p mid : Part TraceNote) (span : StoredData) : Type 0 where
  pub text_is : span.text ≡ text
  pub holds : (n : Counts) (pending held : List ℕ) → AreAmong (text_keys keys) held → StoreInvariant n pending held p → HoldsAll (text_keys span.keys) p mid
  pub sound : (n : Counts) (pending held : List ℕ) → AreAmong (text_keys keys) held → StoreInvariant n pending held p → StoreInvariant n pending (text_keys span.keys ++ held) mid
  pub origin : (n : Counts) (pending held : List ℕ) → AreAmong (text_keys keys) held → StoreInvariant n pending held p → origin_at (text_at mid.texts) span.keys ≡ origin_at (text_at p.texts) keys
  pub shows : (n : Counts) (pending held shown : List ℕ) → AreAmong (text_keys keys) held → StoreInvariant n pending held p → AreAmong shown pending → view n shown mid ≡ view n shown p
  pub stay : (n : Counts) (pending held : List ℕ) → AreAmong (text_keys keys) held → StoreInvariant n pending held p → Stay held p.texts mid.texts

-- what that makes of the part of a tenant in a post: the same is shown, one span more can come, and origins that are held
-- stay
pub record IsReady (own : Pipeline) (p mid : Part TraceNote) (journal : Journal) (keys : TextKeys) (text : List ℕ) (span : StoredData) : Type 0 where
  pub arrived : arrival_of (texts_of (text_at mid.texts) span) ≡ arrival_at p keys text
  pub holds : HoldsAll (text_keys span.keys) p mid
  pub sound : (other : List ℕ) → StoreInvariant (counts_in own) (journal.undo.gone.items ++ own.batcher.spans) other p → StoreInvariant (counts_in own) (journal.undo.gone.items ++ own.batcher.spans) (text_keys span.keys ++ other) mid
  pub shown : view (counts_in own) own.batcher.spans mid ≡ view_in own p
  pub origin : (other : List ℕ) → StoreInvariant (counts_in own) (journal.undo.gone.items ++ own.batcher.spans) other p → (ks : TextKeys) → AreAmong (text_keys ks) other → origin_at (text_at mid.texts) ks ≡ origin_at (text_at p.texts) ks

pub among_pending : (own : Pipeline) (journal : Journal) → AreAmong own.batcher.spans (journal.undo.gone.items ++ own.batcher.spans)
among_pending own journal = λ key. omega (arith, count-append key journal.undo.gone.items own.batcher.spans)

pub ready_now : (own : Pipeline) (p mid : Part TraceNote) (moment : ℕ) (journal : Journal) (keys : TextKeys) (text held : List ℕ) (span : StoredData) →
    IsPosting moment journal held own p → AreAmong (text_keys keys) held → IsKeyed keys text p mid span → IsReady own p mid journal keys text span
ready_now own p mid moment journal keys text held span posting among kept =
    let n = counts_in own in
    let pending = journal.undo.gone.items ++ own.batcher.spans in
    let sound = posting.holds.sound in
    let origin' = kept.origin n pending held among sound in
    let text' = kept.text_is in
    let other_among : (other : List ℕ) → StoreInvariant n pending other p → AreAmong (text_keys keys) other = λ other again. among_held n pending held other p sound again (text_keys keys) among in
    record {
      arrived = λ i. arrival_of (record { origin = origin' i; text = text' i });
      holds = kept.holds n pending held among sound;
      sound = λ other again. kept.sound n pending other (other_among other again) again;
      shown = kept.shows n pending held own.batcher.spans among sound (among_pending own journal);
      origin = λ other again ks of_other. origin_stays other p.texts mid.texts ks of_other (kept.stay n pending other (other_among other again) again);
    }

-- ---- a post's journal

-- a span came by another name of the change, from a journal that is the same but for its room
pub came_by : (change other : State → State) (moment : ℕ) (from to journal : Journal) (own own' : Pipeline) (p p' : Part TraceNote) → change (written_state_of own p) ≡ other (written_state_of own p) → to.undo ≡ from.undo →
    Came change moment from journal own own' p p' → Came other moment to journal own own' p p'
came_by change other moment from to journal own own' p p' is undo_is came =
    let before : (held : List ℕ) → IsPosting moment to held own p → IsPosting moment from held own p = λ held posting.
    let one : IsPosting moment from held own p = record {
      holds = subst (λ (u : Undo). PipelineInvariantAt moment u.gone.items held own p) undo_is posting.holds;
      quiet = posting.quiet;
      offers = subst (λ (u : Undo). u.offers ≤ length own.sender.queue) undo_is posting.offers;
    } in one in
    record {
      rules = came.rules ∙ is;
      posting = λ held posting. came.posting held (before held posting);
      texts = λ held posting ks among. came.texts held (before held posting) ks among;
      counted_by = came.counted_by;
    }

-- with room for more it is written down as before
pub written_same : (from to : Journal) (start own : Pipeline) (first p : Part TraceNote) → to.placed.items ≡ from.placed.items → to.undo ≡ from.undo → to.hits ≡ from.hits → IsWritten from start own first p → IsWritten to start own first p
written_same from to start own first p placed undo_is hits_are written = record {
  trail = subst (λ (xs : List (UndoEntry TraceNote)). Trail first xs p) (sym placed) written.trail;
  undo = subst (λ (n : ℕ). TakesBack to.undo start (hits_undone n own)) (sym hits_are) (subst (λ (u : Undo). TakesBack u start (hits_undone from.hits own)) (sym undo_is) written.undo);
  hits = subst (λ (n : ℕ). n ≤ length own.caches.hits) (sym hits_are) written.hits;
}
