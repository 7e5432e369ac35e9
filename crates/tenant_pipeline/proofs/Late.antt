-- A span of a post comes after its row was decided: it waits for a batch, or is dropped. Or there is no room for it.
use Rattle.std.proofs.Common.{◌≡◌, ◌<◌, ◌≤◌, ◌+◌, ◌++◌, ◌∙◌, ℕ, List, [], ◌∷◌, length, map, refl, sym, ap, subst, arith, Option, Some, None}
use Rattle.std.specs.List.{AllByRecursion}
use Rattle.std.proofs.lemmas.List.{length-map}
use Rattle.drop_ledger.specs.Ledger.{counted, most_counted, moved, taken}
use Rattle.drop_ledger.specs.declared.places.Place.TheVariants.{Undecided, NotSampled}
use Rattle.span_batcher.specs.State as batcher
use Rattle.span_batcher.specs.State.{next_due}
use Rattle.span_pool.specs.Stored.{StoredData, SpanTexts, origin_at, texts_of}
use Rattle.span_pool.specs.Pool.{with_span}
use Rattle.span_pool.specs.declared.keys.TextKeys.{TextKeys}
use Rattle.text_pool.specs.declared.pool.CountedText.{CountedText}
use Rattle.tail_policy.specs.declared.note.TraceNote.{TraceNote}
use Rattle.tenant_stores.specs.Changes.{Waits}
use Rattle.tenant_stores.specs.Counts.{Counts, count, in_table}
use Rattle.tenant_stores.specs.Part.{Part}
use Rattle.tenant_stores.specs.Shows.{AreAmong, with_late}
use Rattle.tenant_stores.specs.Invariant.{StoreInvariant, one}
use Rattle.tenant_stores.specs.View.{WaitingRow, View, keys_in, spans_at, text_at, text_keys, view}
use Rattle.tenant_stores.proofs.Keys.{keys_are_shown}
use Rattle.tenant_stores.proofs.Lists.{count-append}
use Rattle.tenant_stores.proofs.Shown.{alike-put, spans-alike}
use Rattle.tenant_rules.specs.Arrivals.{Arrival}
use Rattle.tenant_rules.specs.Fronts.{AreInOrder, AllDueBy}
use Rattle.tenant_rules.specs.Machine.{counted_in}
use Rattle.tenant_rules.specs.State.{State}
use Rattle.tenant_rules.specs.Timers.{grouped, recount}
use Rattle.tenant_pipeline.specs.declared.pipeline.Pipeline.{Pipeline}
use Rattle.tenant_pipeline.specs.declared.journal.Journal.{Journal}
use Rattle.tenant_pipeline.specs.declared.undo.Undo.{Undo}
use Rattle.tenant_pipeline.specs.StateIn.{arrivals_of, settled_of, waiting_of, counts_in, policies_of, pending_with, written_state_of, view_in}
use Rattle.tenant_pipeline.specs.Invariant.{IsNoted, PipelineInvariantAt}
use Rattle.tenant_pipeline.specs.Outbox.{arrivals_at, AreThere, Groups, pending_at}
use Rattle.tenant_pipeline.specs.Posts.{arrival_at, Came, IsPosting}
use Rattle.tenant_rules.proofs.Arrived.{more_of}
use Rattle.tenant_rules.proofs.Sums.{Kept as KeptCounts, fixed_of}
use Rattle.tenant_pipeline.proofs.Counting.{HasOne, fits_same, late_fits, late_kept, lost_fits}
use Rattle.tenant_pipeline.proofs.Placing.{IsReady, pending_same}
use Rattle.tenant_pipeline.proofs.Spans.{arrival_or, there_is, there-front}
use Rattle.tenant_pipeline.proofs.Timing.{from_after}

-- ---- a span of a row that is sampled

-- it lies in the stores, and nothing has left yet
module _ (own : Pipeline) (p mid q : Part TraceNote) (moment : ℕ) (journal : Journal) (keys : TextKeys) (text held : List ℕ) (posting : IsPosting moment journal held own p)
    (span : StoredData) (ready : IsReady own p mid journal keys text span) (key : ℕ) (change : Waits key span mid q)
    (sound_q : (n : Counts) (pending others : List ℕ) → StoreInvariant n pending (text_keys span.keys ++ others) mid → StoreInvariant n (pending ++ key ∷ []) others q)
    (shows_q : (n : Counts) (pending others shown : List ℕ) → StoreInvariant n pending others mid → AreAmong shown pending →
    view n (shown ++ key ∷ []) q ≡ with_late (texts_of (text_at mid.texts) span) (view n shown mid))
    (fits : counted own.ledger + 1 ≤ most_counted) (budget : own.ledger.places.undecided + own.ledger.places.pending < own.section.max_spans) where
  abbrev n : Counts
  n = counts_in own

  abbrev gone : List ℕ
  gone = journal.undo.gone.items

  abbrev pend : List ℕ
  pend = gone ++ own.batcher.spans

  abbrev s : State
  s = written_state_of own p

  abbrev x : Arrival
  x = arrival_at p keys text

  abbrev st : SpanTexts
  st = texts_of (text_at mid.texts) span

  -- with the span counted
  abbrev pub counted_own : Pipeline
  counted_own = record own { ledger = taken 1 own.ledger }

  sound_mid : StoreInvariant n pend (text_keys span.keys ++ held) mid
  sound_mid = ready.sound held posting.holds.sound

  sound_late : StoreInvariant n (pend ++ key ∷ []) held q
  sound_late = sound_q n pend held sound_mid

  -- spans that wait and the late one have their spans
  pub late_there : AreThere q (own.batcher.spans ++ key ∷ [])
  late_there = λ k some none.
      let shown = keys_are_shown TraceNote n (pend ++ key ∷ []) held q sound_late in
      let waits = shown.waits k in
      let all = count-append k pend (key ∷ []) in
      let both = count-append k own.batcher.spans (key ∷ []) in
      let more = count-append k gone own.batcher.spans in
      let found = shown.there k (omega (arith, waits, all, both, more, some)) in
      let clash : Path (Option StoredData) (Some found.0) None = sym found.1 ∙ none in
      absurd (cc)

  none_waits : count key own.batcher.spans ≡ 0
  none_waits =
      let named = sound_mid.named key ∙ ap one change.vacant in
      let all = count-append key (keys_in mid.rows (in_table n)) pend in
      let more = count-append key gone own.batcher.spans in
      omega (arith, named, all, more)

  same_spans : spans_at q.spans q.texts own.batcher.spans ≡ spans_at p.spans p.texts own.batcher.spans
  same_spans =
      ap (λ (f : ℕ → Option StoredData). spans_at f q.texts own.batcher.spans) change.spans
      ∙ (ap (λ (f : ℕ → Option CountedText). spans_at (with_span key (Some span) mid.spans) f own.batcher.spans) change.texts
      ∙ (spans-alike mid.spans mid.texts (with_span key (Some span) mid.spans) mid.texts own.batcher.spans (alike-put key (Some span) mid.spans mid.texts own.batcher.spans none_waits)
      ∙ ap (λ (v : View TraceNote). v.pending) ready.shown))

  -- what waits is as many as are counted
  pub late_pending : own.ledger.places.pending ≡ length own.batcher.spans
  late_pending =
      let there = there_is q own.batcher.spans (there-front q own.batcher.spans (key ∷ []) late_there) in
      let size = ap length there ∙ length-map own.batcher.spans (arrival_or q) in
      posting.holds.counted.pending_is ∙ (ap (λ (ss : List SpanTexts). length (arrivals_of ss)) (sym same_spans) ∙ size)

  -- the late span, as it is shown
  late_shown : view n ([] ++ key ∷ []) q ≡ with_late st (view n [] mid)
  late_shown = shows_q n pend (text_keys span.keys ++ held) [] sound_mid (λ k. omega arith)

  late_is : arrivals_at q (key ∷ []) ≡ x ∷ []
  late_is = ap (λ (v : View TraceNote). arrivals_of v.pending) late_shown ∙ ap (λ (a : Arrival). a ∷ []) ready.arrived

  -- ---- it waits for a batch

  module _ (new : Pipeline) (journal' : Journal) (groups : Groups moment (key ∷ []) q counted_own new)
      (all : (k : ℕ) → count k journal'.undo.gone.items + count k new.batcher.spans ≡ count k gone + (count k own.batcher.spans + count k (key ∷ [])))
      (offers : journal'.undo.offers ≤ length new.sender.queue) where
    abbrev b : batcher.State ℕ
    b = new.batcher

    -- the tenant's own then
    abbrev new_own : Pipeline
    new_own = record own { batcher = b; sender = new.sender; ledger = new.ledger }

    settled_same : (view n b.spans q).settled ≡ (view_in own p).settled
    settled_same = ap (λ (v : View TraceNote). v.settled) late_shown ∙ ap (λ (v : View TraceNote). v.settled) ready.shown

    waiting_same : (view n b.spans q).waiting ≡ (view_in own p).waiting
    waiting_same = ap (λ (v : View TraceNote). v.waiting) late_shown ∙ ap (λ (v : View TraceNote). v.waiting) ready.shown

    state_is : written_state_of new_own q ≡ grouped Undecided moment (x ∷ []) (counted_in s)
    state_is =
        let shown : written_state_of new_own q ≡ record (counted_in s) { pending = pending_at q b; sender = new.sender; ledger = new.ledger } =
        λ i. let y : State = record (counted_in s) { settled = map settled_of (settled_same i); waiting = map waiting_of (waiting_same i); pending = pending_at q b; sender = new.sender; ledger = new.ledger } in y in
        let made = groups.rules (counted_in s) (ap (λ (ss : List SpanTexts). pending_with own.batcher ss) (sym same_spans)) refl refl in
        shown ∙ (sym made ∙ ap (λ (xs : List Arrival). grouped Undecided moment xs (counted_in s)) late_is)

    one_more : HasOne s
    one_more = record { budget = budget; few = fits }

    kept_then : KeptCounts (more_of 1 (fixed_of s)) 0 0 (written_state_of new_own q)
    kept_then = subst (λ (t : State). KeptCounts (more_of 1 (fixed_of s)) 0 0 t) (sym state_is) (late_kept moment x s one_more (record { counted = posting.holds.counted; within = posting.holds.within }))

    held_then : (other : List ℕ) → IsPosting moment journal other own p → PipelineInvariantAt moment journal'.undo.gone.items other new_own q
    held_then other again =
        let h = again.holds in
        let wait = own.section.tail_sampling.decision_wait in
        let all_fits = fits_same (grouped Undecided moment (x ∷ []) (counted_in s)) (written_state_of new_own q) state_is (late_fits moment x s one_more (record { counted = h.counted; within = h.within })) in
        let sound = sound_q n pend other (ready.sound other h.sound) in
        let same : (k : ℕ) → count k (journal'.undo.gone.items ++ b.spans) ≡ count k (pend ++ key ∷ []) = λ k.
        let made = all k in
        let front = count-append k journal'.undo.gone.items b.spans in
        let back' = count-append k pend (key ∷ []) in
        let mid' = count-append k gone own.batcher.spans in
        omega (arith, made, front, back', mid') in
        let rows : (written_state_of new_own q).waiting ≡ s.waiting = ap (λ (ws : List (WaitingRow TraceNote)). map waiting_of ws) waiting_same in
        record {
          sound = pending_same n (pend ++ key ∷ []) (journal'.undo.gone.items ++ b.spans) other q same sound;
          first_is = h.first_is;
          noted = subst (λ (ws : List (WaitingRow TraceNote)). AllByRecursion (IsNoted (policies_of own)) ws) (sym waiting_same) h.noted;
          rules_are = groups.rules_are ∙ h.rules_are;
          order = subst (AreInOrder moment) (sym rows) h.order;
          due_by = subst (AllDueBy (moment + wait)) (sym rows) h.due_by;
          timer = from_after moment (next_due b) groups.timer;
          counted = all_fits.counted;
          within = all_fits.within;
          few = let k = kept_then in let few = h.few in omega (arith, few);
          clock_by = h.clock_by;
          reached_fits = h.reached_fits;
          unsent_is = h.unsent_is;
        }

    posting_then : (other : List ℕ) → IsPosting moment journal other own p → IsPosting moment journal' other new q
    posting_then other again = record {
      holds = subst (λ (o : Pipeline). PipelineInvariantAt moment journal'.undo.gone.items other o q) (sym groups.same) (held_then other again);
      quiet = groups.timer;
      offers = offers;
    }

    pub late_came : Came (λ (t : State). grouped Undecided moment (x ∷ []) (counted_in t)) moment journal journal' own new p q
    late_came = record {
      rules = subst (λ (o : Pipeline). written_state_of o q ≡ grouped Undecided moment (x ∷ []) (counted_in s)) (sym groups.same) state_is;
      posting = posting_then;
      texts = λ other again ks among. ap (λ (f : ℕ → Option CountedText). origin_at (text_at f) ks) change.texts ∙ ready.origin other again.holds.sound ks among;
      counted_by = let k = kept_then in omega arith;
    }

-- ---- a span of a row that isn't

module _ (own : Pipeline) (p : Part TraceNote) (moment : ℕ) (fits : counted own.ledger + 1 ≤ most_counted) (budget : own.ledger.places.undecided + own.ledger.places.pending < own.section.max_spans) where
  -- the tenant's own then
  abbrev pub lost_own : Pipeline
  lost_own = record own { ledger = moved Undecided NotSampled 1 (taken 1 own.ledger) }

  pub lost_came : (journal journal' : Journal) → journal'.undo ≡ journal.undo → Came (λ (t : State). recount Undecided NotSampled 1 (counted_in t)) moment journal journal' own lost_own p p
  lost_came journal journal' undo_is =
      let s : State = written_state_of own p in
      record {
        rules = refl;
        posting = λ other posting.
            let h = posting.holds in
            let all = lost_fits s (record { budget = budget; few = fits }) (record { counted = h.counted; within = h.within }) in
            let holds : PipelineInvariantAt moment journal.undo.gone.items other lost_own p = record {
              sound = h.sound;
              first_is = h.first_is;
              noted = h.noted;
              rules_are = h.rules_are;
              order = h.order;
              due_by = h.due_by;
              timer = h.timer;
              counted = all.counted;
              within = all.within;
              few = let few = h.few in omega (arith, few);
              clock_by = h.clock_by;
              reached_fits = h.reached_fits;
              unsent_is = h.unsent_is;
            } in
            let moved_posting : IsPosting moment journal' other lost_own p = record {
              holds = subst (λ (u : Undo). PipelineInvariantAt moment u.gone.items other lost_own p) (sym undo_is) holds;
              quiet = posting.quiet;
              offers = let same = ap (λ (u : Undo). u.offers) undo_is in let few = posting.offers in omega (arith, same, few);
            } in
            moved_posting;
        texts = λ other posting ks among. refl;
        counted_by = omega arith;
      }
