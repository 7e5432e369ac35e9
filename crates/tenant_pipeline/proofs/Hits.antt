-- A tenant's caches: what their hits and decisions change of it, and how hits are taken back.
use Rattle.std.proofs.Common.{◌≡◌, ◌+◌, ◌++◌, ◌∙◌, ℕ, List, [], ◌∷◌, length, take, refl, sym, ap, subst, arith, Bool, true}
use Rattle.std.proofs.Math.Seq.{take-length}
use Rattle.std.proofs.lemmas.List.{length-append, take-append-le}
use Rattle.decision_cache.specs.Caches.{BothData, CachesData, noted_in, shown}
use Rattle.drop_ledger.specs.declared.places.Place.TheVariants.{Undecided}
use Rattle.tail_policy.specs.declared.note.TraceNote.{TraceNote}
use Rattle.tenant_stores.specs.declared.undo.UndoEntry.{UndoEntry}
use Rattle.tenant_stores.specs.Part.{Part}
use Rattle.tenant_stores.specs.Trail.{Trail}
use Rattle.tenant_rules.specs.Arrivals.{Arrival}
use Rattle.tenant_rules.specs.Limits.{IsWithinLimits}
use Rattle.tenant_rules.specs.State.{State}
use Rattle.tenant_rules.specs.Timers.{grouped, remembered}
use Rattle.tenant_rules.proofs.Fronts.{grouped_remembered}
use Rattle.tenant_rules.proofs.Limits.{remembered_stay_within}
use Rattle.tenant_pipeline.specs.declared.journal.Journal.{Journal}
use Rattle.tenant_pipeline.specs.declared.pipeline.Pipeline.{Pipeline}
use Rattle.tenant_pipeline.specs.declared.undo.Undo.{Undo}
use Rattle.tenant_pipeline.specs.StateIn.{written_state_of}
use Rattle.tenant_pipeline.specs.Invariant.{PipelineInvariantAt}
use Rattle.tenant_pipeline.specs.Posts.{Came, IsPosting, IsSameTenant, IsWritten}
use Rattle.tenant_pipeline.specs.Undo.{TakesBack, hits_undone}

module _ (own : Pipeline) (p : Part TraceNote) (caches : CachesData) where
  -- the tenant's own with other caches
  abbrev pub cached_own : Pipeline
  cached_own = record own { caches = caches }

  cached_held : (reached : ℕ) (gone held : List ℕ) → IsWithinLimits (written_state_of cached_own p) → PipelineInvariantAt reached gone held own p → PipelineInvariantAt reached gone held cached_own p
  cached_held reached gone held within h =
      let c = h.counted in
      record {
        sound = h.sound;
        first_is = h.first_is;
        noted = h.noted;
        rules_are = h.rules_are;
        order = h.order;
        due_by = h.due_by;
        timer = h.timer;
        counted = record {
          sound = c.sound;
          undecided_is = c.undecided_is;
          pending_is = c.pending_is;
          queued_is = c.queued_is;
          active_is = c.active_is;
          within_budget = c.within_budget;
        };
        within = within;
        few = h.few;
        clock_by = h.clock_by;
        reached_fits = h.reached_fits;
        unsent_is = h.unsent_is;
      }

  -- shown as before
  module _ (same : shown caches ≡ shown own.caches) where
    pub shown_is : written_state_of cached_own p ≡ written_state_of own p
    shown_is = ap (λ (k : BothData). let t : State = record (written_state_of own p) { caches = k } in t) same

    pub shown_held : (reached : ℕ) (gone held : List ℕ) → PipelineInvariantAt reached gone held own p → PipelineInvariantAt reached gone held cached_own p
    shown_held reached gone held h = cached_held reached gone held (subst (λ (s : State). IsWithinLimits s) (sym shown_is) h.within) h

  -- with an event more
  module _ (sampled : Bool) (trace : List ℕ) (noted : shown caches ≡ noted_in sampled trace (shown own.caches)) where
    pub noted_is : written_state_of cached_own p ≡ remembered sampled trace (written_state_of own p)
    noted_is = ap (λ (k : BothData). let t : State = record (written_state_of own p) { caches = k } in t) noted

    noted_held : (reached : ℕ) (gone held : List ℕ) → PipelineInvariantAt reached gone held own p → PipelineInvariantAt reached gone held cached_own p
    noted_held reached gone held h =
        cached_held reached gone held (subst (λ (s : State). IsWithinLimits s) (sym noted_is) (remembered_stay_within sampled trace (written_state_of own p) h.within)) h

    noted_posting : (moment : ℕ) (journal : Journal) (held : List ℕ) → IsPosting moment journal held own p → IsPosting moment journal held cached_own p
    noted_posting moment journal held posting = record {
      holds = noted_held moment journal.undo.gone.items held posting.holds;
      quiet = posting.quiet;
      offers = posting.offers;
    }

    -- the event comes before what becomes of the span
    pub came_after : (change other : State → State) (moment : ℕ) (journal journal' : Journal) (new : Pipeline) (q : Part TraceNote) →
        change (remembered sampled trace (written_state_of own p)) ≡ other (written_state_of own p) →
        Came change moment journal journal' cached_own new p q → Came other moment journal journal' own new p q
    came_after change other moment journal journal' new q is came = record {
      rules = came.rules ∙ (ap change noted_is ∙ is);
      posting = λ held posting. came.posting held (noted_posting moment journal held posting);
      texts = λ held posting ks among. came.texts held (noted_posting moment journal held posting) ks among;
      counted_by = came.counted_by;
    }

    -- or after it
    pub came_before : (change other : State → State) (moment : ℕ) (journal journal' : Journal) (old : Pipeline) (o : Part TraceNote) →
        remembered sampled trace (change (written_state_of old o)) ≡ other (written_state_of old o) →
        Came change moment journal journal' old own o p → Came other moment journal journal' old cached_own o p
    came_before change other moment journal journal' old o is came = record {
      rules = noted_is ∙ (ap (remembered sampled trace) came.rules ∙ is);
      posting = λ held posting. noted_posting moment journal' held (came.posting held posting);
      texts = came.texts;
      counted_by = came.counted_by;
    }

-- of a trace that was sampled the span waits for a batch, whichever is first
pub group_hits : (moment : ℕ) (x : Arrival) (trace : List ℕ) (s : State) → remembered true trace (grouped Undecided moment (x ∷ []) s) ≡ grouped Undecided moment (x ∷ []) (remembered true trace s)
group_hits moment x trace s = sym (grouped_remembered Undecided moment (x ∷ []) true trace s)

-- the tenant is the same with other caches
pub same_cached : (old own : Pipeline) (caches : CachesData) → IsSameTenant old own → IsSameTenant old (record own { caches = caches })
same_cached old own caches same = record { tenant = same.tenant; section = same.section; clock = same.clock; drained = same.drained }

-- ---- what is taken back

-- nothing else depends on the caches
swapped : (u : Undo) (start own : Pipeline) (caches : CachesData) → TakesBack u start (record own { caches = caches }) → TakesBack u (record start { caches = own.caches }) own
swapped u start own caches back = record {
  rows = back.rows;
  ledger = back.ledger;
  batcher = back.batcher;
  mark = back.mark;
  sender = back.sender;
  offers = back.offers;
  same = ap (λ (x : Pipeline). let y : Pipeline = record x { caches = own.caches } in y) back.same;
}

-- what can be taken back with all hits can be with the first ones
pub back_over : (n : ℕ) (u v : Undo) (start own new : Pipeline) → ((s : Pipeline) → TakesBack u s own → TakesBack v s new) → TakesBack u start (hits_undone n own) → TakesBack v start (hits_undone n new)
back_over n u v start own new over back =
    let left : CachesData = record (own.caches) { hits = take n own.caches.hits } in
    let mid : Pipeline = record start { caches = own.caches } in
    let b = over mid (swapped u start own left back) in
    let same : own.caches ≡ new.caches = ap (λ (x : Pipeline). x.caches) b.same in
    let first : start.caches ≡ record (new.caches) { hits = take n new.caches.hits } =
    ap (λ (x : Pipeline). x.caches) back.same ∙ ap (λ (k : CachesData). let c : CachesData = record k { hits = take n k.hits } in c) same in
    record {
      rows = b.rows;
      ledger = b.ledger;
      batcher = b.batcher;
      mark = b.mark;
      sender = b.sender;
      offers = b.offers;
      same = ap (λ (x : Pipeline). let y : Pipeline = record x { caches = start.caches } in y) b.same
          ∙ ap (λ (k : CachesData). let y : Pipeline = record new { rows = start.rows; ledger = start.ledger; batcher = start.batcher; sender = start.sender; caches = k } in y) first;
    }

-- at the start of a post
pub none_written : (journal : Journal) (own : Pipeline) (p : Part TraceNote) → journal.placed.items ≡ [] → TakesBack journal.undo own own → journal.hits ≡ length own.caches.hits → IsWritten journal own own p p
none_written journal own p none back hits =
    let all : take journal.hits own.caches.hits ≡ own.caches.hits = ap (λ (n : ℕ). take n own.caches.hits) hits ∙ take-length own.caches.hits in
    let same : hits_undone journal.hits own ≡ own = ap (λ (hs : List (List ℕ × Bool)). let y : Pipeline = record own { caches = record (own.caches) { hits = hs } } in y) all in
    record {
      trail = subst (λ (placed : List (UndoEntry TraceNote)). Trail p placed p) (sym none) refl;
      undo = subst (λ (o : Pipeline). TakesBack journal.undo own o) (sym same) back;
      hits = omega (arith, hits);
    }

-- a hit more can be taken back
pub hit_written : (journal : Journal) (start own : Pipeline) (first p : Part TraceNote) (hit : List ℕ × Bool) (caches : CachesData) → caches ≡ record (own.caches) { hits = own.caches.hits ++ hit ∷ [] } →
    IsWritten journal start own first p → IsWritten journal start (record own { caches = caches }) first p
hit_written journal start own first p hit caches is written =
    let n = journal.hits in
    let few = written.hits in
    let cut : record caches { hits = take n caches.hits } ≡ record (own.caches) { hits = take n own.caches.hits } =
    ap (λ (k : CachesData). let c : CachesData = record k { hits = take n k.hits } in c) is
    ∙ ap (λ (hs : List (List ℕ × Bool)). let c : CachesData = record (own.caches) { hits = hs } in c) (take-append-le n own.caches.hits (hit ∷ []) few) in
    let size : length caches.hits ≡ length own.caches.hits + 1 = ap (λ (k : CachesData). length k.hits) is ∙ length-append own.caches.hits (hit ∷ []) in
    record {
      trail = written.trail;
      undo = subst (λ (k : CachesData). let o : Pipeline = record own { caches = k } in TakesBack journal.undo start o) (sym cut) written.undo;
      hits = omega (arith, few, size);
    }

-- what groups changed is taken back where the caches are as they were
pub back_to : (own mid new : Pipeline) (undo : Undo) (caches : CachesData) → caches ≡ mid.caches → TakesBack undo own mid →
    ((start : Pipeline) → TakesBack undo start (record mid { caches = caches }) → new ≡ start) → new ≡ own
back_to own mid new undo caches same back over =
    over own (subst (λ (k : CachesData). let o : Pipeline = record mid { caches = k } in TakesBack undo own o) (sym same) back)
