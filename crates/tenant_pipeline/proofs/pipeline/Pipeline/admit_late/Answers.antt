use Rattle.std.proofs.Common.{◌≡◌, ◌+◌, ◌≤◌, ◌++◌, ◌∙◌, ℕ, List, [], ◌∷◌, length, sym, ap, subst, Result, Ok, Err}
use Rattle.std.specs.Result.{OnOk, OnErr}
use Rattle.decision_cache.specs.Caches.{CachesData}
use Rattle.drop_ledger.specs.Ledger.{LedgerData, taken}
use Rattle.drop_ledger.specs.declared.places.Place.TheVariants.{Undecided}
use Rattle.span_pool.specs.Stored.{texts_of}
use Rattle.span_pool.specs.declared.keys.TextKeys.{TextKeys}
use Rattle.tail_policy.specs.declared.note.TraceNote.{TraceNote}
use Rattle.tenant_stores.specs.declared.undo.UndoEntry.{UndoEntry}
use Rattle.tenant_stores.specs.declared.undo.UndoEntry.TheVariants.{Late}
use Rattle.tenant_stores.specs.Changes.{ReleasesAll, Waits}
use Rattle.tenant_stores.specs.Counts.{Counts, count}
use Rattle.tenant_stores.specs.Part.{Part, part}
use Rattle.tenant_stores.specs.Shows.{AreAmong, with_late}
use Rattle.tenant_stores.specs.Invariant.{StoreInvariant}
use Rattle.tenant_stores.specs.Trail.{Trail}
use Rattle.tenant_stores.specs.View.{text_at, text_keys, view}
use Rattle.tenant_rules.specs.Machine.{counted_in}
use Rattle.tenant_rules.specs.State.{State}
use Rattle.tenant_rules.specs.Timers.{grouped}
use Rattle.tenant_pipeline.specs.declared.pipeline.Pipeline.{Pipeline}
use Rattle.tenant_pipeline.specs.declared.journal.Journal.{Journal}
use Rattle.tenant_pipeline.specs.StateIn.{counts_in}
use Rattle.tenant_pipeline.specs.Outbox.{AreThere, Groups}
use Rattle.tenant_pipeline.specs.Posts.{arrival_at, Came, IsWritten}
use Rattle.tenant_pipeline.specs.Undo.{hits_undone}
use Rattle.tenant_pipeline.proofs.Hits.{back_over}
use Rattle.tenant_pipeline.proofs.Late.{late_came, late_pending, late_there}
use Rattle.tenant_pipeline.proofs.Placing.{IsKeyed, IsReady, given_back, ready_now, takes_back, trail_more}
use Rattle.tenant_pipeline.proofs.pipeline.Pipeline.admit_late.Goals as goal

both_ok : {T E P Q R : Type 0} (r : Result T E) → OnOk r P → OnOk r Q → (P → Q → R) → OnOk r R
both_ok (Ok x) p q f = f p q
both_ok (Err x) p q f = tt

-- what holds whatever the result
either : {T E P Q R : Type 0} (r : Result T E) → OnOk r P → OnErr r Q → (P → R) → (Q → R) → R
either (Ok x) p q f g = f p
either (Err x) p q f g = g q

pub returns-in_err-keyed-clause-written : goal.returns-in_err-keyed-clause-written
returns-in_err-keyed-clause-written c = λ start first written.
    let own = c.args.self.now in
    let coming = c.requires.coming in
    let same = c.in_err-keyed.ensures.on_refusal (counts_in own) (c.args.journal.now.undo.gone.items ++ own.batcher.spans) coming.0 coming.1.among coming.1.posting.holds.sound in
    subst (λ (x : Part TraceNote). IsWritten c.args.journal.now start own first x) (sym same) written

pub group-requires-clause-pending : goal.group-requires-clause-pending
group-requires-clause-pending c =
    let own = c.args.self.now in
    let t = own.tenant in
    let S1 = c.keyed.new.stores in
    let S2 = c.keep_late.new.self in
    let p = part t c.args.stores.now in
    let mid = part t S1 in
    let journal = c.args.journal.now in
    let coming = c.requires.coming in
    let text = c.args.span.now.text in
    let k = c.in_ok-keyed.keyed in
    let e = c.in_ok-keyed.ensures in
    let keyed : IsKeyed c.args.keys.now.keys text p mid k = record { text_is = e.text; holds = e.uses_added; sound = e.store_invariant; origin = e.texts; shows = e.shows; stay = e.stay } in
    let ready : IsReady own p mid journal c.args.keys.now.keys text k = ready_now own p mid c.args.moment journal c.args.keys.now.keys text coming.0 k coming.1.posting coming.1.among keyed in
    let change = subst (λ (u : ℕ). Waits c.in-Ok.key k (part u S1) (part u S2)) e.owner c.in-Ok.ensures.own_part in
    let sound = subst (λ (u : ℕ). (n : Counts) (pending others : List ℕ) → StoreInvariant n pending (text_keys k.keys ++ others) (part u S1) → StoreInvariant n (pending ++ c.in-Ok.key ∷ []) others (part u S2)) e.owner c.in-Ok.ensures.store_invariant in
    let shows = subst (λ (u : ℕ). (n : Counts) (pending others shown : List ℕ) → StoreInvariant n pending others (part u S1) → AreAmong shown pending →
    view n (shown ++ c.in-Ok.key ∷ []) (part u S2) ≡ with_late (texts_of (text_at (part u S1).texts) k) (view n shown (part u S1))) e.owner c.in-Ok.ensures.shows in
    ap (λ (l : LedgerData). l.places.pending) c.take.ensures
    ∙ late_pending own p mid (part t S2) c.args.moment journal c.args.keys.now.keys text coming.0 coming.1.posting k ready c.in-Ok.key change sound shows c.requires.fits c.requires.budget

pub group-requires-clause-there : goal.group-requires-clause-there
group-requires-clause-there c =
    let own = c.args.self.now in
    let t = own.tenant in
    let S1 = c.keyed.new.stores in
    let S2 = c.keep_late.new.self in
    let p = part t c.args.stores.now in
    let mid = part t S1 in
    let journal = c.args.journal.now in
    let coming = c.requires.coming in
    let text = c.args.span.now.text in
    let k = c.in_ok-keyed.keyed in
    let e = c.in_ok-keyed.ensures in
    let keyed : IsKeyed c.args.keys.now.keys text p mid k = record { text_is = e.text; holds = e.uses_added; sound = e.store_invariant; origin = e.texts; shows = e.shows; stay = e.stay } in
    let ready : IsReady own p mid journal c.args.keys.now.keys text k = ready_now own p mid c.args.moment journal c.args.keys.now.keys text coming.0 k coming.1.posting coming.1.among keyed in
    let change = subst (λ (u : ℕ). Waits c.in-Ok.key k (part u S1) (part u S2)) e.owner c.in-Ok.ensures.own_part in
    let sound = subst (λ (u : ℕ). (n : Counts) (pending others : List ℕ) → StoreInvariant n pending (text_keys k.keys ++ others) (part u S1) → StoreInvariant n (pending ++ c.in-Ok.key ∷ []) others (part u S2)) e.owner c.in-Ok.ensures.store_invariant in
    let shows = subst (λ (u : ℕ). (n : Counts) (pending others shown : List ℕ) → StoreInvariant n pending others (part u S1) → AreAmong shown pending →
    view n (shown ++ c.in-Ok.key ∷ []) (part u S2) ≡ with_late (texts_of (text_at (part u S1).texts) k) (view n shown (part u S1))) e.owner c.in-Ok.ensures.shows in
    subst (λ (ks : List ℕ). AreThere (part t S2) (own.batcher.spans ++ ks)) (sym c.as_slice.ensures)
    (late_there own p mid (part t S2) c.args.moment journal c.args.keys.now.keys text coming.0 coming.1.posting k ready c.in-Ok.key change sound shows c.requires.fits c.requires.budget)

pub returns-in-Ok-clause-came : goal.returns-in-Ok-clause-came
returns-in-Ok-clause-came c =
    let own = c.args.self.now in
    let new = c.group.new.self in
    let t = own.tenant in
    let S1 = c.keyed.new.stores in
    let S2 = c.keep_late.new.self in
    let p = part t c.args.stores.now in
    let mid = part t S1 in
    let q = part t S2 in
    let m = c.args.moment in
    let journal = c.args.journal.now in
    let coming = c.requires.coming in
    let text = c.args.span.now.text in
    let key = c.in-Ok.key in
    let k = c.in_ok-keyed.keyed in
    let e = c.in_ok-keyed.ensures in
    let keyed : IsKeyed c.args.keys.now.keys text p mid k = record { text_is = e.text; holds = e.uses_added; sound = e.store_invariant; origin = e.texts; shows = e.shows; stay = e.stay } in
    let ready : IsReady own p mid journal c.args.keys.now.keys text k = ready_now own p mid m journal c.args.keys.now.keys text coming.0 k coming.1.posting coming.1.among keyed in
    let change = subst (λ (u : ℕ). Waits key k (part u S1) (part u S2)) e.owner c.in-Ok.ensures.own_part in
    let sound = subst (λ (u : ℕ). (n : Counts) (pending others : List ℕ) → StoreInvariant n pending (text_keys k.keys ++ others) (part u S1) → StoreInvariant n (pending ++ key ∷ []) others (part u S2)) e.owner c.in-Ok.ensures.store_invariant in
    let shows = subst (λ (u : ℕ). (n : Counts) (pending others shown : List ℕ) → StoreInvariant n pending others (part u S1) → AreAmong shown pending →
    view n (shown ++ key ∷ []) (part u S2) ≡ with_late (texts_of (text_at (part u S1).texts) k) (view n shown (part u S1))) e.owner c.in-Ok.ensures.shows in
    let counted_own : Pipeline = record own { ledger = taken 1 own.ledger } in
    let taken_own : Pipeline = record own { ledger = c.take.new.self } in
    let journal' : Journal = record { placed = c.push_reserved.new.self; undo = c.group.new.undo; hits = journal.hits } in
    let r = c.group.result in
    let groups = subst (λ (l : LedgerData). let o : Pipeline = record own { ledger = l } in OnOk r (Groups m (key ∷ []) q o new)) c.take.ensures
    (subst (λ (ks : List ℕ). OnOk r (Groups m ks q taken_own new)) c.as_slice.ensures c.group.ensures.on_success) in
    let all = subst (λ (ks : List ℕ). OnOk r ((j : ℕ) → count j c.group.new.undo.gone.items + count j new.batcher.spans ≡ count j journal.undo.gone.items + (count j own.batcher.spans + count j ks))) c.as_slice.ensures c.group.ensures.gone in
    both_ok r groups all (λ (g : Groups m (key ∷ []) q counted_own new) (a : (j : ℕ) → count j c.group.new.undo.gone.items + count j new.batcher.spans ≡ count j journal.undo.gone.items + (count j own.batcher.spans + count j (key ∷ []))).
    let tenant : new.tenant ≡ t = ap (λ (o : Pipeline). o.tenant) g.same in
    subst (λ (u : ℕ). Came (λ (s : State). grouped Undecided m (arrival_at p c.args.keys.now.keys text ∷ []) (counted_in s)) m journal journal' own new p (part u S2)) (sym tenant)
    (late_came own p mid q m journal c.args.keys.now.keys text coming.0 coming.1.posting k ready key change sound shows c.requires.fits c.requires.budget new journal' g a c.group.ensures.offers))

pub returns-in-Ok-clause-written : goal.returns-in-Ok-clause-written
returns-in-Ok-clause-written c = λ start first written.
    let own = c.args.self.now in
    let new = c.group.new.self in
    let t = own.tenant in
    let S1 = c.keyed.new.stores in
    let S2 = c.keep_late.new.self in
    let p = part t c.args.stores.now in
    let mid = part t S1 in
    let q = part t S2 in
    let journal = c.args.journal.now in
    let coming = c.requires.coming in
    let key = c.in-Ok.key in
    let k = c.in_ok-keyed.keyed in
    let e = c.in_ok-keyed.ensures in
    let holds = e.uses_added (counts_in own) (journal.undo.gone.items ++ own.batcher.spans) coming.0 coming.1.among coming.1.posting.holds.sound in
    let change = subst (λ (u : ℕ). Waits key k (part u S1) (part u S2)) e.owner c.in-Ok.ensures.own_part in
    let taken_own : Pipeline = record own { ledger = c.take.new.self } in
    let tenant : new.tenant ≡ t =
    either c.group.result c.group.ensures.on_success c.group.ensures.on_refusal (λ (g : Groups c.args.moment c.as_slice.result.now q taken_own new). ap (λ (o : Pipeline). o.tenant) g.same) (λ (is : new ≡ taken_own). ap (λ (o : Pipeline). o.tenant) is) in
    let caches : new.caches ≡ own.caches =
    either c.group.result c.group.ensures.on_success c.group.ensures.on_refusal (λ (g : Groups c.args.moment c.as_slice.result.now q taken_own new). ap (λ (o : Pipeline). o.caches) g.same) (λ (is : new ≡ taken_own). ap (λ (o : Pipeline). o.caches) is) in
    let journal' : Journal = record { placed = c.push_reserved.new.self; undo = c.group.new.undo; hits = journal.hits } in
    let done : IsWritten journal' start new first q = record {
      trail = subst (λ (xs : List (UndoEntry TraceNote)). Trail first xs q) (sym c.push_reserved.ensures.items)
          (trail_more first p q journal.placed.items (Late key) written.trail (k, mid, holds, change));
      undo = back_over journal.hits journal.undo c.group.new.undo start taken_own new c.group.ensures.back
          (takes_back journal.undo start (hits_undone journal.hits own) own.rows c.take.new.self written.undo);
      hits = subst (λ (k : CachesData). journal.hits ≤ length k.hits) (sym caches) written.hits;
    } in
    subst (λ (u : ℕ). IsWritten journal' start new first (part u S2)) (sym tenant) done

pub returns-in-Ok-clause-caches : goal.returns-in-Ok-clause-caches
returns-in-Ok-clause-caches c =
    let own = c.args.self.now in
    let new = c.group.new.self in
    let q = part own.tenant c.keep_late.new.self in
    let taken_own : Pipeline = record own { ledger = c.take.new.self } in
    either c.group.result c.group.ensures.on_success c.group.ensures.on_refusal (λ (g : Groups c.args.moment c.as_slice.result.now q taken_own new). ap (λ (o : Pipeline). o.caches) g.same) (λ (is : new ≡ taken_own). ap (λ (o : Pipeline). o.caches) is)

pub returns-in-Ok-clause-others_unchanged : goal.returns-in-Ok-clause-others_unchanged
returns-in-Ok-clause-others_unchanged c = λ other ne.
    c.keep_late.ensures.others_unchanged other (λ (is : other ≡ c.in_ok-keyed.keyed.owner). ne (is ∙ c.in_ok-keyed.ensures.owner)) ∙ c.keyed.ensures.others_unchanged other ne

pub returns-in-Err-clause-written : goal.returns-in-Err-clause-written
returns-in-Err-clause-written c = λ start first written.
    let own = c.args.self.now in
    let t = own.tenant in
    let S1 = c.keyed.new.stores in
    let p = part t c.args.stores.now in
    let mid = part t S1 in
    let r = part t c.release_all.new.self in
    let coming = c.requires.coming in
    let k = c.in_ok-keyed.keyed in
    let e = c.in_ok-keyed.ensures in
    let holds = e.uses_added (counts_in own) (c.args.journal.now.undo.gone.items ++ own.batcher.spans) coming.0 coming.1.among coming.1.posting.holds.sound in
    let refused : part t c.keep_late.new.self ≡ mid = subst (λ (u : ℕ). part u c.keep_late.new.self ≡ part u S1) e.owner c.in-Err.ensures.on_refusal in
    let back = subst (λ (x : Part TraceNote). ReleasesAll (text_keys k.keys) x r) refused (subst (λ (ks : TextKeys). ReleasesAll (text_keys ks) (part t c.keep_late.new.self) r) c.keys-held.ensures c.release_all.ensures.uses_removed) in
    subst (λ (x : Part TraceNote). IsWritten c.args.journal.now start own first x) (sym (given_back (text_keys k.keys) p mid r holds back)) written

pub returns-in-Err-clause-others_unchanged : goal.returns-in-Err-clause-others_unchanged
returns-in-Err-clause-others_unchanged c = λ other ne.
    c.release_all.ensures.others_unchanged other ne
    ∙ (c.keep_late.ensures.others_unchanged other (λ (is : other ≡ c.in_ok-keyed.keyed.owner). ne (is ∙ c.in_ok-keyed.ensures.owner)) ∙ c.keyed.ensures.others_unchanged other ne)
