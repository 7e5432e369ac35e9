use Rattle.std.proofs.Common.{◌≡◌, ◌<◌, ◌≤◌, ◌++◌, ◌∙◌, ℕ, List, refl, sym, ap, subst, Option, Some, None}
use Rattle.drop_ledger.specs.Ledger.{LedgerData}
use Rattle.span_pool.specs.Stored.{texts_of}
use Rattle.span_pool.specs.declared.keys.TextKeys.{TextKeys}
use Rattle.tail_policy.specs.declared.note.TraceNote.{TraceNote}
use Rattle.tail_policy.specs.Note as notes
use Rattle.trace_rows.specs.declared.table.Row.{Row}
use Rattle.trace_rows.specs.Part as rows
use Rattle.tenant_stores.specs.declared.undo.UndoEntry.{UndoEntry}
use Rattle.tenant_stores.specs.declared.undo.UndoEntry.TheVariants.{Joined}
use Rattle.tenant_stores.specs.Changes.{Joins, ReleasesAll}
use Rattle.tenant_stores.specs.Counts.{Counts}
use Rattle.tenant_stores.specs.Part.{Part, part}
use Rattle.tenant_stores.specs.Shows.{AreAmong, with_joined}
use Rattle.tenant_stores.specs.Invariant.{StoreInvariant}
use Rattle.tenant_stores.specs.Trail.{Trail}
use Rattle.tenant_stores.specs.View.{text_at, text_keys, view}
use Rattle.tenant_stores.proofs.Seats.{seat_shows}
use Rattle.tenant_rules.specs.Machine.{joins, counted_in}
use Rattle.tenant_rules.specs.State.{State}
use Rattle.tenant_pipeline.specs.declared.pipeline.Pipeline.{Pipeline}
use Rattle.tenant_pipeline.specs.declared.journal.Journal.{Journal}
use Rattle.tenant_pipeline.specs.StateIn.{counts_in}
use Rattle.tenant_pipeline.specs.Posts.{arrival_at, note_in, Came, IsWritten}
use Rattle.tenant_pipeline.specs.Undo.{hits_undone}
use Rattle.tenant_pipeline.proofs.Joins.{join_came}
use Rattle.tenant_pipeline.proofs.Lasts.{joined_last}
use Rattle.tenant_pipeline.proofs.Placing.{IsKeyed, IsReady, given_back, ready_now, takes_back, trail_more}
use Rattle.tenant_pipeline.proofs.pipeline.Pipeline.join.Goals as goal

pub unreachable-requires : goal.unreachable-requires
unreachable-requires c =
    let own = c.args.self.now in
    let p = part own.tenant c.args.stores.now in
    let coming = c.requires.coming in
    let shows = (seat_shows (counts_in own) (c.args.journal.now.undo.gone.items ++ own.batcher.spans) coming.0 p c.args.span.now.trace coming.1.posting.holds.sound).waits c.args.number c.requires.latest_row c.requires.waits in
    let clash : Path (Option TraceNote) None (Some shows.row.note) = c.in_default.ensures ∙ ap note_in shows.there in
    absurd (cc)

pub returns-in_err-keyed-clause-written : goal.returns-in_err-keyed-clause-written
returns-in_err-keyed-clause-written c = λ start first written.
    let own = c.args.self.now in
    let coming = c.requires.coming in
    let same = c.in_err-keyed.ensures.on_refusal (counts_in own) (c.args.journal.now.undo.gone.items ++ own.batcher.spans) coming.0 coming.1.among coming.1.posting.holds.sound in
    subst (λ (x : Part TraceNote). IsWritten c.args.journal.now start own first x) (sym same) written

pub returns-in-Ok-clause-came : goal.returns-in-Ok-clause-came
returns-in-Ok-clause-came c =
    let own = c.args.self.now in
    let t = own.tenant in
    let S1 = c.keyed.new.stores in
    let S2 = c.join.new.self in
    let p = part t c.args.stores.now in
    let mid = part t S1 in
    let q = part t S2 in
    let journal = c.args.journal.now in
    let coming = c.requires.coming in
    let span = c.args.span.now in
    let k = c.in_ok-keyed.keyed in
    let e = c.in_ok-keyed.ensures in
    let keyed : IsKeyed c.args.keys.now.keys span.text p mid k = record { text_is = e.text; holds = e.uses_added; sound = e.store_invariant; origin = e.texts; shows = e.shows; stay = e.stay } in
    let ready : IsReady own p mid journal c.args.keys.now.keys span.text k = ready_now own p mid c.args.moment journal c.args.keys.now.keys span.text coming.0 k coming.1.posting coming.1.among keyed in
    let note = c.joined-note.result in
    let change = subst (λ (u : ℕ). Joins c.args.number c.in-Ok.joining.key k note (part u S1) (part u S2)) e.owner c.in-Ok.ensures.own_part in
    let sound = subst (λ (u : ℕ). (n : Counts) (pending others : List ℕ) → n.decided < c.args.number → c.args.number ≤ n.opened → StoreInvariant n pending (text_keys k.keys ++ others) (part u S1) → StoreInvariant n pending others (part u S2)) e.owner c.in-Ok.ensures.store_invariant in
    let shows = subst (λ (u : ℕ). (n : Counts) (pending others shown trace : List ℕ) → StoreInvariant n pending others (part u S1) → AreAmong shown pending → (part u S1).latest_rows trace ≡ Some c.args.number → n.decided < c.args.number →
    view n shown (part u S2) ≡ with_joined trace (texts_of (text_at (part u S1).texts) k) note (view n shown (part u S1))) e.owner c.in-Ok.ensures.shows in
    let journal' : Journal = record { placed = c.push_reserved.new.self; undo = journal.undo; hits = journal.hits } in
    let seated = (seat_shows (counts_in own) (journal.undo.gone.items ++ own.batcher.spans) coming.0 p c.args.span.now.trace coming.1.posting.holds.sound).waits c.args.number c.requires.latest_row c.requires.waits in
    let noted : Path (Option TraceNote) (Some c.in-Some.former) (Some seated.row.note) = c.in-Some.ensures ∙ ap note_in seated.there in
    let former : c.in-Some.former ≡ seated.row.note = cc in
    let came = join_came own p mid q c.args.moment journal c.args.keys.now.keys span coming.0 coming.1 k ready c.args.number c.in-Ok.joining.key note seated.row
    c.requires.latest_row c.requires.waits seated.there (c.joined-note.ensures ∙ ap (λ (n : TraceNote). notes.joined n span.note) former) change sound shows c.requires.fits c.requires.budget journal' refl in
    subst (λ (l : LedgerData). let o : Pipeline = record own { ledger = l } in Came (λ (s : State). joins (arrival_at p c.args.keys.now.keys span.text) (counted_in s)) c.args.moment journal journal' own o p q) (sym c.take.ensures) came

pub returns-in-Ok-clause-last : goal.returns-in-Ok-clause-last
returns-in-Ok-clause-last c =
    let own = c.args.self.now in
    let t = own.tenant in
    let p = part t c.args.stores.now in
    let S1 = c.keyed.new.stores in
    let S2 = c.join.new.self in
    let coming = c.requires.coming in
    let k = c.in_ok-keyed.keyed in
    let e = c.in_ok-keyed.ensures in
    let seated = (seat_shows (counts_in own) (c.args.journal.now.undo.gone.items ++ own.batcher.spans) coming.0 p c.args.span.now.trace coming.1.posting.holds.sound).waits c.args.number c.requires.latest_row c.requires.waits in
    let note = c.joined-note.result in
    let holds = e.uses_added (counts_in own) (c.args.journal.now.undo.gone.items ++ own.batcher.spans) coming.0 coming.1.among coming.1.posting.holds.sound in
    let change = subst (λ (u : ℕ). Joins c.args.number c.in-Ok.joining.key k note (part u S1) (part u S2)) e.owner c.in-Ok.ensures.own_part in
    joined_last own (text_keys k.keys) p (part t S1) (part t S2) c.args.span.now.trace c.halves_of-trace.result c.args.number c.in-Ok.joining.key k note seated.row c.halves_of-trace.ensures.id c.halves_of-trace.ensures.halves c.requires.latest_row c.requires.waits seated.there holds change

pub returns-in-Ok-clause-written : goal.returns-in-Ok-clause-written
returns-in-Ok-clause-written c = λ start first written.
    let own = c.args.self.now in
    let t = own.tenant in
    let S1 = c.keyed.new.stores in
    let S2 = c.join.new.self in
    let p = part t c.args.stores.now in
    let mid = part t S1 in
    let q = part t S2 in
    let coming = c.requires.coming in
    let k = c.in_ok-keyed.keyed in
    let e = c.in_ok-keyed.ensures in
    let note = c.joined-note.result in
    let seated = (seat_shows (counts_in own) (c.args.journal.now.undo.gone.items ++ own.batcher.spans) coming.0 p c.args.span.now.trace coming.1.posting.holds.sound).waits c.args.number c.requires.latest_row c.requires.waits in
    let row = seated.row in
    let there : p.rows c.args.number ≡ Some row = seated.there in
    let holds = e.uses_added (counts_in own) (c.args.journal.now.undo.gone.items ++ own.batcher.spans) coming.0 coming.1.among coming.1.posting.holds.sound in
    let change = subst (λ (u : ℕ). Joins c.args.number c.in-Ok.joining.key k note (part u S1) (part u S2)) e.owner c.in-Ok.ensures.own_part in
    let former : c.in-Ok.joining.former ≡ row.note =
    c.in-Ok.ensures.former ∙ (ap (λ (u : ℕ). rows.note_of note ((part u S1).rows c.args.number)) e.owner
    ∙ (ap (λ (f : ℕ → Option (Row TraceNote)). rows.note_of note (f c.args.number)) holds.rows ∙ ap (rows.note_of note) there)) in
    record {
      trail = subst (λ (xs : List (UndoEntry TraceNote)). Trail first xs q) (sym c.push_reserved.ensures.items)
          (trail_more first p q c.args.journal.now.placed.items (Joined c.args.number c.in-Ok.joining.former) written.trail (c.in-Ok.joining.key, k, row, note, mid, there, sym former, holds, change));
      undo = takes_back c.args.journal.now.undo start (hits_undone c.args.journal.now.hits own) own.rows c.take.new.self written.undo;
      hits = written.hits;
    }

pub returns-in-Ok-clause-others_unchanged : goal.returns-in-Ok-clause-others_unchanged
returns-in-Ok-clause-others_unchanged c = λ other ne.
    c.join.ensures.others_unchanged other (λ (is : other ≡ c.in_ok-keyed.keyed.owner). ne (is ∙ c.in_ok-keyed.ensures.owner)) ∙ c.keyed.ensures.others_unchanged other ne

pub returns-in-Err-clause-written : goal.returns-in-Err-clause-written
returns-in-Err-clause-written c = λ start first written.
    let own = c.args.self.now in
    let t = own.tenant in
    let S1 = c.keyed.new.stores in
    let p = part t c.args.stores.now in
    let mid = part t S1 in
    let r = part t c.release_all.new.self in
    let coming = c.requires.coming in
    let k = c.in_ok-keyed.keyed in
    let e = c.in_ok-keyed.ensures in
    let holds = e.uses_added (counts_in own) (c.args.journal.now.undo.gone.items ++ own.batcher.spans) coming.0 coming.1.among coming.1.posting.holds.sound in
    let refused : part t c.join.new.self ≡ mid = subst (λ (u : ℕ). part u c.join.new.self ≡ part u S1) e.owner c.in-Err.ensures.on_refusal in
    let back = subst (λ (x : Part TraceNote). ReleasesAll (text_keys k.keys) x r) refused (subst (λ (ks : TextKeys). ReleasesAll (text_keys ks) (part t c.join.new.self) r) c.keys-held.ensures c.release_all.ensures.uses_removed) in
    subst (λ (x : Part TraceNote). IsWritten c.args.journal.now start own first x) (sym (given_back (text_keys k.keys) p mid r holds back)) written

pub returns-in-Err-clause-others_unchanged : goal.returns-in-Err-clause-others_unchanged
returns-in-Err-clause-others_unchanged c = λ other ne.
    c.release_all.ensures.others_unchanged other ne
    ∙ (c.join.ensures.others_unchanged other (λ (is : other ≡ c.in_ok-keyed.keyed.owner). ne (is ∙ c.in_ok-keyed.ensures.owner)) ∙ c.keyed.ensures.others_unchanged other ne)
