use Rattle.std.proofs.Common.{◌≡◌, ◌+◌, ◌++◌, ◌∙◌, ℕ, List, refl, sym, ap, subst, arith, Option, Some}
use Rattle.span_pool.specs.Stored.{texts_of}
use Rattle.span_pool.specs.declared.keys.TextKeys.{TextKeys}
use Rattle.tail_policy.specs.declared.note.TraceNote.{TraceNote}
use Rattle.tenant_stores.specs.declared.undo.UndoEntry.{UndoEntry}
use Rattle.tenant_stores.specs.declared.undo.UndoEntry.TheVariants.{Opened}
use Rattle.tenant_stores.specs.Changes.{Opens, ReleasesAll}
use Rattle.tenant_stores.specs.Counts.{Counts, one_opened}
use Rattle.tenant_stores.specs.Part.{Part, part}
use Rattle.tenant_stores.specs.Shows.{AreAmong, with_opened}
use Rattle.tenant_stores.specs.Invariant.{StoreInvariant}
use Rattle.tenant_stores.specs.Trail.{Trail}
use Rattle.tenant_stores.specs.View.{text_at, text_keys, view}
use Rattle.tenant_rules.specs.Machine.{counted_in, evicted, opens}
use Rattle.tenant_rules.specs.State.{State}
use Rattle.tenant_pipeline.specs.declared.pipeline.Pipeline.{Pipeline}
use Rattle.tenant_pipeline.specs.declared.journal.Journal.{Journal}
use Rattle.tenant_pipeline.specs.StateIn.{counts_in, part_in}
use Rattle.tenant_pipeline.specs.Posts.{arrival_at, Came, IsLast, IsWritten}
use Rattle.tenant_pipeline.specs.Undo.{hits_undone}
use Rattle.tenant_pipeline.proofs.Lasts.{opened_last}
use Rattle.tenant_pipeline.proofs.Opens.{leaves_few, open_came, opened_is, opened_own}
use Rattle.tenant_pipeline.proofs.Placing.{IsKeyed, IsReady, given_back, ready_now, takes_back, trail_more}
use Rattle.tenant_pipeline.proofs.pipeline.Pipeline.open.Goals as goal

pub returns-in_err-keyed-clause-written : goal.returns-in_err-keyed-clause-written
returns-in_err-keyed-clause-written c = λ start first written.
    let own = c.args.self.now in
    let coming = c.requires.coming in
    let same = c.in_err-keyed.ensures.on_refusal (counts_in own) (c.args.journal.now.undo.gone.items ++ own.batcher.spans) coming.0 coming.1.among coming.1.posting.holds.sound in
    subst (λ (x : Part TraceNote). IsWritten c.args.journal.now start own first x) (sym same) written

pub make_room-requires-clause-undecided : goal.make_room-requires-clause-undecided
make_room-requires-clause-undecided c =
    let own = c.args.self.now in
    let p = part own.tenant c.args.stores.now in
    let mid = part own.tenant c.keyed.new.stores in
    let coming = c.requires.coming in
    let k = c.in_ok-keyed.keyed in
    let e = c.in_ok-keyed.ensures in
    let keyed : IsKeyed c.args.keys.now.keys c.args.span.now.text p mid k = record { text_is = e.text; holds = e.uses_added; sound = e.store_invariant; origin = e.texts; shows = e.shows; stay = e.stay } in
    let ready = ready_now own p mid c.args.moment c.args.journal.now c.args.keys.now.keys c.args.span.now.text coming.0 k coming.1.posting coming.1.among keyed in
    leaves_few own p mid c.args.moment c.args.journal.now c.args.keys.now.keys c.args.span.now coming.0 coming.1 k ready

pub open-requires : goal.open-requires
open-requires c =
    let own = c.args.self.now in
    let made = c.make_room.new.self in
    let S1 = c.keyed.new.stores in
    let coming = c.requires.coming in
    let sound = c.in_ok-keyed.ensures.store_invariant (counts_in own) (c.args.journal.now.undo.gone.items ++ own.batcher.spans) coming.0 coming.1.among coming.1.posting.holds.sound in
    let opened : made.rows.opened ≡ own.rows.opened = ap (λ (n : Counts). n.opened) c.make_room.ensures.rows in
    ap (λ (u : ℕ). (part u S1).rows (made.rows.opened + 1)) c.in_ok-keyed.ensures.owner ∙ sound.vacant (made.rows.opened + 1) (omega (arith, opened))

pub returns-in-Ok-clause-came : goal.returns-in-Ok-clause-came
returns-in-Ok-clause-came c =
    let own = c.args.self.now in
    let made = c.make_room.new.self in
    let t = own.tenant in
    let S1 = c.keyed.new.stores in
    let S2 = c.open.new.self in
    let p = part t c.args.stores.now in
    let mid = part t S1 in
    let q = part t S2 in
    let journal = c.args.journal.now in
    let coming = c.requires.coming in
    let span = c.args.span.now in
    let k = c.in_ok-keyed.keyed in
    let e = c.in_ok-keyed.ensures in
    let keyed : IsKeyed c.args.keys.now.keys span.text p mid k = record { text_is = e.text; holds = e.uses_added; sound = e.store_invariant; origin = e.texts; shows = e.shows; stay = e.stay } in
    let ready : IsReady own p mid journal c.args.keys.now.keys span.text k = ready_now own p mid c.args.moment journal c.args.keys.now.keys span.text coming.0 k coming.1.posting coming.1.among keyed in
    let number = made.rows.opened + 1 in
    let due = c.args.moment + made.section.tail_sampling.decision_wait in
    let key = c.in-Ok.opening.key in
    let opened : made.rows.opened ≡ own.rows.opened = ap (λ (n : Counts). n.opened) c.make_room.ensures.rows in
    let change = subst (λ (u : ℕ). Opens number key due span.trace k span.note (part u S1) (part u S2)) e.owner c.in-Ok.ensures.own_part in
    let sound = subst (λ (u : ℕ). (n : Counts) (pending others : List ℕ) → number ≡ n.opened + 1 → StoreInvariant n pending (text_keys k.keys ++ others) (part u S1) → StoreInvariant (one_opened n) pending others (part u S2)) e.owner c.in-Ok.ensures.store_invariant in
    let shows = subst (λ (u : ℕ). (n : Counts) (pending others shown : List ℕ) → number ≡ n.opened + 1 → StoreInvariant n pending others (part u S1) → AreAmong shown pending →
    view (one_opened n) shown (part u S2) ≡ with_opened span.trace due (texts_of (text_at (part u S1).texts) k) span.note (view n shown (part u S1))) e.owner c.in-Ok.ensures.shows in
    let journal' : Journal = record { placed = c.push_reserved.new.self; undo = journal.undo; hits = journal.hits } in
    let due_is : due ≡ c.args.moment + own.section.tail_sampling.decision_wait = ap (λ (o : Pipeline). c.args.moment + o.section.tail_sampling.decision_wait) c.make_room.ensures.same in
    let came = open_came own p mid q c.args.moment journal c.args.keys.now.keys span coming.0 coming.1 k ready number key due
    (ap (λ (n : ℕ). n + 1) opened) due_is change sound shows c.requires.fits c.requires.budget journal' refl in
    let is = opened_is own mid made c.take.new.self c.make_room.ensures.rows c.make_room.ensures.ledger c.make_room.ensures.same c.take.ensures in
    subst (λ (o : Pipeline). Came (λ (s : State). opens c.args.moment (arrival_at p c.args.keys.now.keys span.text) (evicted (counted_in s))) c.args.moment journal journal' own o p (part_in o S2)) (sym is) came

pub returns-in-Ok-clause-last : goal.returns-in-Ok-clause-last
returns-in-Ok-clause-last c =
    let own = c.args.self.now in
    let made = c.make_room.new.self in
    let t = own.tenant in
    let S1 = c.keyed.new.stores in
    let S2 = c.open.new.self in
    let span = c.args.span.now in
    let k = c.in_ok-keyed.keyed in
    let e = c.in_ok-keyed.ensures in
    let number = made.rows.opened + 1 in
    let due = c.args.moment + made.section.tail_sampling.decision_wait in
    let opened : made.rows.opened ≡ own.rows.opened = ap (λ (n : Counts). n.opened) c.make_room.ensures.rows in
    let change = subst (λ (u : ℕ). Opens number c.in-Ok.opening.key due span.trace k span.note (part u S1) (part u S2)) e.owner c.in-Ok.ensures.own_part in
    let now : Pipeline = record made { rows = record made.rows { opened = number }; ledger = c.take.new.self } in
    let last = opened_last now (part t S1) (part t S2) span.trace c.halves_of-trace.result number c.in-Ok.opening.key due k span.note c.halves_of-trace.ensures.id c.halves_of-trace.ensures.halves (let decided = ap (λ (n : Counts). n.decided) c.make_room.ensures.rows in
    let few = c.requires.coming.1.posting.holds.sound.order.decided in
    let some = own.section.tail_sampling.num_traces_range in
    omega (arith, opened, decided, few, some.0)) change in
    subst (λ (u : ℕ). IsLast (Some (record { trace = c.halves_of-trace.result; number = number; note = span.note })) now (part u S2)) (sym (ap (λ (o : Pipeline). o.tenant) c.make_room.ensures.same)) last

pub returns-in-Ok-clause-written : goal.returns-in-Ok-clause-written
returns-in-Ok-clause-written c = λ start first written.
    let own = c.args.self.now in
    let made = c.make_room.new.self in
    let t = own.tenant in
    let S1 = c.keyed.new.stores in
    let S2 = c.open.new.self in
    let p = part t c.args.stores.now in
    let mid = part t S1 in
    let q = part t S2 in
    let journal = c.args.journal.now in
    let coming = c.requires.coming in
    let span = c.args.span.now in
    let k = c.in_ok-keyed.keyed in
    let e = c.in_ok-keyed.ensures in
    let number = made.rows.opened + 1 in
    let due = c.args.moment + made.section.tail_sampling.decision_wait in
    let key = c.in-Ok.opening.key in
    let opened : made.rows.opened ≡ own.rows.opened = ap (λ (n : Counts). n.opened) c.make_room.ensures.rows in
    let holds = e.uses_added (counts_in own) (journal.undo.gone.items ++ own.batcher.spans) coming.0 coming.1.among coming.1.posting.holds.sound in
    let change = subst (λ (u : ℕ). Opens number key due span.trace k span.note (part u S1) (part u S2)) e.owner c.in-Ok.ensures.own_part in
    let vacant = coming.1.posting.holds.sound.vacant number (omega (arith, opened)) in
    let earlier : p.latest_rows span.trace ≡ c.in-Ok.opening.earlier =
    ap (λ (f : List ℕ → Option ℕ). f span.trace) (sym holds.latest_rows) ∙ (ap (λ (u : ℕ). (part u S1).latest_rows span.trace) (sym e.owner) ∙ sym c.in-Ok.ensures.earlier) in
    let is = opened_is own mid made c.take.new.self c.make_room.ensures.rows c.make_room.ensures.ledger c.make_room.ensures.same c.take.ensures in
    let now = opened_own own mid in
    let journal' : Journal = record { placed = c.push_reserved.new.self; undo = journal.undo; hits = journal.hits } in
    let done : IsWritten journal' start now first q = record {
      trail = subst (λ (xs : List (UndoEntry TraceNote)). Trail first xs q) (sym c.push_reserved.ensures.items)
          (trail_more first p q journal.placed.items (Opened number key c.in-Ok.opening.earlier) written.trail (span.trace, k, due, span.note, mid, vacant, earlier, holds, change));
      undo = takes_back journal.undo start (hits_undone journal.hits own) now.rows now.ledger written.undo;
      hits = written.hits;
    } in
    subst (λ (o : Pipeline). IsWritten journal' start o first (part_in o S2)) (sym is) done

pub returns-in-Ok-clause-others_unchanged : goal.returns-in-Ok-clause-others_unchanged
returns-in-Ok-clause-others_unchanged c = λ other ne.
    c.open.ensures.others_unchanged other (λ (is : other ≡ c.in_ok-keyed.keyed.owner). ne (is ∙ c.in_ok-keyed.ensures.owner)) ∙ c.keyed.ensures.others_unchanged other ne

pub returns-in-Err-clause-written : goal.returns-in-Err-clause-written
returns-in-Err-clause-written c = λ start first written.
    let own = c.args.self.now in
    let made = c.make_room.new.self in
    let t = own.tenant in
    let S1 = c.keyed.new.stores in
    let S3 = c.release_all.new.self in
    let p = part t c.args.stores.now in
    let mid = part t S1 in
    let journal = c.args.journal.now in
    let coming = c.requires.coming in
    let k = c.in_ok-keyed.keyed in
    let e = c.in_ok-keyed.ensures in
    let holds = e.uses_added (counts_in own) (journal.undo.gone.items ++ own.batcher.spans) coming.0 coming.1.among coming.1.posting.holds.sound in
    let tenant : made.tenant ≡ t = ap (λ (o : Pipeline). o.tenant) c.make_room.ensures.same in
    let refused : part t c.open.new.self ≡ mid = subst (λ (u : ℕ). part u c.open.new.self ≡ part u S1) e.owner c.in-Err.ensures.on_refusal in
    let released : ReleasesAll (text_keys k.keys) (part t c.open.new.self) (part t S3) =
    subst (λ (u : ℕ). ReleasesAll (text_keys k.keys) (part u c.open.new.self) (part u S3)) tenant (subst (λ (ks : TextKeys). ReleasesAll (text_keys ks) (part made.tenant c.open.new.self) (part made.tenant S3)) c.keys-held.ensures c.release_all.ensures.uses_removed) in
    let back = subst (λ (x : Part TraceNote). ReleasesAll (text_keys k.keys) x (part t S3)) refused released in
    let now : Pipeline = record own { rows = made.rows; ledger = made.ledger } in
    let same : part t S3 ≡ p = given_back (text_keys k.keys) p mid (part t S3) holds back in
    let done : IsWritten journal start now first (part t S3) = record {
      trail = subst (λ (x : Part TraceNote). Trail first journal.placed.items x) (sym same) written.trail;
      undo = takes_back journal.undo start (hits_undone journal.hits own) made.rows made.ledger written.undo;
      hits = written.hits;
    } in
    subst (λ (o : Pipeline). IsWritten journal start o first (part_in o S3)) (sym c.make_room.ensures.same) done

pub returns-in-Err-clause-others_unchanged : goal.returns-in-Err-clause-others_unchanged
returns-in-Err-clause-others_unchanged c = λ other ne.
    let tenant : c.make_room.new.self.tenant ≡ c.args.self.now.tenant = ap (λ (o : Pipeline). o.tenant) c.make_room.ensures.same in
    c.release_all.ensures.others_unchanged other (λ (is : other ≡ c.make_room.new.self.tenant). ne (is ∙ tenant))
    ∙ (c.open.ensures.others_unchanged other (λ (is : other ≡ c.in_ok-keyed.keyed.owner). ne (is ∙ c.in_ok-keyed.ensures.owner)) ∙ c.keyed.ensures.others_unchanged other ne)
