use Rattle.std.proofs.Common.{◌≡◌, ◌∙◌, ◌+◌, ◌++◌, ◌≤◌, List, [], length, map, sym, ap, subst, refl, arith, ℕ, Option, true, false}
use Rattle.decision_cache.specs.Caches.{CachesData, noted_in, shown}
use Rattle.drop_ledger.specs.Ledger.{LedgerData, moved}
use Rattle.drop_ledger.specs.Ledger as ledger
use Rattle.drop_ledger.specs.declared.places.Place.TheVariants.{Undecided, NotSampled}
use Rattle.tail_policy.specs.declared.note.TraceNote.{TraceNote}
use Rattle.tail_policy.specs.Note.{verdict_of}
use Rattle.tail_settings.specs.Policy.{policy_view}
use Rattle.tail_settings.specs.declared.policy.PolicySpec.{PolicySpec}
use Rattle.trace_rows.specs.declared.table.Row.{Row}
use Rattle.trace_rows.specs.Part.{keys_of}
use Rattle.tenant_stores.specs.Counts.{count, one_decided}
use Rattle.tenant_stores.specs.Part.{part}
use Rattle.tenant_stores.specs.Invariant.{StoreInvariant}
use Rattle.tenant_stores.specs.Shows.{first_kept}
use Rattle.tenant_stores.specs.View.{WaitingRow, view}
use Rattle.tenant_stores.proofs.Lists.{count-append}
use Rattle.tenant_rules.specs.Timers.{decide, first_due}
use Rattle.tenant_pipeline.specs.declared.pipeline.Pipeline.{Pipeline}
use Rattle.tenant_pipeline.specs.StateIn.{counts_in, part_in, policies_of, written_state_in, written_state_of, view_in, waiting_of}
use Rattle.tenant_pipeline.specs.Invariant.{WrittenInvariantBy}
use Rattle.tenant_pipeline.specs.Outbox.{arrivals_at, AreThere, Groups}
use Rattle.tenant_pipeline.proofs.Deciding.{drop_all, keep_all}
use Rattle.tenant_pipeline.proofs.Firsts.{first_row}
use Rattle.tenant_pipeline.proofs.Hits.{back_to}
use Rattle.tenant_pipeline.proofs.Posting.{on_err}
use Rattle.tenant_pipeline.proofs.Sweeping.{swept_with, swept_back}
use Rattle.tenant_pipeline.proofs.pipeline.Pipeline.decide.Goals as goal

pub group-requires-clause-not_empty : goal.group-requires-clause-not_empty
group-requires-clause-not_empty c =
    let own = c.args.self.now in
    let p = part own.tenant c.args.stores.now in
    let row = c.in-Some.row.now in
    let f = first_row own p c.requires.invariant row c.requires.row_undecided c.in-Some.ensures c.requires.first c.requires.fits in
    let keys : c.as_slice-keys.result.now ≡ row.keys = c.as_slice-keys.ensures in
    let size = ap length keys in let some = f.some in omega (arith, size, some)

pub group-requires-clause-moment : goal.group-requires-clause-moment
group-requires-clause-moment c =
    let own = c.args.self.now in
    let p = part own.tenant c.args.stores.now in
    let row = c.in-Some.row.now in
    let f = first_row own p c.requires.invariant row c.requires.row_undecided c.in-Some.ensures c.requires.first c.requires.fits in
    f.fits

pub group-requires-clause-timer : goal.group-requires-clause-timer
group-requires-clause-timer c =
    let own = c.args.self.now in
    let p = part own.tenant c.args.stores.now in
    let row = c.in-Some.row.now in
    let f = first_row own p c.requires.invariant row c.requires.row_undecided c.in-Some.ensures c.requires.first c.requires.fits in
    f.after

pub group-requires-clause-undecided : goal.group-requires-clause-undecided
group-requires-clause-undecided c =
    let own = c.args.self.now in
    let p = part own.tenant c.args.stores.now in
    let row = c.in-Some.row.now in
    let f = first_row own p c.requires.invariant row c.requires.row_undecided c.in-Some.ensures c.requires.first c.requires.fits in
    let keys : c.as_slice-keys.result.now ≡ row.keys = c.as_slice-keys.ensures in
    let size = ap length keys in let few = f.undecided in omega (arith, size, few)

pub group-requires-clause-pending : goal.group-requires-clause-pending
group-requires-clause-pending c =
    let own = c.args.self.now in
    let p = part own.tenant c.args.stores.now in
    let row = c.in-Some.row.now in
    let f = first_row own p c.requires.invariant row c.requires.row_undecided c.in-Some.ensures c.requires.first c.requires.fits in
    f.pending

pub group-requires-clause-there : goal.group-requires-clause-there
group-requires-clause-there c =
    let own = c.args.self.now in
    let p = part own.tenant c.args.stores.now in
    let row = c.in-Some.row.now in
    let f = first_row own p c.requires.invariant row c.requires.row_undecided c.in-Some.ensures c.requires.first c.requires.fits in
    let keys : c.as_slice-keys.result.now ≡ row.keys = c.as_slice-keys.ensures in
    subst (λ (ks : List ℕ). AreThere p (own.batcher.spans ++ ks)) (sym keys) f.there

pub group-requires-clause-room : goal.group-requires-clause-room
group-requires-clause-room c =
    let own = c.args.self.now in
    let p = part own.tenant c.args.stores.now in
    let row = c.in-Some.row.now in
    let f = first_row own p c.requires.invariant row c.requires.row_undecided c.in-Some.ensures c.requires.first c.requires.fits in
    f.room

pub returns-in-Ok-clause-on_success : goal.returns-in-Ok-clause-on_success
returns-in-Ok-clause-on_success c =
    let own = c.args.self.now in
    let p = part own.tenant c.args.stores.now in
    let row = c.in-Some.row.now in
    let f = first_row own p c.requires.invariant row c.requires.row_undecided c.in-Some.ensures c.requires.first c.requires.fits in
    let keys : c.as_slice-keys.result.now ≡ row.keys = c.as_slice-keys.ensures in
    let mid = c.group.new.self in
    let q = part own.tenant c.flush.new.self in
    let p1 = part own.tenant c.keep_row.new.self in
    let groups : Groups row.due row.keys p own mid = subst (λ (ks : List ℕ). Groups row.due ks p own mid) keys c.in_ok-group.ensures.on_success in
    let verdict : verdict_of (policies_of own) row.note ≡ true = sym (c.samples.ensures ∙ ap (λ (ps : List PolicySpec). verdict_of (map policy_view ps) row.note) c.as_slice-policies.ensures.value) ∙ c.if-samples.true in
    let most : own.rows.decided + 1 ≤ own.rows.opened = let some = c.requires.row_undecided in omega (arith, some) in
    let kept_keys : c.keep_row.result ≡ row.keys = c.keep_row.ensures.keys ∙ ap (λ (o : Option (Row TraceNote)). keys_of o) (sym c.in-Some.ensures) in
    let sound1 : StoreInvariant (one_decided (counts_in own)) (own.batcher.spans ++ row.keys) [] p1 =
    subst (λ (ks : List ℕ). StoreInvariant (one_decided (counts_in own)) (own.batcher.spans ++ ks) [] p1) kept_keys (c.keep_row.ensures.store_invariant (counts_in own) own.batcher.spans [] refl most c.requires.invariant.sound) in
    let shows1 : view (one_decided (counts_in own)) (own.batcher.spans ++ row.keys) p1 ≡ first_kept (view_in own p) =
    subst (λ (ks : List ℕ). view (one_decided (counts_in own)) (own.batcher.spans ++ ks) p1 ≡ first_kept (view_in own p)) kept_keys (c.keep_row.ensures.shows (counts_in own) own.batcher.spans [] own.batcher.spans refl most c.requires.invariant.sound) in
    let all : (key : ℕ) → count key c.as_slice-gone.result.now + count key mid.batcher.spans ≡ count key (own.batcher.spans ++ row.keys) = λ key.
    let gone = ap (count key) c.as_slice-gone.ensures.value in
    let made = c.in_ok-group.ensures.gone key in
    let none = ap (count key) c.of-undo.ensures.none in
    let ks = ap (count key) keys in
    let both = count-append key own.batcher.spans row.keys in
    omega (arith, gone, made, none, ks, both) in
    let sound = c.flush.ensures.store_invariant (one_decided (counts_in own)) (own.batcher.spans ++ row.keys) mid.batcher.spans [] all sound1 in
    let shows = c.flush.ensures.shows (one_decided (counts_in own)) (own.batcher.spans ++ row.keys) mid.batcher.spans [] mid.batcher.spans all sound1 (λ key. omega arith) in
    let change = c.keep_row.ensures.own_part in
    let kept_caches : mid.caches ≡ own.caches = ap (λ (x : Pipeline). x.caches) groups.same in
    let remembers : shown c.put.new.self ≡ noted_in true row.trace (shown own.caches) = c.in-Ok.ensures.shown ∙ ap (λ (k : CachesData). noted_in true row.trace (shown k)) kept_caches in
    let ran = keep_all own p q c.requires.invariant row f.rest f.waiting f.noted c.requires.first f.fits f.after c.put.new.self remembers mid p1 verdict groups change.spans change.texts shows1 shows sound in
    let caches : CachesData = c.put.new.self in
    let new : Pipeline = record mid { rows = record mid.rows { decided = own.rows.decided + 1 }; clock = row.due; caches = caches } in
    let is : c.pass.new.self ≡ new = c.pass.ensures in
    let tenant : mid.tenant ≡ own.tenant = ap (λ (x : Pipeline). x.tenant) groups.same in
    let s = written_state_in own c.args.stores.now in
    subst (λ (x : Pipeline). written_state_in x c.flush.new.self ≡ decide s.waiting s) (sym is)
    (subst (λ (t : ℕ). written_state_of new (part t c.flush.new.self) ≡ decide s.waiting s) (sym tenant) ran.state)

pub returns-in-Ok-clause-invariant : goal.returns-in-Ok-clause-invariant
returns-in-Ok-clause-invariant c =
    let own = c.args.self.now in
    let p = part own.tenant c.args.stores.now in
    let row = c.in-Some.row.now in
    let f = first_row own p c.requires.invariant row c.requires.row_undecided c.in-Some.ensures c.requires.first c.requires.fits in
    let keys : c.as_slice-keys.result.now ≡ row.keys = c.as_slice-keys.ensures in
    let mid = c.group.new.self in
    let q = part own.tenant c.flush.new.self in
    let p1 = part own.tenant c.keep_row.new.self in
    let groups : Groups row.due row.keys p own mid = subst (λ (ks : List ℕ). Groups row.due ks p own mid) keys c.in_ok-group.ensures.on_success in
    let verdict : verdict_of (policies_of own) row.note ≡ true = sym (c.samples.ensures ∙ ap (λ (ps : List PolicySpec). verdict_of (map policy_view ps) row.note) c.as_slice-policies.ensures.value) ∙ c.if-samples.true in
    let most : own.rows.decided + 1 ≤ own.rows.opened = let some = c.requires.row_undecided in omega (arith, some) in
    let kept_keys : c.keep_row.result ≡ row.keys = c.keep_row.ensures.keys ∙ ap (λ (o : Option (Row TraceNote)). keys_of o) (sym c.in-Some.ensures) in
    let sound1 : StoreInvariant (one_decided (counts_in own)) (own.batcher.spans ++ row.keys) [] p1 =
    subst (λ (ks : List ℕ). StoreInvariant (one_decided (counts_in own)) (own.batcher.spans ++ ks) [] p1) kept_keys (c.keep_row.ensures.store_invariant (counts_in own) own.batcher.spans [] refl most c.requires.invariant.sound) in
    let shows1 : view (one_decided (counts_in own)) (own.batcher.spans ++ row.keys) p1 ≡ first_kept (view_in own p) =
    subst (λ (ks : List ℕ). view (one_decided (counts_in own)) (own.batcher.spans ++ ks) p1 ≡ first_kept (view_in own p)) kept_keys (c.keep_row.ensures.shows (counts_in own) own.batcher.spans [] own.batcher.spans refl most c.requires.invariant.sound) in
    let all : (key : ℕ) → count key c.as_slice-gone.result.now + count key mid.batcher.spans ≡ count key (own.batcher.spans ++ row.keys) = λ key.
    let gone = ap (count key) c.as_slice-gone.ensures.value in
    let made = c.in_ok-group.ensures.gone key in
    let none = ap (count key) c.of-undo.ensures.none in
    let ks = ap (count key) keys in
    let both = count-append key own.batcher.spans row.keys in
    omega (arith, gone, made, none, ks, both) in
    let sound = c.flush.ensures.store_invariant (one_decided (counts_in own)) (own.batcher.spans ++ row.keys) mid.batcher.spans [] all sound1 in
    let shows = c.flush.ensures.shows (one_decided (counts_in own)) (own.batcher.spans ++ row.keys) mid.batcher.spans [] mid.batcher.spans all sound1 (λ key. omega arith) in
    let change = c.keep_row.ensures.own_part in
    let kept_caches : mid.caches ≡ own.caches = ap (λ (x : Pipeline). x.caches) groups.same in
    let remembers : shown c.put.new.self ≡ noted_in true row.trace (shown own.caches) = c.in-Ok.ensures.shown ∙ ap (λ (k : CachesData). noted_in true row.trace (shown k)) kept_caches in
    let ran = keep_all own p q c.requires.invariant row f.rest f.waiting f.noted c.requires.first f.fits f.after c.put.new.self remembers mid p1 verdict groups change.spans change.texts shows1 shows sound in
    let caches : CachesData = c.put.new.self in
    let new : Pipeline = record mid { rows = record mid.rows { decided = own.rows.decided + 1 }; clock = row.due; caches = caches } in
    let is : c.pass.new.self ≡ new = c.pass.ensures in
    let tenant : mid.tenant ≡ own.tenant = ap (λ (x : Pipeline). x.tenant) groups.same in
    subst (λ (x : Pipeline). WrittenInvariantBy x (part_in x c.flush.new.self)) (sym is)
    (subst (λ (t : ℕ). WrittenInvariantBy new (part t c.flush.new.self)) (sym tenant) ran.held)

pub returns-clause-on_success : goal.returns-clause-on_success
returns-clause-on_success c =
    let own = c.args.self.now in
    let p = part own.tenant c.args.stores.now in
    let row = c.in-Some.row.now in
    let f = first_row own p c.requires.invariant row c.requires.row_undecided c.in-Some.ensures c.requires.first c.requires.fits in
    let q = part own.tenant c.drop_row-spans.new.self in
    let n = c.drop_row-spans.result in
    let verdict : verdict_of (policies_of own) row.note ≡ false = sym (c.samples.ensures ∙ ap (λ (ps : List PolicySpec). verdict_of (map policy_view ps) row.note) c.as_slice-policies.ensures.value) ∙ c.if-samples.false in
    let most : own.rows.decided + 1 ≤ own.rows.opened = let some = c.requires.row_undecided in omega (arith, some) in
    let size : n ≡ length (arrivals_at p row.keys) = c.drop_row-spans.ensures.size ∙ (ap (λ (o : Option (Row TraceNote)). length (keys_of o)) (sym c.in-Some.ensures) ∙ sym f.size) in
    let sound = c.drop_row-spans.ensures.store_invariant (counts_in own) own.batcher.spans [] refl most c.requires.invariant.sound in
    let shows = c.drop_row-spans.ensures.shows (counts_in own) own.batcher.spans [] own.batcher.spans refl most c.requires.invariant.sound (λ key. omega arith) in
    let caches : CachesData = c.put-2.new.self in
    let remembers : shown caches ≡ noted_in false row.trace (shown own.caches) = c.in_ok-put.ensures.shown in
    let ran = drop_all own p q c.requires.invariant row f.rest f.waiting f.noted c.requires.first f.fits f.after caches remembers n size verdict sound shows in
    let is : c.pass-2.new.self ≡ record own { rows = record own.rows { decided = own.rows.decided + 1 }; clock = row.due; ledger = moved Undecided NotSampled n own.ledger; caches = caches } =
    c.pass-2.ensures ∙ ap (λ (l : LedgerData). let y : Pipeline = record own { rows = record own.rows { decided = own.rows.decided + 1 }; clock = row.due; ledger = l; caches = caches } in y) c.move_spans.ensures in
    let s = written_state_in own c.args.stores.now in
    subst (λ (x : Pipeline). written_state_in x c.drop_row-spans.new.self ≡ decide s.waiting s) (sym is) ran.state

pub returns-clause-invariant : goal.returns-clause-invariant
returns-clause-invariant c =
    let own = c.args.self.now in
    let p = part own.tenant c.args.stores.now in
    let row = c.in-Some.row.now in
    let f = first_row own p c.requires.invariant row c.requires.row_undecided c.in-Some.ensures c.requires.first c.requires.fits in
    let q = part own.tenant c.drop_row-spans.new.self in
    let n = c.drop_row-spans.result in
    let verdict : verdict_of (policies_of own) row.note ≡ false = sym (c.samples.ensures ∙ ap (λ (ps : List PolicySpec). verdict_of (map policy_view ps) row.note) c.as_slice-policies.ensures.value) ∙ c.if-samples.false in
    let most : own.rows.decided + 1 ≤ own.rows.opened = let some = c.requires.row_undecided in omega (arith, some) in
    let size : n ≡ length (arrivals_at p row.keys) = c.drop_row-spans.ensures.size ∙ (ap (λ (o : Option (Row TraceNote)). length (keys_of o)) (sym c.in-Some.ensures) ∙ sym f.size) in
    let sound = c.drop_row-spans.ensures.store_invariant (counts_in own) own.batcher.spans [] refl most c.requires.invariant.sound in
    let shows = c.drop_row-spans.ensures.shows (counts_in own) own.batcher.spans [] own.batcher.spans refl most c.requires.invariant.sound (λ key. omega arith) in
    let caches : CachesData = c.put-2.new.self in
    let remembers : shown caches ≡ noted_in false row.trace (shown own.caches) = c.in_ok-put.ensures.shown in
    let ran = drop_all own p q c.requires.invariant row f.rest f.waiting f.noted c.requires.first f.fits f.after caches remembers n size verdict sound shows in
    let is : c.pass-2.new.self ≡ record own { rows = record own.rows { decided = own.rows.decided + 1 }; clock = row.due; ledger = moved Undecided NotSampled n own.ledger; caches = caches } =
    c.pass-2.ensures ∙ ap (λ (l : LedgerData). let y : Pipeline = record own { rows = record own.rows { decided = own.rows.decided + 1 }; clock = row.due; ledger = l; caches = caches } in y) c.move_spans.ensures in
    subst (λ (x : Pipeline). WrittenInvariantBy x (part_in x c.drop_row-spans.new.self)) (sym is) ran.held

pub move_spans-requires : goal.move_spans-requires
move_spans-requires c =
    let own = c.args.self.now in
    let p = part own.tenant c.args.stores.now in
    let row = c.in-Some.row.now in
    let f = first_row own p c.requires.invariant row c.requires.row_undecided c.in-Some.ensures c.requires.first c.requires.fits in
    let size = c.drop_row-spans.ensures.size ∙ ap (λ (o : Option (Row TraceNote)). length (keys_of o)) (sym c.in-Some.ensures) in let few = f.undecided in omega (arith, size, few)

pub returns-in-Ok-clause-others_unchanged : goal.returns-in-Ok-clause-others_unchanged
returns-in-Ok-clause-others_unchanged c = λ other ne. c.flush.ensures.others_unchanged other ne ∙ c.keep_row.ensures.others_unchanged other ne

pub returns-in-Ok-clause-clock : goal.returns-in-Ok-clause-clock
returns-in-Ok-clause-clock c = λ moment le all.
    let own = c.args.self.now in
    let p = part own.tenant c.args.stores.now in
    let row = c.in-Some.row.now in
    let f = first_row own p c.requires.invariant row c.requires.row_undecided c.in-Some.ensures c.requires.first c.requires.fits in
    let due = ap (λ (ws : List (WaitingRow TraceNote)). first_due (map waiting_of ws)) f.waiting in
    let by = all row.due due in
    let clock = ap (λ (x : Pipeline). x.clock) c.pass.ensures in
    omega (arith, by, clock)

pub returns-clause-clock : goal.returns-clause-clock
returns-clause-clock c = λ moment le all.
    let own = c.args.self.now in
    let p = part own.tenant c.args.stores.now in
    let row = c.in-Some.row.now in
    let f = first_row own p c.requires.invariant row c.requires.row_undecided c.in-Some.ensures c.requires.first c.requires.fits in
    let due = ap (λ (ws : List (WaitingRow TraceNote)). first_due (map waiting_of ws)) f.waiting in
    let by = all row.due due in
    let clock = ap (λ (x : Pipeline). x.clock) c.pass-2.ensures in
    omega (arith, by, clock)

pub returns-in_err-group-clause-swept : goal.returns-in_err-group-clause-swept
returns-in_err-group-clause-swept c = λ is. swept_back c.args.self.now c.group.new.self c.in_err-group.ensures.on_refusal is

pub returns-in-Ok-clause-swept : goal.returns-in-Ok-clause-swept
returns-in-Ok-clause-swept c = λ is.
    let mid = c.group.new.self in
    let passed : Pipeline = record mid { rows = record mid.rows { decided = c.args.self.now.rows.decided + 1 }; clock = c.in-Some.row.now.due; caches = c.put.new.self } in
    let same = c.in_ok-group.ensures.on_success.same in
    swept_back passed c.pass.new.self c.pass.ensures (swept_with c.args.self.now passed (ap (λ (x : Pipeline). x.rows.swept) same) (ap (λ (x : Pipeline). x.rows.first) same) c.in-Ok.ensures.none is)

pub returns-clause-swept : goal.returns-clause-swept
returns-clause-swept c = λ is.
    let passed = c.pass-2.ensures in
    swept_with c.args.self.now c.pass-2.new.self (ap (λ (x : Pipeline). x.rows.swept) passed) (ap (λ (x : Pipeline). x.rows.first) passed) (ap (λ (x : Pipeline). x.caches.hits) passed ∙ c.in_ok-put.ensures.none) is

pub returns-in_err-put-clause-swept : goal.returns-in_err-put-clause-swept
returns-in_err-put-clause-swept c = λ is. (is.0, c.in_err-put.ensures.none)

-- ---- where the cache was refused memory

pub put-requires : goal.put-requires
put-requires c = record { none = ap (λ (x : Pipeline). x.caches.hits) c.in_ok-group.ensures.on_success.same ∙ c.requires.no_hits }

pub take_back-requires : goal.take_back-requires
take_back-requires c =
    let own = c.args.self.now in
    let back = c.in_ok-group.ensures.back own c.of-undo.ensures.back in
    record { ledger_invariant = subst (λ (l : LedgerData). ledger.LedgerInvariant l) (sym back.ledger) c.requires.invariant.counted.sound }

pub returns-in-Err-clause-on_refusal : goal.returns-in-Err-clause-on_refusal
returns-in-Err-clause-on_refusal c =
    let back = c.in_ok-group.ensures.back c.args.self.now c.of-undo.ensures.back in
    let same = back_to c.args.self.now c.group.new.self c.take_back.new.self c.group.new.undo c.put.new.self c.in-Err.ensures.on_refusal back c.take_back.ensures in
    ap (λ (x : Pipeline). written_state_in x c.args.stores.now) same

pub returns-in-Err-clause-invariant : goal.returns-in-Err-clause-invariant
returns-in-Err-clause-invariant c =
    let back = c.in_ok-group.ensures.back c.args.self.now c.of-undo.ensures.back in
    let same = back_to c.args.self.now c.group.new.self c.take_back.new.self c.group.new.undo c.put.new.self c.in-Err.ensures.on_refusal back c.take_back.ensures in
    subst (λ (x : Pipeline). WrittenInvariantBy x (part_in x c.args.stores.now)) (sym same) c.requires.invariant

pub returns-in-Err-clause-tenant : goal.returns-in-Err-clause-tenant
returns-in-Err-clause-tenant c =
    let back = c.in_ok-group.ensures.back c.args.self.now c.of-undo.ensures.back in
    let same = back_to c.args.self.now c.group.new.self c.take_back.new.self c.group.new.undo c.put.new.self c.in-Err.ensures.on_refusal back c.take_back.ensures in
    ap (λ (x : Pipeline). x.tenant) same

pub returns-in-Err-clause-section : goal.returns-in-Err-clause-section
returns-in-Err-clause-section c =
    let back = c.in_ok-group.ensures.back c.args.self.now c.of-undo.ensures.back in
    let same = back_to c.args.self.now c.group.new.self c.take_back.new.self c.group.new.undo c.put.new.self c.in-Err.ensures.on_refusal back c.take_back.ensures in
    ap (λ (x : Pipeline). x.section) same

pub returns-in-Err-clause-swept : goal.returns-in-Err-clause-swept
returns-in-Err-clause-swept c = λ is.
    let back = c.in_ok-group.ensures.back c.args.self.now c.of-undo.ensures.back in
    let same = back_to c.args.self.now c.group.new.self c.take_back.new.self c.group.new.undo c.put.new.self c.in-Err.ensures.on_refusal back c.take_back.ensures in
    swept_back c.args.self.now c.take_back.new.self same is

pub returns-in-Err-clause-clock : goal.returns-in-Err-clause-clock
returns-in-Err-clause-clock c = λ moment le all.
    let back = c.in_ok-group.ensures.back c.args.self.now c.of-undo.ensures.back in
    let same = back_to c.args.self.now c.group.new.self c.take_back.new.self c.group.new.undo c.put.new.self c.in-Err.ensures.on_refusal back c.take_back.ensures in
    let clock = ap (λ (x : Pipeline). x.clock) same in omega (arith, le, clock)

pub returns-in_err-put-clause-on_refusal : goal.returns-in_err-put-clause-on_refusal
returns-in_err-put-clause-on_refusal c =
    on_err c.from_residual-in_err-put.result (ap (λ (k : CachesData). let x : Pipeline = record (c.args.self.now) { caches = k } in written_state_in x c.args.stores.now) c.in_err-put.ensures.on_refusal)

pub returns-in_err-put-clause-invariant : goal.returns-in_err-put-clause-invariant
returns-in_err-put-clause-invariant c =
    subst (λ (k : CachesData). let x : Pipeline = record (c.args.self.now) { caches = k } in WrittenInvariantBy x (part_in x c.args.stores.now)) (sym c.in_err-put.ensures.on_refusal) c.requires.invariant
