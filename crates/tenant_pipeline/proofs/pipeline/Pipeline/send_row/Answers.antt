use Rattle.std.proofs.Common.{◌≡◌, ◌∙◌, ℕ, List, length, length-append, arith, map, sym, ap, subst, true, false, Option, Some}
use Rattle.std.proofs.lemmas.Result.{on_ok_weaker}
use Rattle.drop_ledger.specs.Ledger.{LedgerData}
use Rattle.tail_policy.specs.declared.note.TraceNote.{TraceNote}
use Rattle.tail_policy.specs.Note.{verdict_of}
use Rattle.tail_settings.specs.Policy.{policy_view}
use Rattle.tail_settings.specs.declared.policy.PolicySpec.{PolicySpec}
use Rattle.trace_rows.specs.declared.table.Row.{Row}
use Rattle.tenant_stores.specs.Shows.{row_shown}
use Rattle.tenant_pipeline.specs.declared.pipeline.Pipeline.{Pipeline}
use Rattle.tenant_pipeline.specs.StateIn.{part_in, policies_of, unsent_at, waiting_of, written_with}
use Rattle.tenant_pipeline.specs.Drains.{SendsRow}
use Rattle.tenant_pipeline.specs.Outbox.{GroupsUnsent}
use Rattle.tenant_pipeline.proofs.Draining.{row_known, row_kept, row_dropped, row_size, row_verdict}
use Rattle.tenant_pipeline.proofs.pipeline.Pipeline.send_row.Goals as goal

pub group_unsent-requires-clause-few : goal.group_unsent-requires-clause-few
group_unsent-requires-clause-few c =
    let own = c.args.self.now in
    let p = part_in own c.args.stores.now in
    let size = c.requires.room.size in
    let few = c.requires.room.fits.few in
    let both = length-append own.sender.queue (unsent_at p c.args.leaving.now.unsent) in
    let range = own.section.sending_queue.queue_size_range in
    omega (arith, size, few, both, range.1)

pub returns-then-samples-clause-on_success : goal.returns-then-samples-clause-on_success
returns-then-samples-clause-on_success c =
    let own = c.args.self.now in
    let p = part_in own c.args.stores.now in
    let us = c.args.leaving.now.unsent in
    let us' = c.group_unsent.new.leaving.unsent in
    let found = c.in-Some.row.now in
    let new = c.group_unsent.new.self in
    on_ok_weaker c.group_unsent.result (λ groups row is.
    let both : Path (Option (Row TraceNote)) (Some found) (Some row) = c.in-Some.ensures ∙ is in
    let same : found ≡ row = cc in
    let keys : c.as_slice-keys.result.now ≡ row.keys = c.as_slice-keys.ensures ∙ ap (λ (r : Row TraceNote). r.keys) same in
    let verdict : verdict_of (policies_of own) row.note ≡ true = ap (λ (r : Row TraceNote). verdict_of (policies_of own) r.note) (sym same)
    ∙ (sym (c.samples.ensures ∙ ap (λ (ps : List PolicySpec). verdict_of (map policy_view ps) found.note) c.as_slice.ensures.value) ∙ c.if-samples.true) in
    let known = row_known own p (p.rows c.args.number) c.requires.there row is in
    let groups' : GroupsUnsent c.args.moment row.keys p us us' own new = subst (λ (ks : List ℕ). GroupsUnsent c.args.moment ks p us us' own new) keys groups in
    row_kept (written_with us p own) (written_with us' p new) p row c.args.moment (row_verdict own p row known.noted known.there true verdict) (groups' known.there c.requires.room)) c.group_unsent.ensures.on_success

pub returns-clause-on_success : goal.returns-clause-on_success
returns-clause-on_success c = λ row is.
    let own = c.args.self.now in
    let p = part_in own c.args.stores.now in
    let us = c.args.leaving.now.unsent in
    let found = c.in-Some.row.now in
    let both : Path (Option (Row TraceNote)) (Some found) (Some row) = c.in-Some.ensures ∙ is in
    let same : found ≡ row = cc in
    let n : ℕ = length c.as_slice-keys.result.now in
    let keys : n ≡ length row.keys = ap length (c.as_slice-keys.ensures ∙ ap (λ (r : Row TraceNote). r.keys) same) in
    let verdict : verdict_of (policies_of own) row.note ≡ false = ap (λ (r : Row TraceNote). verdict_of (policies_of own) r.note) (sym same)
    ∙ (sym (c.samples.ensures ∙ ap (λ (ps : List PolicySpec). verdict_of (map policy_view ps) found.note) c.as_slice.ensures.value) ∙ c.if-samples.false) in
    let known = row_known own p (p.rows c.args.number) c.requires.there row is in
    let sends = row_dropped (written_with us p own) p row c.args.moment n (row_verdict own p row known.noted known.there false verdict) (keys ∙ sym (row_size own p row known.noted known.there))
    c.requires.quiet c.requires.pending c.requires.room in
    subst (λ (l : LedgerData). let y : Pipeline = record own { ledger = l } in SendsRow c.args.moment (waiting_of (row_shown p row)) p (written_with us p own) (written_with us p y)) (sym c.move_spans.ensures) sends
