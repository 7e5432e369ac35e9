use Rattle.std.proofs.Common.{◌≡◌, ◌∙◌, ap, sym, subst, refl, arith, ℕ, suc, Some, None}
use Rattle.span_pool.specs.Pool.{with_span}
use Rattle.span_pool.specs.Pool as pool
use Rattle.tenant_stores.specs.Part.{part, owner_of}
use Rattle.trace_rows.specs.Part.{with_at, with_latest_row, rows_part, latest_rows_part}
use Rattle.tenant_stores.specs.Changes.{Opens, new_row}
use Rattle.tenant_stores.proofs.Sounds.{opens_sound}
use Rattle.tenant_stores.proofs.Parts.{part_by, span_restored}
use Rattle.tenant_stores.proofs.Shows.{opens_shows}
use Rattle.tenant_stores.proofs.stores.Stores.open.Goals as goal

pub returns-in_err-key-clause-others_unchanged : goal.returns-in_err-key-clause-others_unchanged
returns-in_err-key-clause-others_unchanged g c = λ other ne. part_by _ _ _ _ _ _ _ _ (c.in_err-key.ensures.others_unchanged other ne) refl refl refl

pub returns-in-Err-clause-others_unchanged : goal.returns-in-Err-clause-others_unchanged
returns-in-Err-clause-others_unchanged g c = λ other ne.
    let same = c.in-Err.ensures.others_unchanged other (λ e. ne (e ∙ c.owner-tenant.ensures)) in
    part_by _ _ _ _ _ _ _ _ (c.undo_put.ensures.others_unchanged other (λ e. ne (e ∙ c.owner-tenant.ensures)) ∙ c.in_ok-key.ensures.others_unchanged other ne) refl same.rows same.latest_rows

pub returns-in-Err-clause-on_refusal : goal.returns-in-Err-clause-on_refusal
returns-in-Err-clause-on_refusal g c =
    let same = c.in-Err.ensures.on_refusal in
    let key = c.in_ok-key.key in
    let old = c.args.self.now in
    let put : pool.part owner_of c.owner-tenant.result c.put.new.self ≡ with_span key (Some c.args.span) (pool.part owner_of c.owner-tenant.result old.spans) =
    subst (λ (t : ℕ). pool.part owner_of t c.put.new.self ≡ with_span key (Some c.args.span) (pool.part owner_of t old.spans)) (sym c.owner-tenant.ensures) c.in_ok-key.ensures.own_part in
    let none : pool.part owner_of c.owner-tenant.result old.spans key ≡ None = c.in_ok-key.ensures.vacant c.owner-tenant.result in
    let back : pool.part owner_of c.owner-tenant.result c.undo_put.new.self ≡ pool.part owner_of c.owner-tenant.result old.spans =
    c.undo_put.ensures.own_part ∙ (ap (with_span key None) put ∙ span_restored (pool.part owner_of c.owner-tenant.result old.spans) key (Some c.args.span) None none) in
    subst (λ (t : ℕ). part t (record { alloc = old.alloc; spans = c.undo_put.new.self; texts = old.texts; rows = c.open_row.new.rows }) ≡ part t old) c.owner-tenant.ensures (part_by _ _ _ _ _ _ _ _ back refl same.rows same.latest_rows)

pub returns-in-Ok-clause-others_unchanged : goal.returns-in-Ok-clause-others_unchanged
returns-in-Ok-clause-others_unchanged g c = λ other ne.
    let same = c.in-Ok.ensures.others_unchanged other (λ e. ne (e ∙ c.owner-tenant.ensures)) in
    part_by _ _ _ _ _ _ _ _ (c.in_ok-key.ensures.others_unchanged other ne) refl same.rows same.latest_rows

pub returns-in-Ok-clause-store_invariant : goal.returns-in-Ok-clause-store_invariant
returns-in-Ok-clause-store_invariant g c = λ n pending held at sound.
    let span = c.args.span in
    let stores = c.args.self.now in
    let old = part span.owner stores in
    let new = part span.owner (record stores { spans = c.put.new.self; rows = c.open_row.new.rows }) in
    let key = c.in_ok-key.key in
    let change : Opens c.args.number key c.args.due c.args.trace span c.args.note old new = record {
      vacant = c.in_ok-key.ensures.vacant span.owner;
      spans = c.in_ok-key.ensures.own_part;
      texts = refl;
      rows = subst (λ (t : ℕ). rows_part t c.open_row.new.rows ≡ with_at c.args.number (Some (new_row c.args.trace c.args.due key c.args.note)) (rows_part t stores.rows)) c.owner-tenant.ensures c.in-Ok.ensures.rows;
      latest_rows = subst (λ (t : ℕ). latest_rows_part t c.open_row.new.rows ≡ with_latest_row c.args.trace (Some c.args.number) (latest_rows_part t stores.rows)) c.owner-tenant.ensures c.in-Ok.ensures.latest_rows;
    } in
    let e : c.args.number ≡ suc n.opened = omega (arith, at) in
    opens_sound key c.args.due c.args.trace span c.args.note old new n pending held (subst (λ (k : ℕ). Opens k key c.args.due c.args.trace span c.args.note old new) e change) sound

pub returns-in-Ok-clause-shows : goal.returns-in-Ok-clause-shows
returns-in-Ok-clause-shows g c = λ n pending held keys at sound among.
    let span = c.args.span in
    let stores = c.args.self.now in
    let old = part span.owner stores in
    let new = part span.owner (record stores { spans = c.put.new.self; rows = c.open_row.new.rows }) in
    let key = c.in_ok-key.key in
    let change : Opens c.args.number key c.args.due c.args.trace span c.args.note old new = record {
      vacant = c.in_ok-key.ensures.vacant span.owner;
      spans = c.in_ok-key.ensures.own_part;
      texts = refl;
      rows = subst (λ (t : ℕ). rows_part t c.open_row.new.rows ≡ with_at c.args.number (Some (new_row c.args.trace c.args.due key c.args.note)) (rows_part t stores.rows)) c.owner-tenant.ensures c.in-Ok.ensures.rows;
      latest_rows = subst (λ (t : ℕ). latest_rows_part t c.open_row.new.rows ≡ with_latest_row c.args.trace (Some c.args.number) (latest_rows_part t stores.rows)) c.owner-tenant.ensures c.in-Ok.ensures.latest_rows;
    } in
    let e : c.args.number ≡ suc n.opened = omega (arith, at) in
    opens_shows key c.args.due c.args.trace span c.args.note old new n (subst (λ (k : ℕ). Opens k key c.args.due c.args.trace span c.args.note old new) e change) pending held sound keys among
