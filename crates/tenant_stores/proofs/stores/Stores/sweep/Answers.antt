use Rattle.std.proofs.Common.{◌≡◌, ◌∙◌, ap, refl, arith, ℕ, suc, ◌++◌, None}
use Rattle.trace_rows.specs.Part.{keys_of, with_at, without_latest_row, trace_in}
use Rattle.tenant_stores.specs.Part.{part}
use Rattle.tenant_stores.specs.Counts.{one_swept, count}
use Rattle.tenant_stores.proofs.Lists.{count-append}
use Rattle.tenant_stores.proofs.Sounds.{unrowed_sound}
use Rattle.tenant_stores.proofs.Parts.{part_by}
use Rattle.tenant_stores.proofs.Shows.{unrowed_shows}
use Rattle.tenant_stores.proofs.stores.Stores.sweep.Goals as goal

pub returns-clause-others_unchanged : goal.returns-clause-others_unchanged
returns-clause-others_unchanged g c = λ other ne.
    let same = c.sweep-keys.ensures.others_unchanged other ne in
    c.flush.ensures.others_unchanged other ne ∙ part_by _ _ _ _ _ _ _ _ refl refl same.rows same.latest_rows

pub returns-clause-store_invariant : goal.returns-clause-store_invariant
returns-clause-store_invariant g c = λ n pending held at below sound.
    let old = part c.args.tenant c.args.self.now in
    let middle = part c.args.tenant (record c.args.self.now { rows = c.sweep-keys.new.self }) in
    let e : c.args.number ≡ suc n.swept = omega (arith, at) in
    let row_keys = keys_of (old.rows (suc n.swept)) in
    let keys : c.as_slice.result.now ≡ row_keys = c.as_slice.ensures ∙ (c.sweep-keys.ensures.keys ∙ ap (λ (k : ℕ). keys_of (old.rows k)) e) in
    let rows : middle.rows ≡ with_at (suc n.swept) None old.rows = c.sweep-keys.ensures.rows ∙ ap (λ (k : ℕ). with_at k None old.rows) e in
    let latest_rows : middle.latest_rows ≡ without_latest_row (suc n.swept) (trace_in (old.rows (suc n.swept))) old.latest_rows = c.sweep-keys.ensures.latest_rows ∙ ap (λ (k : ℕ). without_latest_row k (trace_in (old.rows k)) old.latest_rows) e in
    let gone = unrowed_sound old middle n pending held refl refl rows latest_rows (omega (arith, at, below)) sound in
    c.flush.ensures.store_invariant (one_swept n) (pending ++ row_keys) pending held (λ j. omega (arith, count-append j pending row_keys, ap (count j) keys)) gone

pub returns-clause-shows : goal.returns-clause-shows
returns-clause-shows g c = λ n pending held shown at below sound among.
    let old = part c.args.tenant c.args.self.now in
    let middle = part c.args.tenant (record c.args.self.now { rows = c.sweep-keys.new.self }) in
    let e : c.args.number ≡ suc n.swept = omega (arith, at) in
    let row_keys = keys_of (old.rows (suc n.swept)) in
    let keys : c.as_slice.result.now ≡ row_keys = c.as_slice.ensures ∙ (c.sweep-keys.ensures.keys ∙ ap (λ (k : ℕ). keys_of (old.rows k)) e) in
    let rows : middle.rows ≡ with_at (suc n.swept) None old.rows = c.sweep-keys.ensures.rows ∙ ap (λ (k : ℕ). with_at k None old.rows) e in
    let latest_rows : middle.latest_rows ≡ without_latest_row (suc n.swept) (trace_in (old.rows (suc n.swept))) old.latest_rows = c.sweep-keys.ensures.latest_rows ∙ ap (λ (k : ℕ). without_latest_row k (trace_in (old.rows k)) old.latest_rows) e in
    let gone = unrowed_sound old middle n pending held refl refl rows latest_rows (omega (arith, at, below)) sound in
    c.flush.ensures.shows (one_swept n) (pending ++ row_keys) pending held shown (λ j. omega (arith, count-append j pending row_keys, ap (count j) keys)) gone among
    ∙ unrowed_shows old middle n refl refl rows (omega (arith, at, below)) sound.order.first shown

pub returns-clause-stay : goal.returns-clause-stay
returns-clause-stay g c = λ n pending held at below sound.
    let old = part c.args.tenant c.args.self.now in
    let middle = part c.args.tenant (record c.args.self.now { rows = c.sweep-keys.new.self }) in
    let e : c.args.number ≡ suc n.swept = omega (arith, at) in
    let row_keys = keys_of (old.rows (suc n.swept)) in
    let keys : c.as_slice.result.now ≡ row_keys = c.as_slice.ensures ∙ (c.sweep-keys.ensures.keys ∙ ap (λ (k : ℕ). keys_of (old.rows k)) e) in
    let rows : middle.rows ≡ with_at (suc n.swept) None old.rows = c.sweep-keys.ensures.rows ∙ ap (λ (k : ℕ). with_at k None old.rows) e in
    let latest_rows : middle.latest_rows ≡ without_latest_row (suc n.swept) (trace_in (old.rows (suc n.swept))) old.latest_rows = c.sweep-keys.ensures.latest_rows ∙ ap (λ (k : ℕ). without_latest_row k (trace_in (old.rows k)) old.latest_rows) e in
    let gone = unrowed_sound old middle n pending held refl refl rows latest_rows (omega (arith, at, below)) sound in
    c.flush.ensures.stay (one_swept n) (pending ++ row_keys) pending held (λ j. omega (arith, count-append j pending row_keys, ap (count j) keys)) gone
