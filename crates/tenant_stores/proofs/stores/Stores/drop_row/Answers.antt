use Rattle.std.proofs.Common.{◌≡◌, ◌∙◌, ap, subst, refl, arith, ℕ, suc, ◌++◌, false}
use Rattle.trace_rows.specs.Part.{keys_of}
use Rattle.tenant_stores.specs.Part.{part}
use Rattle.tenant_stores.specs.Counts.{one_decided, count}
use Rattle.tenant_stores.specs.Changes.{Settles}
use Rattle.tenant_stores.proofs.Lists.{count-append}
use Rattle.tenant_stores.proofs.Sounds.{settles_sound}
use Rattle.tenant_stores.proofs.Parts.{part_by}
use Rattle.tenant_stores.proofs.Shows.{drops_shows}
use Rattle.tenant_stores.proofs.stores.Stores.drop_row.Goals as goal

pub returns-clause-others_unchanged : goal.returns-clause-others_unchanged
returns-clause-others_unchanged g c = λ other ne.
    let same = c.settle-keys.ensures.others_unchanged other ne in
    c.flush.ensures.others_unchanged other ne ∙ part_by _ _ _ _ _ _ _ _ refl refl same.rows same.latest_rows

pub returns-clause-store_invariant : goal.returns-clause-store_invariant
returns-clause-store_invariant g c = λ n pending held at below sound.
    let old = part c.args.tenant c.args.self.now in
    let middle = part c.args.tenant (record c.args.self.now { rows = c.settle-keys.new.self }) in
    let e : c.args.number ≡ suc n.decided = omega (arith, at) in
    let change : Settles (suc n.decided) false old middle = subst (λ (k : ℕ). Settles k false old middle) e (record { spans = refl; texts = refl; rows = c.settle-keys.ensures.rows; latest_rows = c.settle-keys.ensures.latest_rows }) in
    let row_keys = keys_of (old.rows (suc n.decided)) in
    let keys : c.as_slice.result.now ≡ row_keys = c.as_slice.ensures ∙ (c.settle-keys.ensures.keys ∙ ap (λ (k : ℕ). keys_of (old.rows k)) e) in
    let decided = settles_sound false old middle n pending held change (omega (arith, at, below)) sound in
    c.flush.ensures.store_invariant (one_decided n) (pending ++ row_keys) pending held (λ j. omega (arith, count-append j pending row_keys, ap (count j) keys)) decided

pub returns-clause-shows : goal.returns-clause-shows
returns-clause-shows g c = λ n pending held shown at below sound among.
    let old = part c.args.tenant c.args.self.now in
    let middle = part c.args.tenant (record c.args.self.now { rows = c.settle-keys.new.self }) in
    let e : c.args.number ≡ suc n.decided = omega (arith, at) in
    let change : Settles (suc n.decided) false old middle = subst (λ (k : ℕ). Settles k false old middle) e (record { spans = refl; texts = refl; rows = c.settle-keys.ensures.rows; latest_rows = c.settle-keys.ensures.latest_rows }) in
    let row_keys = keys_of (old.rows (suc n.decided)) in
    let keys : c.as_slice.result.now ≡ row_keys = c.as_slice.ensures ∙ (c.settle-keys.ensures.keys ∙ ap (λ (k : ℕ). keys_of (old.rows k)) e) in
    let decided = settles_sound false old middle n pending held change (omega (arith, at, below)) sound in
    c.flush.ensures.shows (one_decided n) (pending ++ row_keys) pending held shown (λ j. omega (arith, count-append j pending row_keys, ap (count j) keys)) decided among
    ∙ drops_shows false old middle n change (omega (arith, at, below)) pending held sound refl shown

pub returns-clause-stay : goal.returns-clause-stay
returns-clause-stay g c = λ n pending held at below sound.
    let old = part c.args.tenant c.args.self.now in
    let middle = part c.args.tenant (record c.args.self.now { rows = c.settle-keys.new.self }) in
    let e : c.args.number ≡ suc n.decided = omega (arith, at) in
    let change : Settles (suc n.decided) false old middle = subst (λ (k : ℕ). Settles k false old middle) e (record { spans = refl; texts = refl; rows = c.settle-keys.ensures.rows; latest_rows = c.settle-keys.ensures.latest_rows }) in
    let row_keys = keys_of (old.rows (suc n.decided)) in
    let keys : c.as_slice.result.now ≡ row_keys = c.as_slice.ensures ∙ (c.settle-keys.ensures.keys ∙ ap (λ (k : ℕ). keys_of (old.rows k)) e) in
    let decided = settles_sound false old middle n pending held change (omega (arith, at, below)) sound in
    c.flush.ensures.stay (one_decided n) (pending ++ row_keys) pending held (λ j. omega (arith, count-append j pending row_keys, ap (count j) keys)) decided
