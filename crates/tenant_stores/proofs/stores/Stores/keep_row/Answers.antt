use Rattle.std.proofs.Common.{◌≡◌, ◌∙◌, ap, sym, subst, refl, arith, ℕ, suc, List, ◌++◌, true}
use Rattle.trace_rows.specs.Part.{keys_of}
use Rattle.tenant_stores.specs.Part.{part}
use Rattle.tenant_stores.specs.Counts.{one_decided}
use Rattle.tenant_stores.specs.Invariant.{StoreInvariant}
use Rattle.tenant_stores.specs.Changes.{Settles}
use Rattle.tenant_stores.proofs.Sounds.{settles_sound}
use Rattle.tenant_stores.proofs.Parts.{part_by}
use Rattle.tenant_stores.specs.View.{view}
use Rattle.tenant_stores.proofs.Shows.{keeps_shows}
use Rattle.tenant_stores.proofs.stores.Stores.keep_row.Goals as goal

pub returns-clause-others_unchanged : goal.returns-clause-others_unchanged
returns-clause-others_unchanged g c = λ other ne. let same = c.settle.ensures.others_unchanged other ne in part_by _ _ _ _ _ _ _ _ refl refl same.rows same.latest_rows

pub returns-clause-store_invariant : goal.returns-clause-store_invariant
returns-clause-store_invariant g c = λ n pending held at below sound.
    let old = part c.args.tenant c.args.self.now in
    let new = part c.args.tenant (record c.args.self.now { rows = c.settle.new.self }) in
    let e : c.args.number ≡ suc n.decided = omega (arith, at) in
    let change : Settles (suc n.decided) true old new = subst (λ (k : ℕ). Settles k true old new) e (record { spans = refl; texts = refl; rows = c.settle.ensures.rows; latest_rows = c.settle.ensures.latest_rows }) in
    let keys : c.settle.result ≡ keys_of (old.rows (suc n.decided)) = c.settle.ensures.keys ∙ ap (λ (k : ℕ). keys_of (old.rows k)) e in
    subst (λ (ks : List ℕ). StoreInvariant (one_decided n) (pending ++ ks) held new) (sym keys) (settles_sound true old new n pending held change (omega (arith, at, below)) sound)

pub returns-clause-shows : goal.returns-clause-shows
returns-clause-shows g c = λ n pending held keys at below sound.
    let old = part c.args.tenant c.args.self.now in
    let new = part c.args.tenant (record c.args.self.now { rows = c.settle.new.self }) in
    let e : c.args.number ≡ suc n.decided = omega (arith, at) in
    let change : Settles (suc n.decided) true old new = subst (λ (k : ℕ). Settles k true old new) e (record { spans = refl; texts = refl; rows = c.settle.ensures.rows; latest_rows = c.settle.ensures.latest_rows }) in
    let row : c.settle.result ≡ keys_of (old.rows (suc n.decided)) = c.settle.ensures.keys ∙ ap (λ (k : ℕ). keys_of (old.rows k)) e in
    ap (λ (ks : List ℕ). view (one_decided n) (keys ++ ks) new) row ∙ keeps_shows true old new n change (omega (arith, at, below)) pending held sound refl keys
