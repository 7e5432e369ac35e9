-- The entries of a map of active batches, and the batches that they stand for.
use Rattle.std.proofs.Common.{◌≡◌, ℕ, ◌<◌, List, [], ◌∷◌, ◌++◌, refl, sym, ap, ◌∙◌, arith, Bool, true, false, Option, Some, None, option_map, eqb, cond, Greater, Bor}
use Rattle.std.proofs.lemmas.Bool.Decides.{nat_tests}
use Rattle.std.specs.Ordering.{nat_cmp, is_eq}
use Rattle.std.specs.Cmp.{unsigned_ties, nat_eq_equiv}
use Rattle.std.specs.Map.{lookup, remove_entry, set_value}
use Rattle.std.specs.BTreeMap.{is_at, insert_entry}
use Rattle.std.specs.Option.{option_copied}
use Rattle.send_queue.specs.declared.active.Active.{Active}
use Rattle.send_queue.specs.Sender.{ActiveData, under, without, replaced}
use Rattle.send_queue.specs.View.{active_view, actives_view}
use Rattle.send_queue.specs.Inside.{AllBefore}

ties : (t k : ℕ) → is_eq (nat_cmp t k) ≡ eqb k t
ties t k = sym (unsigned_ties t k) ∙ nat_eq_equiv.symm t k

later : (t k : ℕ) → k < t → nat_cmp t k ≡ Greater
later t k lt = grind (arith, nat_tests)

pub under_view : (t : ℕ) (es : List (ℕ × Active)) → option_map {T = Active} {U = ActiveData} (λ a. active_view (t, a)) (lookup (is_at (nat_cmp t)) es) ≡ under t (actives_view es)
under_view t [] = refl
under_view t (e ∷ es) = by_test (eqb e.0 t) refl (under_view t es)
  where
    by_test : (b : Bool) → eqb e.0 t ≡ b → option_map {T = Active} {U = ActiveData} (λ a. active_view (t, a)) (lookup (is_at (nat_cmp t)) es) ≡ under t (actives_view es) → option_map {T = Active} {U = ActiveData} (λ a. active_view (t, a)) (lookup (is_at (nat_cmp t)) (e ∷ es)) ≡ under t (actives_view (e ∷ es))
    by_test true h rec =
        let same : t ≡ e.0 = grind (arith, nat_tests, h) in
        let found : is_eq (nat_cmp t e.0) ≡ true = ties t e.0 ∙ h in
        ap (λ (b : Bool). option_map {T = Active} {U = ActiveData} (λ a. active_view (t, a)) (cond b (Some e.1) (lookup (is_at (nat_cmp t)) es))) found
        ∙ (ap (λ (n : ℕ). Some (active_view (n, e.1))) same
        ∙ sym (ap (λ (b : Bool). cond b (Some (active_view e)) (under t (actives_view es))) h))
    by_test false h rec =
        let other : is_eq (nat_cmp t e.0) ≡ false = ties t e.0 ∙ h in
        ap (λ (b : Bool). option_map {T = Active} {U = ActiveData} (λ a. active_view (t, a)) (cond b (Some e.1) (lookup (is_at (nat_cmp t)) es))) other
        ∙ (rec ∙ sym (ap (λ (b : Bool). cond b (Some (active_view e)) (under t (actives_view es))) h))

pub without_view : (t : ℕ) (es : List (ℕ × Active)) → actives_view (remove_entry (is_at (nat_cmp t)) es) ≡ without t (actives_view es)
without_view t [] = refl
without_view t (e ∷ es) = by_test (eqb e.0 t) refl (without_view t es)
  where
    by_test : (b : Bool) → eqb e.0 t ≡ b → actives_view (remove_entry (is_at (nat_cmp t)) es) ≡ without t (actives_view es) → actives_view (remove_entry (is_at (nat_cmp t)) (e ∷ es)) ≡ without t (actives_view (e ∷ es))
    by_test b h rec =
        ap (λ (b : Bool). actives_view (cond b es (e ∷ remove_entry (is_at (nat_cmp t)) es))) (ties t e.0 ∙ h)
        ∙ (either b ∙ sym (ap (λ (b : Bool). cond b (actives_view es) (active_view e ∷ without t (actives_view es))) h))
      where
        either : (b : Bool) → actives_view (cond b es (e ∷ remove_entry (is_at (nat_cmp t)) es)) ≡ cond b (actives_view es) (active_view e ∷ without t (actives_view es))
        either true = refl
        either false = ap (λ (rest : List ActiveData). active_view e ∷ rest) rec

pub replaced_view : (t : ℕ) (es : List (ℕ × Active)) (w : Active) → actives_view (set_value (is_at (nat_cmp t)) es w) ≡ replaced t (active_view (t, w)) (actives_view es)
replaced_view t [] w = refl
replaced_view t (e ∷ es) w = by_test (eqb e.0 t) refl (replaced_view t es w)
  where
    by_test : (b : Bool) → eqb e.0 t ≡ b → actives_view (set_value (is_at (nat_cmp t)) es w) ≡ replaced t (active_view (t, w)) (actives_view es) → actives_view (set_value (is_at (nat_cmp t)) (e ∷ es) w) ≡ replaced t (active_view (t, w)) (actives_view (e ∷ es))
    by_test b h rec =
        ap (λ (b : Bool). actives_view (cond b ((e.0, w) ∷ es) (e ∷ set_value (is_at (nat_cmp t)) es w))) (ties t e.0 ∙ h)
        ∙ (either b h ∙ sym (ap (λ (b : Bool). cond b (active_view (t, w) ∷ actives_view es) (active_view e ∷ replaced t (active_view (t, w)) (actives_view es))) h))
      where
        either : (b : Bool) → eqb e.0 t ≡ b → actives_view (cond b ((e.0, w) ∷ es) (e ∷ set_value (is_at (nat_cmp t)) es w)) ≡ cond b (active_view (t, w) ∷ actives_view es) (active_view e ∷ replaced t (active_view (t, w)) (actives_view es))
        either true h = let same : e.0 ≡ t = grind (arith, nat_tests, h) in ap (λ (n : ℕ). active_view (n, w) ∷ actives_view es) same
        either false h = ap (λ (rest : List ActiveData). active_view e ∷ rest) rec

pub appended_view : (t : ℕ) (es : List (ℕ × Active)) (w : Active) → AllBefore t (actives_view es) → actives_view (insert_entry nat_cmp es t w) ≡ actives_view es ++ active_view (t, w) ∷ []
appended_view t [] w before = refl
appended_view t (e ∷ es) w before =
    rw (later t e.0 before.0) (ap (λ (rest : List ActiveData). active_view e ∷ rest) (appended_view t es w before.1))

-- what a borrowed batch is
pub borrowed : (t : ℕ) (r : Option (Bor Active)) → option_map {T = Bor Active} {U = ActiveData} (λ a. active_view (t, a.now)) r ≡ option_map {T = Active} {U = ActiveData} (λ a. active_view (t, a)) (option_copied r)
borrowed t None = refl
borrowed t (Some a) = refl
