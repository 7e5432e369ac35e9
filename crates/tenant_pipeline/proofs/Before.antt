-- What spans of a post changed, where texts were held after them, as if these had been held before.
use Rattle.std.proofs.Common.{◌≡◌, ◌∙◌, ℕ, List, [], ◌∷◌, refl, sym, ap, subst, arith, Bool, true, false, cond, eqb, Option}
use Rattle.std.proofs.lemmas.Bool.Decides.{nat_tests}
use Rattle.std.proofs.Math.Path.{fun_ext}
use Rattle.text_pool.specs.Part.{with_text, released}
use Rattle.text_pool.specs.declared.pool.CountedText.{CountedText}
use Rattle.tenant_stores.specs.declared.undo.UndoEntry.{UndoEntry}
use Rattle.tenant_stores.specs.declared.undo.UndoEntry.TheVariants.{Left, Joined, Opened, Late}
use Rattle.tenant_stores.specs.Changes.{all_released, Joins, Opens, Waits}
use Rattle.tenant_stores.specs.Part.{Part}
use Rattle.tenant_stores.specs.Trail.{HoldsAll, IsUndone, Trail}
use Rattle.tenant_stores.specs.View.{text_keys}

-- ---- uses are given back in any order

abbrev once : ℕ → (ℕ → Option CountedText) → ℕ → Option CountedText
once key at = with_text key (released (at key)) at

at_key : (key : ℕ) (at : ℕ → Option CountedText) (j : ℕ) → once key at j ≡ cond (eqb j key) (released (at j)) (at j)
at_key key at j = by_test (eqb j key) refl
  where
    by_test : (b : Bool) → eqb j key ≡ b → once key at j ≡ cond b (released (at j)) (at j)
    by_test true e =
        let same : j ≡ key = grind (arith, nat_tests, e) in
        let there = ap (λ (k : ℕ). released (at k)) same in
        grind (arith, nat_tests, e, there)
    by_test false e = grind (arith, nat_tests, e)

once_twice : (a b : ℕ) (at : ℕ → Option CountedText) → once a (once b at) ≡ once b (once a at)
once_twice a b at = fun_ext (λ j.
    at_key a (once b at) j
    ∙ (ap (λ (o : Option CountedText). cond (eqb j a) (released o) o) (at_key b at j)
    ∙ (by_tests (eqb j a) (eqb j b) (at j)
    ∙ (ap (λ (o : Option CountedText). cond (eqb j b) (released o) o) (sym (at_key a at j))
    ∙ sym (at_key b (once a at) j)))))
  where
    by_tests : (x y : Bool) (o : Option CountedText) →
        cond x (released (cond y (released o) o)) (cond y (released o) o) ≡ cond y (released (cond x (released o) o)) (cond x (released o) o)
    by_tests true true o = refl
    by_tests true false o = refl
    by_tests false true o = refl
    by_tests false false o = refl

once_before : (keys : List ℕ) (a : ℕ) (at : ℕ → Option CountedText) → all_released keys (once a at) ≡ once a (all_released keys at)
once_before [] a at = refl
once_before (key ∷ keys) a at = ap (all_released keys) (once_twice key a at) ∙ once_before keys a (once key at)

either_first : (xs ys : List ℕ) (at : ℕ → Option CountedText) → all_released xs (all_released ys at) ≡ all_released ys (all_released xs at)
either_first xs [] at = refl
either_first xs (y ∷ ys) at = either_first xs ys (once y at) ∙ ap (all_released ys) (once_before xs y at)

-- ---- a span's change, and those of several

module _ {N : Type 0} (keys : List ℕ) where
  -- a part from which this entry led to one, with more texts held
  abbrev Before : UndoEntry N → (old new' : Part N) → Type 0
  Before entry old new' = (old' : Part N) × IsUndone entry old' new' × HoldsAll keys old old'

  one_before : (entry : UndoEntry N) (old new new' : Part N) → IsUndone entry old new → HoldsAll keys new new' → Before entry old new'
  one_before Left old new new' same held = (new', refl, subst (λ (p : Part N). HoldsAll keys p new') same held)
  one_before (Joined number former) old new new' undone held =
      let span = undone.1 in
      let holds = undone.7 in
      let joins = undone.8 in
      let uses = text_keys span.keys in
      let old' : Part N = record old { texts = all_released uses new'.texts } in
      let middle' : Part N = record (undone.4) { texts = new'.texts } in
      let holds' : HoldsAll uses old' middle' = record { spans = holds.spans; texts = refl; rows = holds.rows; latest_rows = holds.latest_rows } in
      let joins' : Joins number undone.0 span undone.3 middle' new' = record {
        vacant = joins.vacant;
        spans = held.spans ∙ joins.spans;
        texts = refl;
        rows = held.rows ∙ joins.rows;
        latest_rows = held.latest_rows ∙ joins.latest_rows;
      } in
      let more : HoldsAll keys old old' = record {
        spans = refl;
        texts = either_first keys uses new'.texts ∙ (ap (all_released uses) (held.texts ∙ joins.texts) ∙ holds.texts);
        rows = refl;
        latest_rows = refl;
      } in
      (old', (undone.0, span, undone.2, undone.3, middle', undone.5, undone.6, holds', joins'), more)
  one_before (Opened number key earlier) old new new' undone held =
      let span = undone.1 in
      let holds = undone.7 in
      let opens = undone.8 in
      let uses = text_keys span.keys in
      let old' : Part N = record old { texts = all_released uses new'.texts } in
      let middle' : Part N = record (undone.4) { texts = new'.texts } in
      let holds' : HoldsAll uses old' middle' = record { spans = holds.spans; texts = refl; rows = holds.rows; latest_rows = holds.latest_rows } in
      let opens' : Opens number key undone.2 undone.0 span undone.3 middle' new' = record {
        vacant = opens.vacant;
        spans = held.spans ∙ opens.spans;
        texts = refl;
        rows = held.rows ∙ opens.rows;
        latest_rows = held.latest_rows ∙ opens.latest_rows;
      } in
      let more : HoldsAll keys old old' = record {
        spans = refl;
        texts = either_first keys uses new'.texts ∙ (ap (all_released uses) (held.texts ∙ opens.texts) ∙ holds.texts);
        rows = refl;
        latest_rows = refl;
      } in
      (old', (undone.0, span, undone.2, undone.3, middle', undone.5, undone.6, holds', opens'), more)
  one_before (Late key) old new new' undone held =
      let span = undone.0 in
      let holds = undone.2 in
      let waits = undone.3 in
      let uses = text_keys span.keys in
      let old' : Part N = record old { texts = all_released uses new'.texts } in
      let middle' : Part N = record (undone.1) { texts = new'.texts } in
      let holds' : HoldsAll uses old' middle' = record { spans = holds.spans; texts = refl; rows = holds.rows; latest_rows = holds.latest_rows } in
      let waits' : Waits key span middle' new' = record {
        vacant = waits.vacant;
        spans = held.spans ∙ waits.spans;
        texts = refl;
        rows = held.rows ∙ waits.rows;
        latest_rows = held.latest_rows ∙ waits.latest_rows;
      } in
      let more : HoldsAll keys old old' = record {
        spans = refl;
        texts = either_first keys uses new'.texts ∙ (ap (all_released uses) (held.texts ∙ waits.texts) ∙ holds.texts);
        rows = refl;
        latest_rows = refl;
      } in
      (old', (span, middle', holds', waits'), more)

  -- from a start with them held what was placed leads to what it led to, with them held
  pub all_before : (placed : List (UndoEntry N)) (start end end' : Part N) → Trail start placed end → HoldsAll keys end end' →
      (start' : Part N) × Trail start' placed end' × HoldsAll keys start start'
  all_before [] start end end' same held = (end', refl, subst (λ (p : Part N). HoldsAll keys p end') same held)
  all_before (entry ∷ rest) start end end' trail held =
      let later = all_before rest trail.0 end end' trail.2 held in
      let first = one_before entry start trail.0 later.0 trail.1 later.2 in
      (first.0, (later.0, first.1, later.1), first.2)
