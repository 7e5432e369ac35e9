-- What takes a change back.
use Rattle.std.proofs.Common.{◌≡◌, ◌≢◌, ℕ, ◌-◌, List, [], ◌∷◌, ◌++◌, refl, sym, ap, ◌∙◌, arith, Bool, true, false, Option, Some, None, IfSome, option_to_list, eqb, bytes_eq, cond, length, take, subst, length-append}
use Rattle.std.proofs.lemmas.Bool.Decides.{nat_tests}
use Rattle.std.proofs.lemmas.List.{take_at}
use Rattle.std.proofs.lemmas.Slice.Eq.{bytes_eq-Decides}
use Rattle.std.specs.Cmp.Lexicographic.{nat_list_eq_equiv}
use Rattle.std.proofs.Math.Path.{fun_ext}
use Rattle.span_pool.specs.Stored.{StoredData}
use Rattle.span_pool.specs.Pool.{with_span, without}
use Rattle.trace_rows.specs.Part.{with_at, with_latest_row, joined, unjoined, latest_key}
use Rattle.trace_rows.specs.declared.table.Row.{Row}
use Rattle.trace_rows.proofs.Latest.{last_or-snoc}
use Rattle.tenant_stores.specs.declared.undo.UndoEntry.{UndoEntry}
use Rattle.tenant_stores.specs.declared.undo.UndoEntry.TheVariants.{Joined, Opened, Late}
use Rattle.tenant_stores.specs.Part.{Part}
use Rattle.tenant_stores.specs.View.{text_keys, text_keys_of}
use Rattle.tenant_stores.specs.Changes.{all_released, texts_without, Leaves, new_row}
use Rattle.tenant_stores.specs.Trail.{HoldsAll, IsUndone, Trail}
use Rattle.tenant_stores.proofs.Parts.{part_by, span_here, span_restored}

module _ {X : Type 0} where
  pub row_here : (k : ℕ) (slot : Option X) (f : ℕ → Option X) → with_at k slot f k ≡ slot
  row_here k slot f = grind (arith, nat_tests)

  pub row_restored : (f : ℕ → Option X) (k : ℕ) (slot was : Option X) → f k ≡ was → with_at k was (with_at k slot f) ≡ f
  row_restored f k slot was had = fun_ext (λ j. one j (eqb j k) refl)
    where
      one : (j : ℕ) (b : Bool) → eqb j k ≡ b → with_at k was (with_at k slot f) j ≡ f j
      one j true e = let same : j ≡ k = grind (arith, nat_tests, e) in let there : f j ≡ was = ap f same ∙ had in grind (arith, nat_tests, e, there)
      one j false e = grind (arith, nat_tests, e)

same_bytes : (a b : List ℕ) → bytes_eq a b ≡ true → a ≡ b
same_bytes a b e = (bytes_eq-Decides a b).0 e

pub seat_here : (trace : List ℕ) (slot : Option ℕ) (f : List ℕ → Option ℕ) → with_latest_row trace slot f trace ≡ slot
seat_here trace slot f = let same : bytes_eq trace trace ≡ true = nat_list_eq_equiv.refl trace in rw same refl

pub seat_restored : (f : List ℕ → Option ℕ) (trace : List ℕ) (slot was : Option ℕ) → f trace ≡ was → with_latest_row trace was (with_latest_row trace slot f) ≡ f
seat_restored f trace slot was had = fun_ext (λ j. one j (bytes_eq j trace) refl)
  where
    one : (j : List ℕ) (b : Bool) → bytes_eq j trace ≡ b → cond (bytes_eq j trace) was (cond (bytes_eq j trace) slot (f j)) ≡ f j
    one j true e = rw e (sym (ap f (same_bytes j trace e) ∙ had))
    one j false e = rw e refl

module _ {N : Type 0} where
  unjoin : (key : ℕ) (note former : N) (row : Row N) → row.note ≡ former → unjoined former (joined key note (Some row)) ≡ Some row
  unjoin key note former row same =
      let len : length (row.keys ++ key ∷ []) - 1 ≡ length row.keys = omega (arith, length-append row.keys (key ∷ [])) in
      let keys : take (length (row.keys ++ key ∷ []) - 1) (row.keys ++ key ∷ []) ≡ row.keys = ap (λ (n : ℕ). take n (row.keys ++ key ∷ [])) len ∙ take_at row.keys (key ∷ []) (length row.keys) refl in
      let at_keys : unjoined former (joined key note (Some row)) ≡ Some (record row { note = former }) = ap (λ (ks : List ℕ). Some (record row { keys = ks; note = former })) keys in
      at_keys ∙ ap (λ (n : N). Some (record row { note = n })) (sym same)

  -- the span leaves again, and what it has of texts
  left_again : (start middle q r : Part N) (key : ℕ) (span : StoredData) → middle.spans key ≡ None → q.spans ≡ with_span key (Some span) middle.spans → q.texts ≡ middle.texts
      → HoldsAll (text_keys span.keys) start middle → r.spans ≡ without (key ∷ []) q.spans → r.texts ≡ texts_without (key ∷ []) q.spans q.texts
      → (r.spans ≡ start.spans) × (r.texts ≡ start.texts)
  left_again start middle q r key span vacant spans texts holds gone released =
      let there : q.spans key ≡ Some span = ap (λ (f : ℕ → Option StoredData). f key) spans ∙ span_here key (Some span) middle.spans in (
        gone ∙ (ap (with_span key None) spans ∙ (span_restored middle.spans key (Some span) None vacant ∙ holds.spans)),
        released ∙ (ap (λ (o : Option StoredData). all_released (text_keys_of o) q.texts) there ∙ (ap (all_released (text_keys span.keys)) texts ∙ holds.texts)),
      )

  pub back_joined : (start p q r : Part N) (number : ℕ) (former : N) (latest : Option ℕ) → IsUndone (Joined number former) start p
      → latest ≡ latest_key (p.rows number)
      → q.spans ≡ p.spans → q.texts ≡ p.texts → q.rows ≡ with_at number (unjoined former (p.rows number)) p.rows → q.latest_rows ≡ p.latest_rows
      → Leaves (option_to_list latest) q r → r ≡ start
  back_joined start p q r number former latest (key, span, row, note, middle, had, same, holds, joins) is spans texts rows latest_rows left_by =
      let had' : middle.rows number ≡ Some row = ap (λ (f : ℕ → Option (Row N)). f number) holds.rows ∙ had in
      let at_number : p.rows number ≡ joined key note (middle.rows number) = ap (λ (f : ℕ → Option (Row N)). f number) joins.rows ∙ row_here number (joined key note (middle.rows number)) middle.rows in
      let key_is : latest ≡ Some key = is ∙ (ap latest_key (at_number ∙ ap (joined key note) had') ∙ last_or-snoc None row.keys key) in
      let leaves : Leaves (key ∷ []) q r = subst (λ (o : Option ℕ). Leaves (option_to_list o) q r) key_is left_by in
      let left = left_again start middle q r key span joins.vacant (spans ∙ joins.spans) (texts ∙ joins.texts) holds leaves.spans leaves.texts in
      let back : unjoined former (p.rows number) ≡ Some row = ap (unjoined former) (at_number ∙ ap (joined key note) had') ∙ unjoin key note former row same in
      let whole : q.rows ≡ middle.rows = rows ∙ (ap (λ (o : Option (Row N)). with_at number o p.rows) back ∙ (ap (with_at number (Some row)) joins.rows ∙ row_restored middle.rows number (joined key note (middle.rows number)) (Some row) had')) in
      part_by r.spans start.spans r.texts start.texts r.rows start.rows r.latest_rows start.latest_rows left.0 left.1 (leaves.rows ∙ (whole ∙ holds.rows)) (leaves.latest_rows ∙ (latest_rows ∙ (joins.latest_rows ∙ holds.latest_rows)))

  pub back_opened : (start p q r : Part N) (number key : ℕ) (earlier : Option ℕ) → IsUndone (Opened number key earlier) start p
      → q.spans ≡ p.spans → q.texts ≡ p.texts → q.rows ≡ with_at number None p.rows
      → IfSome (p.rows number) (λ row. p.latest_rows row.trace ≢ None → q.latest_rows ≡ with_latest_row row.trace earlier p.latest_rows)
      → Leaves (key ∷ []) q r → r ≡ start
  back_opened start p q r number key earlier (trace, span, due, note, middle, none, latest_row, holds, opens) spans texts rows latest_rows leaves =
      let left = left_again start middle q r key span opens.vacant (spans ∙ opens.spans) (texts ∙ opens.texts) holds leaves.spans leaves.texts in
      let none' : middle.rows number ≡ None = ap (λ (f : ℕ → Option (Row N)). f number) holds.rows ∙ none in
      let seat' : middle.latest_rows trace ≡ earlier = ap (λ (f : List ℕ → Option ℕ). f trace) holds.latest_rows ∙ latest_row in
      let there : p.latest_rows trace ≡ Some number = ap (λ (f : List ℕ → Option ℕ). f trace) opens.latest_rows ∙ seat_here trace (Some number) middle.latest_rows in
      let some : p.latest_rows trace ≢ None = λ e. absurd (is_some (sym there ∙ e)) in
      let at_number : p.rows number ≡ Some (new_row trace due key note) = ap (λ (f : ℕ → Option (Row N)). f number) opens.rows ∙ row_here number (Some (new_row trace due key note)) middle.rows in
      let restored : p.latest_rows trace ≢ None → q.latest_rows ≡ with_latest_row trace earlier p.latest_rows =
      subst (λ (o : Option (Row N)). IfSome o (λ (row : Row N). p.latest_rows row.trace ≢ None → q.latest_rows ≡ with_latest_row row.trace earlier p.latest_rows)) at_number latest_rows in
      let whole : q.rows ≡ middle.rows = rows ∙ (ap (with_at number None) opens.rows ∙ row_restored middle.rows number (Some (new_row trace due key note)) None none') in
      let seats_whole : q.latest_rows ≡ middle.latest_rows = restored some ∙ (ap (with_latest_row trace earlier) opens.latest_rows ∙ seat_restored middle.latest_rows trace (Some number) earlier seat') in
      part_by r.spans start.spans r.texts start.texts r.rows start.rows r.latest_rows start.latest_rows left.0 left.1 (leaves.rows ∙ (whole ∙ holds.rows)) (leaves.latest_rows ∙ (seats_whole ∙ holds.latest_rows))
    where
      is_some : {n : ℕ} → Some n ≡ None → ⊥
      is_some e = absurd (cc)

  pub back_late : (start p r : Part N) (key : ℕ) → IsUndone (Late key) start p → Leaves (key ∷ []) p r → r ≡ start
  back_late start p r key (span, middle, holds, waits) leaves =
      let left = left_again start middle p r key span waits.vacant waits.spans waits.texts holds leaves.spans leaves.texts in
      part_by r.spans start.spans r.texts start.texts r.rows start.rows r.latest_rows start.latest_rows left.0 left.1 (leaves.rows ∙ (waits.rows ∙ holds.rows)) (leaves.latest_rows ∙ (waits.latest_rows ∙ holds.latest_rows))

  pub Trail_pop : (start end : Part N) (xs : List (UndoEntry N)) (x : UndoEntry N) → Trail start (xs ++ x ∷ []) end → (middle : Part N) × Trail start xs middle × IsUndone x middle end
  Trail_pop start end [] x t = (start, refl, subst (IsUndone x start) (sym t.2) t.1)
  Trail_pop start end (y ∷ ys) x t =
      let rest = Trail_pop t.0 end ys x t.2 in
      (rest.0, (t.0, t.1, rest.1), rest.2)
