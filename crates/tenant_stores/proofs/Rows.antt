-- What another row at a number does to keys and latest rows.
use Rattle.std.proofs.Common.{◌≡◌, ◌≢◌, ℕ, zero, suc, ◌+◌, ◌-◌, ◌<◌, ◌≤◌, List, [], ◌∷◌, ◌++◌, refl, sym, ap, ◌∙◌, arith, append_assoc, Bool, true, false, Option, Some, None, eqb, bytes_eq, cond}
use Rattle.std.proofs.lemmas.Bool.Decides.{nat_tests}
use Rattle.std.proofs.lemmas.Slice.Eq.{bytes_eq-Decides}
use Rattle.std.specs.Cmp.Lexicographic.{nat_list_eq_equiv}
use Rattle.trace_rows.specs.declared.table.Row.{Row}
use Rattle.trace_rows.specs.Part.{with_at, with_latest_row, joined, settled, keys_of, without_latest_row, is_number, trace_in}
use Rattle.tenant_stores.specs.Counts.{range, count}
use Rattle.tenant_stores.specs.View.{keys_in}
use Rattle.tenant_stores.specs.Invariant.{if_of, last_of, latest_row_in}
use Rattle.tenant_stores.proofs.Lists.{count-append, AreOther, range-above, range-below, split}

last_of-assoc : (a b c : Option ℕ) → last_of (last_of a b) c ≡ last_of a (last_of b c)
last_of-assoc a b None = refl
last_of-assoc a b (Some c) = refl

last_of-none : (a : Option ℕ) → last_of None a ≡ a
last_of-none None = refl
last_of-none (Some a) = refl

module _ {N : Type 0} where
  pub row_here : (k : ℕ) (w : Option (Row N)) (rows : ℕ → Option (Row N)) → with_at k w rows k ≡ w
  row_here k w rows = grind (arith, nat_tests)

  pub row_other : (k : ℕ) (w : Option (Row N)) (rows : ℕ → Option (Row N)) (j : ℕ) → j ≢ k → with_at k w rows j ≡ rows j
  row_other k w rows j ne = grind (arith, nat_tests)

  pub row_either : (k : ℕ) (w : Option (Row N)) (rows : ℕ → Option (Row N)) (P : Option (Row N) → Type 0) (j : ℕ) → (j ≡ k → P w) → (j ≢ k → P (rows j)) → P (with_at k w rows j)
  row_either k w rows P j here there = by_test (eqb j k) refl
    where
      by_test : (b : Bool) → eqb j k ≡ b → P (cond b w (rows j))
      by_test true e = here (grind (arith, nat_tests, e))
      by_test false e = there (grind (arith, nat_tests, e))

  pub keys_in-append : (rows : ℕ → Option (Row N)) (xs ys : List ℕ) → keys_in rows (xs ++ ys) ≡ keys_in rows xs ++ keys_in rows ys
  keys_in-append rows [] ys = refl
  keys_in-append rows (x ∷ xs) ys = ap (λ (ks : List ℕ). keys_of (rows x) ++ ks) (keys_in-append rows xs ys) ∙ sym (append_assoc (keys_of (rows x)) (keys_in rows xs) (keys_in rows ys))

  pub seat_in-append : (rows : ℕ → Option (Row N)) (xs ys : List ℕ) (trace : List ℕ) → latest_row_in rows (xs ++ ys) trace ≡ last_of (latest_row_in rows xs trace) (latest_row_in rows ys trace)
  seat_in-append rows [] ys trace = sym (last_of-none (latest_row_in rows ys trace))
  seat_in-append rows (x ∷ xs) ys trace = ap (last_of (if_of trace (rows x) x)) (seat_in-append rows xs ys trace) ∙ sym (last_of-assoc (if_of trace (rows x) x) (latest_row_in rows xs trace) (latest_row_in rows ys trace))

  pub keys-other : (k : ℕ) (w : Option (Row N)) (rows : ℕ → Option (Row N)) (js : List ℕ) → AreOther k js → keys_in (with_at k w rows) js ≡ keys_in rows js
  keys-other k w rows [] other = refl
  keys-other k w rows (j ∷ js) other =
      let here : keys_of (with_at k w rows j) ≡ keys_of (rows j) = ap keys_of (row_other k w rows j other.0) in
      cc (here, keys-other k w rows js other.1)

  pub seat-other : (k : ℕ) (w : Option (Row N)) (rows : ℕ → Option (Row N)) (trace : List ℕ) (js : List ℕ) → AreOther k js → latest_row_in (with_at k w rows) js trace ≡ latest_row_in rows js trace
  seat-other k w rows trace [] other = refl
  seat-other k w rows trace (j ∷ js) other =
      let here : if_of trace (with_at k w rows j) j ≡ if_of trace (rows j) j = ap (λ (r : Option (Row N)). if_of trace r j) (row_other k w rows j other.0) in
      cc (here, seat-other k w rows trace js other.1)

  -- the same latest rows where each number's row is of the same trace
  seat_in-same : (f g : ℕ → Option (Row N)) (trace : List ℕ) (js : List ℕ) → ((j : ℕ) → if_of trace (f j) j ≡ if_of trace (g j) j) → latest_row_in f js trace ≡ latest_row_in g js trace
  seat_in-same f g trace [] same = refl
  seat_in-same f g trace (j ∷ js) same = cc (same j, seat_in-same f g trace js same)

  -- another row of the same trace, or none as before
  pub seat-replaced : (k : ℕ) (w : Option (Row N)) (rows : ℕ → Option (Row N)) → ((trace : List ℕ) (j : ℕ) → if_of trace w j ≡ if_of trace (rows k) j) → (trace : List ℕ) (js : List ℕ) → latest_row_in (with_at k w rows) js trace ≡ latest_row_in rows js trace
  seat-replaced k w rows same trace js = seat_in-same (with_at k w rows) rows trace js (λ j.
      row_either k w rows (λ o. if_of trace o j ≡ if_of trace (rows j) j) j (λ e. same trace j ∙ ap (λ (i : ℕ). if_of trace (rows i) j) (sym e)) (λ e. refl))

  pub settled_of : (sampled : Bool) (o : Option (Row N)) (trace : List ℕ) (j : ℕ) → if_of trace (settled sampled o) j ≡ if_of trace o j
  settled_of sampled None trace j = refl
  settled_of sampled (Some row) trace j = refl

  pub settled_keys : (sampled : Bool) (o : Option (Row N)) → keys_of (settled sampled o) ≡ []
  settled_keys sampled None = refl
  settled_keys sampled (Some row) = refl

  pub settled_there : (sampled : Bool) (o : Option (Row N)) → o ≢ None → settled sampled o ≢ None
  settled_there sampled None there = λ e. there refl
  settled_there sampled (Some row) there = λ e. absurd (cc)

  pub joined_of : (key : ℕ) (note : N) (o : Option (Row N)) (trace : List ℕ) (j : ℕ) → if_of trace (joined key note o) j ≡ if_of trace o j
  joined_of key note None trace j = refl
  joined_of key note (Some row) trace j = refl

  pub joined_keys : (key : ℕ) (note : N) (o : Option (Row N)) → o ≢ None → keys_of (joined key note o) ≡ keys_of o ++ key ∷ []
  joined_keys key note None there = absurd (there refl)
  joined_keys key note (Some row) there = refl

  pub joined_there : (key : ℕ) (note : N) (o : Option (Row N)) → o ≢ None → joined key note o ≢ None
  joined_there key note None there = λ e. there refl
  joined_there key note (Some row) there = λ e. absurd (cc)

  -- how often a key is named by rows before, at and after a number
  named_parts : (rows : ℕ → Option (Row N)) (s d o j : ℕ) → s ≤ d → d < o →
      count j (keys_in rows (range s (o - s))) ≡ count j (keys_in rows (range s (d - s))) + (count j (keys_of (rows (suc d))) + count j (keys_in rows (range (suc d) (o - suc d))))
  named_parts rows s d o j le lt =
      let front = range s (d - s) in
      let back = range (suc d) (o - suc d) in
      ap (λ (ns : List ℕ). count j (keys_in rows ns)) (split s d o le lt) ∙ (ap (count j) (keys_in-append rows front (suc d ∷ back)) ∙ (count-append j (keys_in rows front) (keys_of (rows (suc d)) ++ keys_in rows back) ∙ ap (λ (c : ℕ). count j (keys_in rows front) + c) (count-append j (keys_of (rows (suc d))) (keys_in rows back))))

  -- another row at a number of the table: its keys in the place of the former ones
  pub named-replaced : (w : Option (Row N)) (rows : ℕ → Option (Row N)) (s d o j : ℕ) → s ≤ d → d < o →
      count j (keys_in (with_at (suc d) w rows) (range s (o - s))) + count j (keys_of (rows (suc d))) ≡ count j (keys_in rows (range s (o - s))) + count j (keys_of w)
  named-replaced w rows s d o j le lt =
      let new = with_at (suc d) w rows in
      let low : s + (d - s) < suc d = omega (arith, le) in
      let front : count j (keys_in new (range s (d - s))) ≡ count j (keys_in rows (range s (d - s))) = ap (count j) (keys-other (suc d) w rows (range s (d - s)) (range-below (d - s) s (suc d) low)) in
      let back : count j (keys_in new (range (suc d) (o - suc d))) ≡ count j (keys_in rows (range (suc d) (o - suc d))) = ap (count j) (keys-other (suc d) w rows (range (suc d) (o - suc d)) (range-above (o - suc d) (suc d) (suc d) (omega arith))) in
      let here : count j (keys_of (new (suc d))) ≡ count j (keys_of w) = ap (λ (r : Option (Row N)). count j (keys_of r)) (row_here (suc d) w rows) in
      omega (arith, named_parts new s d o j le lt, named_parts rows s d o j le lt, front, back, here)

  -- the latest rows once the lowest row has gone
  pub seat_swept : (k : ℕ) (o : Option (Row N)) (latest_rows f : List ℕ → Option ℕ) → ((t : List ℕ) → latest_rows t ≡ last_of (if_of t o k) (f t)) → ((t : List ℕ) (j : ℕ) → f t ≡ Some j → k < j) → (t : List ℕ) → without_latest_row k (trace_in o) latest_rows t ≡ f t
  seat_swept k None latest_rows f latest_row above t = latest_row t ∙ last_of-none (f t)
  seat_swept k (Some r) latest_rows f latest_row above t = by_rest (f r.trace) refl
    where
      here : last_of (if_of r.trace (Some r) k) (f r.trace) ≡ last_of (Some k) (f r.trace)
      here = let same : bytes_eq r.trace r.trace ≡ true = nat_list_eq_equiv.refl r.trace in rw same refl

      elsewhere : bytes_eq r.trace t ≡ false → latest_rows t ≡ f t
      elsewhere other = let e : if_of t (Some r) k ≡ None = rw other refl in latest_row t ∙ (ap (λ (o : Option ℕ). last_of o (f t)) e ∙ last_of-none (f t))

      by_rest : (s : Option ℕ) → f r.trace ≡ s → cond (is_number k (latest_rows r.trace)) (with_latest_row r.trace None latest_rows) latest_rows t ≡ f t
      by_rest None e =
          let at : latest_rows r.trace ≡ Some k = latest_row r.trace ∙ (here ∙ ap (last_of (Some k)) e) in
          let is : is_number k (latest_rows r.trace) ≡ true = let same : eqb k k ≡ true = grind (arith, nat_tests) in ap (is_number k) at ∙ same in
          rw is (by_test (bytes_eq t r.trace) refl)
        where
          by_test : (b : Bool) → bytes_eq t r.trace ≡ b → cond b None (latest_rows t) ≡ f t
          by_test true same = let eq : t ≡ r.trace = (bytes_eq-Decides t r.trace).0 same in sym (ap f eq ∙ e)
          by_test false other = elsewhere (nat_list_eq_equiv.symm r.trace t ∙ other)
      by_rest (Some j) e =
          let lt : k < j = above r.trace j e in
          let at : latest_rows r.trace ≡ Some j = latest_row r.trace ∙ (here ∙ ap (last_of (Some k)) e) in
          let is : is_number k (latest_rows r.trace) ≡ false = let other : eqb j k ≡ false = grind (arith, nat_tests, lt) in ap (is_number k) at ∙ other in
          rw is (by_test (bytes_eq r.trace t) refl at)
        where
          by_test : (b : Bool) → bytes_eq r.trace t ≡ b → latest_rows r.trace ≡ Some j → latest_rows t ≡ f t
          by_test true same at = let eq : r.trace ≡ t = (bytes_eq-Decides r.trace t).0 same in sym (ap latest_rows eq) ∙ (at ∙ sym (sym (ap f eq) ∙ e))
          by_test false other at = elsewhere other

  -- the latest rows among those above a number are above it
  pub seat_above : (rows : ℕ → Option (Row N)) (m a : ℕ) (trace : List ℕ) (k : ℕ) → latest_row_in rows (range a m) trace ≡ Some k → a < k
  seat_above rows zero a trace k is = absurd (cc)
  seat_above rows (suc m) a trace k is = by_rest (latest_row_in rows (range (suc a) m) trace) refl is (λ e. seat_above rows m (suc a) trace k e)
    where
      of_here : (r : Option (Row N)) → if_of trace r (suc a) ≡ Some k → a < k
      of_here None is = absurd (cc)
      of_here (Some r) is = by_test (bytes_eq r.trace trace) is
        where
          by_test : (b : Bool) → cond b (Some (suc a)) None ≡ Some k → a < k
          by_test true is = let same : suc a ≡ k = cc in omega (arith, same)
          by_test false is = absurd (cc)

      by_rest : (s : Option ℕ) → latest_row_in rows (range (suc a) m) trace ≡ s → last_of (if_of trace (rows (suc a)) (suc a)) s ≡ Some k → (latest_row_in rows (range (suc a) m) trace ≡ Some k → suc a < k) → a < k
      by_rest None e is ih = of_here (rows (suc a)) is
      by_rest (Some j) e is ih = let above : suc a < k = ih (e ∙ is) in omega (arith, above)

  -- a new row is the latest of its trace
  pub seat_opened : (trace : List ℕ) (number : ℕ) (row : Row N) (latest_rows f : List ℕ → Option ℕ) → row.trace ≡ trace → ((t : List ℕ) → latest_rows t ≡ f t) → (t : List ℕ) → with_latest_row trace (Some number) latest_rows t ≡ last_of (f t) (if_of t (Some row) number)
  seat_opened trace number row latest_rows f is latest_row t = by_test (bytes_eq t trace) refl
    where
      sides : bytes_eq row.trace t ≡ bytes_eq t trace
      sides = ap (λ (x : List ℕ). bytes_eq x t) is ∙ nat_list_eq_equiv.symm trace t

      by_test : (b : Bool) → bytes_eq t trace ≡ b → cond b (Some number) (latest_rows t) ≡ last_of (f t) (cond (bytes_eq row.trace t) (Some number) None)
      by_test true e = let here : bytes_eq row.trace t ≡ true = sides ∙ e in rw here refl
      by_test false e = let here : bytes_eq row.trace t ≡ false = sides ∙ e in rw here (latest_row t)
