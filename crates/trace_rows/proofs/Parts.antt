-- What a change of a map does to each tenant's part.
use Rattle.std.proofs.Common.{◌≡◌, ◌≢◌, ℕ, ◌+◌, ◌*◌, ◌/◌, ◌%◌, refl, sym, ap, ◌∙◌, arith, List, Bool, true, false, Option, Some, None, eqb, nat_eq, bytes_eq, cond, if◌then◌else◌, ◌&&◌, Ordering, Less, Equal, Greater}
use Rattle.std.proofs.lemmas.Bool.Decides.{nat_tests}
use Rattle.std.proofs.lemmas.Nat.{div-add-mod'}
use Rattle.std.proofs.lemmas.Slice.Eq.{bytes_eq-Decides}
use Rattle.std.proofs.Math.Path.{fun_ext}
use Rattle.std.specs.Ordering.{nat_cmp, ordering_then, is_eq}
use Rattle.std.specs.declared.cmp.Reverse.{Reverse}
use Rattle.std.specs.Cmp.{unsigned_ties, nat_eq_equiv}
use Rattle.std.specs.BTreeMap.{BTreeMap}
use Rattle.std.specs.BTreeMap as tree
use Rattle.trace_rows.specs.declared.block.Block.{Block}
use Rattle.trace_rows.specs.declared.table.Row.{Row}
use Rattle.trace_rows.specs.Blocks.{block_rows, slots_of, slots_in, rows_in}
use Rattle.trace_rows.specs.Maps.{pair_cmp, latest_cmp, at, is_id, halves, by_id, latest_rows_of}
use Rattle.trace_rows.specs.Part.{with_at, with_latest_row}
use Rattle.trace_rows.proofs.Ids.{both, same_of_halves}

-- a test tells which keys an order takes for equal
record Tells {J : Type 0} (cmp : J → J → Ordering) (same : J → J → Bool) : Type 0 where
  pub told : (x y : J) → is_eq (cmp x y) ≡ same y x

abbrev same_number : Reverse ℕ → Reverse ℕ → Bool
same_number x y = nat_eq x.0 y.0

numbers : Tells latest_cmp same_number
numbers = record { told = λ x y. sym (unsigned_ties y.0 x.0) }

-- `with_at`, at any keys
abbrev put : {J X : Type 0} → (J → J → Bool) → J → Option X → (J → Option X) → J → Option X
put same key slot slots other = if same other key then slot else slots other

then_is : (o p : Ordering) → is_eq (ordering_then o p) ≡ (is_eq o && is_eq p)
then_is Less p = refl
then_is Equal p = refl
then_is Greater p = refl

abbrev same_halves : ℕ × ℕ → ℕ × ℕ → Bool
same_halves x y = nat_eq x.0 y.0 && nat_eq x.1 y.1

is_tie : (n k : ℕ) → is_eq (nat_cmp n k) ≡ nat_eq k n
is_tie n k = sym (unsigned_ties n k) ∙ nat_eq_equiv.symm n k

ids : Tells (pair_cmp nat_cmp) same_halves
ids = record {
  told = λ x y.
      then_is (nat_cmp x.0 y.0) (nat_cmp x.1 y.1)
      ∙ (ap (λ (b : Bool). b && is_eq (nat_cmp x.1 y.1)) (is_tie x.0 y.0) ∙ ap (λ (b : Bool). nat_eq y.0 x.0 && b) (is_tie x.1 y.1));
}

is_same : (x : ℕ × ℕ) → same_halves x x ≡ true
is_same x = ap (λ (b : Bool). b && nat_eq x.1 x.1) (nat_eq_equiv.refl x.0) ∙ nat_eq_equiv.refl x.1

same_tenant : (t : ℕ) → is_eq (nat_cmp t t) ≡ true
same_tenant t = sym (unsigned_ties t t) ∙ nat_eq_equiv.refl t

other_tenant : (t u : ℕ) → u ≢ t → is_eq (nat_cmp t u) ≡ false
other_tenant t u ne = grind (arith, nat_tests)

here : {J : Type 0} {cmp : J → J → Ordering} {same : J → J → Bool} → Tells cmp same → (t : ℕ) (k j : J) → is_eq (pair_cmp cmp (t, k) (t, j)) ≡ same j k
here {J} {cmp} {same} tells t k j = then_is (nat_cmp t t) (cmp k j) ∙ (ap (λ (b : Bool). b && is_eq (cmp k j)) (same_tenant t) ∙ tells.told k j)

elsewhere : {J : Type 0} (cmp : J → J → Ordering) (t u : ℕ) (k j : J) → u ≢ t → is_eq (pair_cmp cmp (t, k) (u, j)) ≡ false
elsewhere cmp t u k j ne = then_is (nat_cmp t u) (cmp k j) ∙ ap (λ (b : Bool). b && is_eq (cmp k j)) (other_tenant t u ne)

at_put : {J X : Type 0} {cmp : J → J → Ordering} {same : J → J → Bool} → Tells cmp same → (m n : BTreeMap (ℕ × J) X) (t : ℕ) (k : J) (w : Option X) → tree.Updates (pair_cmp cmp) m n (t, k) w → at cmp t n.entries ≡ put same k w (at cmp t m.entries)
at_put {J} {X} {cmp} {same} tells m n t k w h = fun_ext (λ j. one j)
  where
    one : (j : J) → at cmp t n.entries j ≡ put same k w (at cmp t m.entries) j
    one j =
        let first : at cmp t n.entries j ≡ cond (is_eq (pair_cmp cmp (t, k) (t, j))) w (at cmp t m.entries j) = h.0 (t, j) in
        first ∙ ap (λ (b : Bool). cond b w (at cmp t m.entries j)) (here tells t k j)

at_put_other : {J X : Type 0} {cmp : J → J → Ordering} {same : J → J → Bool} → Tells cmp same → (m n : BTreeMap (ℕ × J) X) (t : ℕ) (k : J) (u : ℕ) (w : Option X) → tree.Updates (pair_cmp cmp) m n (t, k) w → u ≢ t → at cmp u n.entries ≡ at cmp u m.entries
at_put_other {J} {X} {cmp} {same} tells m n t k u w h ne = fun_ext (λ j. one j)
  where
    one : (j : J) → at cmp u n.entries j ≡ at cmp u m.entries j
    one j =
        let first : at cmp u n.entries j ≡ cond (is_eq (pair_cmp cmp (t, k) (u, j))) w (at cmp u m.entries j) = h.0 (u, j) in
        first ∙ ap (λ (b : Bool). cond b w (at cmp u m.entries j)) (elsewhere cmp t u k j ne)

-- at what is no id there is nothing
no_id : {X : Type 0} (f : ℕ × ℕ → Option X) (trace : List ℕ) → is_id trace ≡ false → by_id f trace ≡ None
unfolding by_id
no_id f trace none = ap (λ (b : Bool). if b then f (halves trace) else None) none

pub at_id : {X : Type 0} (f : ℕ × ℕ → Option X) (trace : List ℕ) → is_id trace ≡ true → by_id f trace ≡ f (halves trace)
unfolding by_id
at_id f trace is = ap (λ (b : Bool). if b then f (halves trace) else None) is

-- two ids are one where their halves are
same_id : (other trace : List ℕ) → is_id other ≡ true → is_id trace ≡ true → same_halves (halves other) (halves trace) ≡ bytes_eq other trace
same_id other trace is_other is = decide (same_halves (halves other) (halves trace)) (bytes_eq other trace) refl refl
  where
    decide : (a b : Bool) → same_halves (halves other) (halves trace) ≡ a → bytes_eq other trace ≡ b → a ≡ b
    decide true true one two = refl
    decide false false one two = refl
    decide true false one two =
        let each = both (nat_eq (halves other).0 (halves trace).0) (nat_eq (halves other).1 (halves trace).1) one in
        let high : (halves other).0 ≡ (halves trace).0 = grind (arith, nat_tests, each.0) in
        let low : (halves other).1 ≡ (halves trace).1 = grind (arith, nat_tests, each.1) in
        sym ((bytes_eq-Decides other trace).1 (same_of_halves other trace is_other is high low)) ∙ two
    decide false true one two =
        sym one ∙ (ap (λ (bytes : List ℕ). same_halves (halves bytes) (halves trace)) ((bytes_eq-Decides other trace).0 two) ∙ is_same (halves trace))

-- an id is put where its halves are
by_id_put : (f : ℕ × ℕ → Option ℕ) (trace : List ℕ) (w : Option ℕ) → is_id trace ≡ true → by_id (put same_halves (halves trace) w f) ≡ with_latest_row trace w (by_id f)
by_id_put f trace w is = fun_ext (λ other. one other (is_id other) (bytes_eq other trace) refl refl)
  where
    one : (other : List ℕ) (a b : Bool) → is_id other ≡ a → bytes_eq other trace ≡ b → by_id (put same_halves (halves trace) w f) other ≡ with_latest_row trace w (by_id f) other
    one other false false none differs = no_id (put same_halves (halves trace) w f) other none ∙ (sym (no_id f other none) ∙ ap (λ (b : Bool). if b then w else by_id f other) (sym differs))
    one other false true none same =
        let is_other : is_id other ≡ true = ap is_id ((bytes_eq-Decides other trace).0 same) ∙ is in
        absurd (cc)
    one other true b is_other e =
        at_id (put same_halves (halves trace) w f) other is_other
        ∙ (ap (λ (b : Bool). if b then w else f (halves other)) (same_id other trace is_other is)
        ∙ ap (λ (slot : Option ℕ). if bytes_eq other trace then w else slot) (sym (at_id f other is_other)))

-- what is at a key is at one of the same parts
pub here_of : (entries : List ((ℕ × (ℕ × ℕ)) × ℕ)) (t u : ℕ) (k j : ℕ × ℕ) (slot : Option ℕ) → t ≡ u → k.0 ≡ j.0 → k.1 ≡ j.1 → at (pair_cmp nat_cmp) t entries k ≡ slot → at (pair_cmp nat_cmp) u entries j ≡ slot
here_of entries t u k j slot tenant high low had =
    let id : k ≡ j = λ i. (high i, low i) in
    sym (ap (λ (n : ℕ). at (pair_cmp nat_cmp) n entries j) tenant) ∙ (sym (ap (at (pair_cmp nat_cmp) t entries) id) ∙ had)

-- nothing where nothing was
pub with_no_row : (f : List ℕ → Option ℕ) (trace : List ℕ) → f trace ≡ None → with_latest_row trace None f ≡ f
with_no_row f trace none = fun_ext (λ other. one other (bytes_eq other trace) refl)
  where
    one : (other : List ℕ) (b : Bool) → bytes_eq other trace ≡ b → with_latest_row trace None f other ≡ f other
    one other true same = ap (λ (b : Bool). if b then None else f other) same ∙ sym (ap f ((bytes_eq-Decides other trace).0 same) ∙ none)
    one other false differs = ap (λ (b : Bool). if b then None else f other) differs

pub seats_put : (m n : BTreeMap (ℕ × (ℕ × ℕ)) ℕ) (t : ℕ) (trace : List ℕ) (k : ℕ × ℕ) (w : Option ℕ) → is_id trace ≡ true → k ≡ halves trace → tree.Updates (pair_cmp (pair_cmp nat_cmp)) m n (t, k) w → latest_rows_of t n.entries ≡ with_latest_row trace w (latest_rows_of t m.entries)
seats_put m n t trace k w is number h =
    ap by_id (at_put ids m n t k w h) ∙ (ap (λ (j : ℕ × ℕ). by_id (put same_halves j w (at (pair_cmp nat_cmp) t m.entries))) number ∙ by_id_put (at (pair_cmp nat_cmp) t m.entries) trace w is)

pub seats_put_other : (m n : BTreeMap (ℕ × (ℕ × ℕ)) ℕ) (t : ℕ) (k : ℕ × ℕ) (u : ℕ) (w : Option ℕ) → tree.Updates (pair_cmp (pair_cmp nat_cmp)) m n (t, k) w → u ≢ t → latest_rows_of u n.entries ≡ latest_rows_of u m.entries
seats_put_other m n t k u w h ne = ap by_id (at_put_other ids m n t k u w h ne)

module _ {X : Type 0} where
  -- a value where none was, taken out again
  pub at_undone : (f : ℕ → Option X) (k : ℕ) (w : Option X) → f k ≡ None → with_at k None (with_at k w f) ≡ f
  at_undone f k w none = fun_ext (λ j. one j (eqb j k) refl)
    where
      one : (j : ℕ) (b : Bool) → eqb j k ≡ b → with_at k None (with_at k w f) j ≡ f j
      one j true e = let same : j ≡ k = grind (arith, nat_tests, e) in let there : f j ≡ None = ap f same ∙ none in grind (arith, nat_tests, e, there)
      one j false e = grind (arith, nat_tests, e)

  -- what is there already, written again
  pub with_same : (f : ℕ → Option X) (k : ℕ) (slot : Option X) → f k ≡ slot → with_at k slot f ≡ f
  with_same f k slot had = fun_ext (λ j. one j (nat_eq j k) refl)
    where
      one : (j : ℕ) (b : Bool) → nat_eq j k ≡ b → with_at k slot f j ≡ f j
      one j true e = let same : j ≡ k = grind (arith, nat_tests, e) in ap (λ (b : Bool). if b then slot else f j) e ∙ (sym had ∙ sym (ap f same))
      one j false e = ap (λ (b : Bool). if b then slot else f j) e

-- numbers of one block are one where their places are
same_place : (j k : ℕ) → j / block_rows ≡ k / block_rows → nat_eq (j % block_rows) (k % block_rows) ≡ nat_eq j k
same_place j k block = decide (nat_eq (j % block_rows) (k % block_rows)) (nat_eq j k) refl refl
  where
    decide : (a b : Bool) → nat_eq (j % block_rows) (k % block_rows) ≡ a → nat_eq j k ≡ b → a ≡ b
    decide true true one two = refl
    decide false false one two = refl
    decide true false one two =
        let place : j % block_rows ≡ k % block_rows = grind (arith, nat_tests, one) in
        let same : j ≡ k = sym (div-add-mod' j block_rows) ∙ (ap (λ (n : ℕ). n * block_rows + j % block_rows) block ∙ (ap (λ (n : ℕ). k / block_rows * block_rows + n) place ∙ div-add-mod' k block_rows)) in
        sym (ap (λ (n : ℕ). nat_eq n k) same ∙ nat_eq_equiv.refl k) ∙ two
    decide false true one two =
        let same : j ≡ k = grind (arith, nat_tests, two) in
        sym one ∙ (ap (λ (n : ℕ). nat_eq (n % block_rows) (k % block_rows)) same ∙ nat_eq_equiv.refl (k % block_rows))

-- the number of the block that has a row's number
abbrev pub block_of : ℕ → Reverse ℕ
block_of k = record { 0 = k / block_rows }

module _ {N : Type 0} where
  abbrev pub numbered : ℕ → BTreeMap (ℕ × Reverse ℕ) (Block N) → ℕ → Option (Row N)
  numbered t m = rows_in (at latest_cmp t m.entries)

  -- a row is at its place in its block
  row_at : (f : Reverse ℕ → Option (Block N)) (k : ℕ) → rows_in f k ≡ slots_in (f (block_of k)) (k % block_rows)
  unfolding rows_in
  row_at f k = refl

  one_put : (f : Reverse ℕ → Option (Block N)) (k : ℕ) (w : Option (Block N)) (slot : Option (Row N)) → slots_in w ≡ with_at (k % block_rows) slot (slots_in (f (block_of k))) → (j : ℕ) (a b : Bool) → nat_eq (j / block_rows) (k / block_rows) ≡ a → nat_eq j k ≡ b
      → rows_in (put same_number (block_of k) w f) j ≡ with_at k slot (rows_in f) j
  one_put f k w slot is j true b e two =
      let block : j / block_rows ≡ k / block_rows = grind (arith, nat_tests, e) in
      row_at (put same_number (block_of k) w f) j
      ∙ (ap (λ (c : Bool). slots_in (if c then w else f (block_of j)) (j % block_rows)) e
      ∙ (ap (λ (g : ℕ → Option (Row N)). g (j % block_rows)) is
      ∙ (ap (λ (c : Bool). if c then slot else slots_in (f (block_of k)) (j % block_rows)) (same_place j k block)
      ∙ ap (λ (r : Option (Row N)). if nat_eq j k then slot else r) (ap (λ (n : ℕ). slots_in (f (record { 0 = n })) (j % block_rows)) (sym block) ∙ sym (row_at f j)))))
  one_put f k w slot is j false false e two =
      row_at (put same_number (block_of k) w f) j
      ∙ (ap (λ (c : Bool). slots_in (if c then w else f (block_of j)) (j % block_rows)) e
      ∙ (sym (row_at f j) ∙ ap (λ (c : Bool). if c then slot else rows_in f j) (sym two)))
  one_put f k w slot is j false true e two =
      let same : j ≡ k = grind (arith, nat_tests, two) in
      let bad : false ≡ true = sym e ∙ (ap (λ (n : ℕ). nat_eq (n / block_rows) (k / block_rows)) same ∙ nat_eq_equiv.refl (k / block_rows)) in
      absurd (cc)

  -- where a block has another row at a place, so do the rows at that number
  rows_put : (m n : BTreeMap (ℕ × Reverse ℕ) (Block N)) (t k : ℕ) (w : Option (Block N)) (slot : Option (Row N)) → tree.Updates (pair_cmp latest_cmp) m n (t, block_of k) w → slots_in w ≡ with_at (k % block_rows) slot (slots_in (at latest_cmp t m.entries (block_of k)))
      → numbered t n ≡ with_at k slot (numbered t m)
  rows_put m n t k w slot h is =
      ap rows_in (at_put numbers m n t (block_of k) w h)
      ∙ fun_ext (λ j. one_put (at latest_cmp t m.entries) k w slot is j (nat_eq (j / block_rows) (k / block_rows)) (nat_eq j k) refl refl)

  -- where a block's rows stay, so do all
  rows_kept : (m n : BTreeMap (ℕ × Reverse ℕ) (Block N)) (t k : ℕ) (w : Option (Block N)) → tree.Updates (pair_cmp latest_cmp) m n (t, block_of k) w → slots_in w ≡ slots_in (at latest_cmp t m.entries (block_of k)) → numbered t n ≡ numbered t m
  rows_kept m n t k w h is =
      let f = at latest_cmp t m.entries in
      let slot = slots_in (f (block_of k)) (k % block_rows) in
      rows_put m n t k w slot h (is ∙ sym (with_same (slots_in (f (block_of k))) (k % block_rows) slot refl)) ∙ with_same (rows_in f) k slot (row_at f k)

  pub rows_put_other : (m n : BTreeMap (ℕ × Reverse ℕ) (Block N)) (t k u : ℕ) (w : Option (Block N)) → tree.Updates (pair_cmp latest_cmp) m n (t, block_of k) w → u ≢ t → numbered u n ≡ numbered u m
  rows_put_other m n t k u w h ne = ap rows_in (at_put_other numbers m n t (block_of k) u w h ne)

  -- what an update has written is there
  pub at_written : (m n : BTreeMap (ℕ × Reverse ℕ) (Block N)) (t k : ℕ) (w : Option (Block N)) → tree.Updates (pair_cmp latest_cmp) m n (t, block_of k) w → at latest_cmp t n.entries (block_of k) ≡ w
  at_written m n t k w h =
      let f = at latest_cmp t m.entries in
      ap (λ (g : Reverse ℕ → Option (Block N)). g (block_of k)) (at_put numbers m n t (block_of k) w h) ∙ ap (λ (c : Bool). if c then w else f (block_of k)) (nat_eq_equiv.refl (k / block_rows))

  -- the row at a number is at its place in the block that is there
  pub row_there : (m : BTreeMap (ℕ × Reverse ℕ) (Block N)) (t k : ℕ) (block : Option (Block N)) → at latest_cmp t m.entries (block_of k) ≡ block → numbered t m k ≡ slots_in block (k % block_rows)
  row_there m t k block there = row_at (at latest_cmp t m.entries) k ∙ ap (λ (b : Option (Block N)). slots_in b (k % block_rows)) there

  -- a block with another row at a place, in the place of the one that was there
  pub rows_put_in : (m n : BTreeMap (ℕ × Reverse ℕ) (Block N)) (t k : ℕ) (was : Option (Block N)) (block : Block N) (slot : Option (Row N)) → at latest_cmp t m.entries (block_of k) ≡ was → tree.Updates (pair_cmp latest_cmp) m n (t, block_of k) (Some block)
      → slots_of block ≡ with_at (k % block_rows) slot (slots_in was) → numbered t n ≡ with_at k slot (numbered t m)
  rows_put_in m n t k was block slot there h is = rows_put m n t k (Some block) slot h (is ∙ ap (λ (b : Option (Block N)). with_at (k % block_rows) slot (slots_in b)) (sym there))

  -- a block with the same rows, in the place of the one that was there
  pub rows_kept_in : (m n : BTreeMap (ℕ × Reverse ℕ) (Block N)) (t k : ℕ) (was : Option (Block N)) (block : Block N) → at latest_cmp t m.entries (block_of k) ≡ was → tree.Updates (pair_cmp latest_cmp) m n (t, block_of k) (Some block)
      → slots_of block ≡ slots_in was → numbered t n ≡ numbered t m
  rows_kept_in m n t k was block there h is = rows_kept m n t k (Some block) h (is ∙ ap slots_in (sym there))

  -- a block without rows leaves
  pub rows_freed : (m n : BTreeMap (ℕ × Reverse ℕ) (Block N)) (t k : ℕ) (block : Block N) → at latest_cmp t m.entries (block_of k) ≡ Some block → tree.Updates (pair_cmp latest_cmp) m n (t, block_of k) None → slots_of block ≡ (λ _. None) → numbered t n ≡ numbered t m
  rows_freed m n t k block there h none = rows_kept m n t k None h (sym (ap slots_in there ∙ none))

  -- a new block with a row, in the map as it was
  pub rows_put_new : (was m n : BTreeMap (ℕ × Reverse ℕ) (Block N)) (t k : ℕ) (block : Block N) (slot : Option (Row N)) → m ≡ was → at latest_cmp t was.entries (block_of k) ≡ None → tree.Updates (pair_cmp latest_cmp) m n (t, block_of k) (Some block)
      → slots_of block ≡ with_at (k % block_rows) slot (λ _. None) → numbered t n ≡ with_at k slot (numbered t was)
  rows_put_new was m n t k block slot same none h is =
      let there : at latest_cmp t m.entries (block_of k) ≡ None = ap (λ (x : BTreeMap (ℕ × Reverse ℕ) (Block N)). at latest_cmp t x.entries (block_of k)) same ∙ none in
      rows_put_in m n t k None block slot there h is ∙ ap (λ (x : BTreeMap (ℕ × Reverse ℕ) (Block N)). with_at k slot (numbered t x)) same
