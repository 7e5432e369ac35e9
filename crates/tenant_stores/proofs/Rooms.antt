-- What numbers of rows say of what is shown: room for one row more, the first row that waits, and how many there are.
use Rattle.std.proofs.Common.{◌≡◌, ◌≢◌, ℕ, zero, suc, ◌+◌, ◌-◌, ◌<◌, ◌≤◌, max, List, [], ◌∷◌, ◌++◌, length, refl, sym, ap, ◌∙◌, arith, Bool, true, false, Option, Some, None, ltb, cond, add-one}
use Rattle.std.proofs.lemmas.Bool.Decides.{nat_tests}
use Rattle.span_pool.specs.Stored.{StoredData}
use Rattle.text_pool.specs.declared.pool.CountedText.{CountedText}
use Rattle.trace_rows.specs.declared.table.Row.{Row}
use Rattle.tenant_stores.specs.Part.{Part}
use Rattle.tenant_stores.specs.Counts.{Counts, room_made, range}
use Rattle.tenant_stores.specs.View.{SettledRow, as_waiting, as_settled, waiting_rows, settled_rows, view}
use Rattle.tenant_stores.specs.Invariant.{StoreInvariant}
use Rattle.tenant_stores.specs.Shows.{settled_in, waiting_in, row_shown, but_first, evicted_by, with_room, RoomIsMade, FirstShows, FirstIsShown, LengthsAre}
use Rattle.tenant_stores.proofs.Lists.{front_of}
use Rattle.tenant_stores.proofs.Shown.{view_by}

module _ {N : Type 0} where
  -- a row of the table
  row_there : (n : Counts) (pending held : List ℕ) (p : Part N) → StoreInvariant n pending held p → (number : ℕ) → n.swept < number → number ≤ n.opened → (row : Row N) × (p.rows number ≡ Some row)
  row_there n pending held p sound number above below = by_row (p.rows number) refl
    where
      by_row : (o : Option (Row N)) → p.rows number ≡ o → (row : Row N) × (p.rows number ≡ Some row)
      by_row None e = absurd (sound.there number above below e)
      by_row (Some row) e = (row, e)

  -- ---- room for one row more

  module _ (most : ℕ) (n : Counts) (pending held : List ℕ) (p : Part N) (some : 0 < most) (first_is : n.first ≡ n.opened - most) (sound : StoreInvariant n pending held p) where
    abbrev next_first : ℕ
    next_first = n.opened + 1 - most

    -- what is shown at other numbers
    at_numbers : (keys : List ℕ) (f d : ℕ) → next_first ≡ f → max n.decided next_first ≡ d →
        view (room_made most n) keys p ≡ view (record n { first = f; decided = d }) keys p
    at_numbers keys f d is_f is_d = cc (is_f, is_d)

    room_left : n.opened < most → (keys : List ℕ) → view (room_made most n) keys p ≡ view n keys p
    room_left lt keys =
        let f : next_first ≡ n.first = omega (arith, lt, first_is) in
        let b = sound.order.first in
        let d : max n.decided next_first ≡ n.decided = omega (arith, f, b) in
        at_numbers keys n.first n.decided f d

    settled_goes : most ≤ n.opened → n.first < n.decided → (keys : List ℕ) → view (room_made most n) keys p ≡ evicted_by (settled_in n p) (view n keys p)
    settled_goes le lt keys =
        let f : next_first ≡ suc n.first = omega (arith, le, first_is) in
        let d : max n.decided next_first ≡ n.decided = omega (arith, f, lt) in
        let a = sound.order.swept in
        let c = sound.order.decided in
        let found = row_there n pending held p sound (suc n.first) (omega (arith, a)) (omega (arith, lt, c)) in
        let row = found.0 in
        let rest = settled_rows p.rows (range (suc n.first) (n.decided - suc n.first)) in
        let front : settled_in n p ≡ record { trace = row.trace; sampled = row.sampled } ∷ rest =
        ap (settled_rows p.rows) (front_of n.first n.decided lt) ∙ ap (λ (o : Option (Row N)). as_settled o ++ rest) found.1 in
        at_numbers keys (suc n.first) n.decided f d ∙ sym (ap (λ (l : List SettledRow). evicted_by l (view n keys p)) front)

    waiting_goes : most ≤ n.opened → n.first ≡ n.decided → (keys : List ℕ) → view (room_made most n) keys p ≡ evicted_by (settled_in n p) (view n keys p)
    waiting_goes le eq keys =
        let f : next_first ≡ suc n.decided = omega (arith, le, first_is, eq) in
        let d : max n.decided next_first ≡ suc n.decided = omega (arith, f) in
        let a = sound.order.swept in
        let none : n.decided - n.first ≡ 0 = omega (arith, eq) in
        let none' : suc n.decided - suc n.decided ≡ 0 = omega arith in
        let lt : n.decided < n.opened = omega (arith, le, first_is, eq, some) in
        let found = row_there n pending held p sound (suc n.decided) (omega (arith, a, eq)) (omega (arith, lt)) in
        let row = found.0 in
        let rest = waiting_rows p.spans p.texts p.rows (range (suc n.decided) (n.opened - suc n.decided)) in
        let empty : settled_in n p ≡ [] = ap (λ (k : ℕ). settled_rows p.rows (range n.first k)) none in
        let empty' : settled_rows p.rows (range (suc n.decided) (suc n.decided - suc n.decided)) ≡ [] = ap (λ (k : ℕ). settled_rows p.rows (range (suc n.decided) k)) none' in
        let front : waiting_in n p ≡ row_shown p row ∷ rest =
        ap (waiting_rows p.spans p.texts p.rows) (front_of n.decided n.opened lt) ∙ ap (λ (o : Option (Row N)). as_waiting p.spans p.texts o ++ rest) found.1 in
        let v = view n keys p in
        let v' = view (record n { first = suc n.decided; decided = suc n.decided }) keys p in
        let step : v' ≡ evicted_by [] v = view_by v'.settled v.settled v'.waiting (but_first v.waiting) v'.pending v.pending (empty' ∙ sym empty) (sym (ap but_first front)) refl in
        at_numbers keys (suc n.decided) (suc n.decided) f d ∙ (step ∙ sym (ap (λ (l : List SettledRow). evicted_by l v) empty))

    room_shows : (keys : List ℕ) → view (room_made most n) keys p ≡ with_room most n.opened (view n keys p)
    room_shows keys = by_test (ltb n.opened most) refl
      where
        by_first : (b : Bool) → ltb n.first n.decided ≡ b → most ≤ n.opened → view (room_made most n) keys p ≡ evicted_by (settled_in n p) (view n keys p)
        by_first true is le = let lt : n.first < n.decided = grind (arith, nat_tests, is) in settled_goes le lt keys
        by_first false is le = let b = sound.order.first in let eq : n.first ≡ n.decided = grind (arith, nat_tests, is, b) in waiting_goes le eq keys

        by_test : (b : Bool) → ltb n.opened most ≡ b → view (room_made most n) keys p ≡ cond b (view n keys p) (evicted_by (settled_in n p) (view n keys p))
        by_test true is = let lt : n.opened < most = grind (arith, nat_tests, is) in room_left lt keys
        by_test false is = let le : most ≤ n.opened = grind (arith, nat_tests, is) in by_first (ltb n.first n.decided) refl le

    room_sound : StoreInvariant (room_made most n) pending held p
    room_sound =
        let a = sound.order.swept in
        let b = sound.order.first in
        let c = sound.order.decided in
        record {
          order = record { swept = omega (arith, a, first_is); first = omega arith; decided = omega (arith, c, some) };
          named = sound.named;
          bare = λ number above below. sound.bare number (omega (arith, above, first_is)) (omega (arith, above, below));
          used = sound.used;
          kept = sound.kept;
          latest_rows = sound.latest_rows;
          there = sound.there;
          vacant = sound.vacant;
          left = sound.left;
        }

  -- ---- the first row that waits

  first_shows : (n : Counts) (pending held : List ℕ) (p : Part N) → StoreInvariant n pending held p → n.decided < n.opened → FirstShows n p
  first_shows n pending held p sound lt =
      let a = sound.order.swept in
      let b = sound.order.first in
      let found = row_there n pending held p sound (suc n.decided) (omega (arith, a, b)) (omega (arith, lt)) in
      let rest = waiting_rows p.spans p.texts p.rows (range (suc n.decided) (n.opened - suc n.decided)) in
      record {
        row = found.0;
        there = ap p.rows (add-one n.decided) ∙ found.1;
        rest = rest;
        waiting = ap (waiting_rows p.spans p.texts p.rows) (front_of n.decided n.opened lt) ∙ ap (λ (o : Option (Row N)). as_waiting p.spans p.texts o ++ rest) found.1;
      }

  -- ---- how many rows there are

  waiting_length : (s : ℕ → Option StoredData) (t : ℕ → Option CountedText) (rows : ℕ → Option (Row N)) (m a : ℕ) → ((k : ℕ) → a < k → k ≤ a + m → rows k ≢ None) → length (waiting_rows s t rows (range a m)) ≡ m
  waiting_length s t rows zero a there = refl
  waiting_length s t rows (suc m) a there = by_row (rows (suc a)) (there (suc a) (omega arith) (omega arith)) (waiting_length s t rows m (suc a) (λ k above below. there k (omega (arith, above)) (omega (arith, below))))
    where
      by_row : (o : Option (Row N)) → o ≢ None → length (waiting_rows s t rows (range (suc a) m)) ≡ m → length (as_waiting s t o ++ waiting_rows s t rows (range (suc a) m)) ≡ suc m
      by_row None some ih = absurd (some refl)
      by_row (Some row) some ih = ap suc ih

  settled_length : (rows : ℕ → Option (Row N)) (m a : ℕ) → ((k : ℕ) → a < k → k ≤ a + m → rows k ≢ None) → length (settled_rows rows (range a m)) ≡ m
  settled_length rows zero a there = refl
  settled_length rows (suc m) a there = by_row (rows (suc a)) (there (suc a) (omega arith) (omega arith)) (settled_length rows m (suc a) (λ k above below. there k (omega (arith, above)) (omega (arith, below))))
    where
      by_row : (o : Option (Row N)) → o ≢ None → length (settled_rows rows (range (suc a) m)) ≡ m → length (as_settled o ++ settled_rows rows (range (suc a) m)) ≡ suc m
      by_row None some ih = absurd (some refl)
      by_row (Some row) some ih = ap suc ih

pub room_is_made : (N : Type 0) → RoomIsMade N
room_is_made N most n pending held p some first_is sound = record {
  shows = λ keys. room_shows most n pending held p some first_is sound keys;
  sound = λ pending' held' sound'. room_sound most n pending' held' p some first_is sound';
}

pub first_is_shown : (N : Type 0) → FirstIsShown N
first_is_shown N n pending held p sound lt = first_shows n pending held p sound lt

pub lengths_are : (N : Type 0) → LengthsAre N
lengths_are N n pending held p sound =
    let a = sound.order.swept in
    let b = sound.order.first in
    let c = sound.order.decided in
    let waiting = waiting_length p.spans p.texts p.rows (n.opened - n.decided) n.decided (λ k above below. sound.there k (omega (arith, a, b, above)) (omega (arith, c, below))) in
    let settled = settled_length p.rows (n.decided - n.first) n.first (λ k above below. sound.there k (omega (arith, a, above)) (omega (arith, b, c, below))) in
    (waiting, settled)
