-- What each change makes of what a part shows.
use Rattle.std.proofs.Common.{◌≡◌, ◌≢◌, ℕ, suc, ◌+◌, ◌-◌, ◌<◌, ◌≤◌, List, [], ◌∷◌, ◌++◌, refl, sym, ap, ◌∙◌, arith, Bool, true, false, Option, Some, None, add-one}
use Rattle.span_pool.specs.Stored.{StoredData, SpanTexts, texts_of}
use Rattle.span_pool.specs.Pool.{with_span}
use Rattle.text_pool.specs.declared.pool.CountedText.{CountedText}
use Rattle.trace_rows.specs.declared.table.Row.{Row}
use Rattle.trace_rows.specs.Part.{with_at, joined, settled, keys_of}
use Rattle.tenant_stores.specs.Part.{Part}
use Rattle.tenant_stores.specs.Counts.{Counts, AreInOrder, one_opened, one_decided, one_swept, in_table, settled_numbers, waiting_numbers, range, count}
use Rattle.tenant_stores.specs.View.{SettledRow, WaitingRow, text_at, shown, spans_at, as_waiting, as_settled, waiting_rows, settled_rows, keys_in, text_keys_at, view}
use Rattle.tenant_stores.specs.Invariant.{one, uses_of, latest_row_in, named_keys, StoreInvariant}
use Rattle.tenant_stores.specs.Changes.{all_released, Joins, Opens, Waits, new_row, Settles, Leaves}
use Rattle.tenant_stores.specs.Shows.{AreAmong, Stay, settled_in, waiting_in, row_shown, joined_rows, with_joined, with_opened, with_late, kept_by, first_kept, dropped_by, first_dropped}
use Rattle.tenant_stores.proofs.Parts.{span_here}
use Rattle.tenant_stores.proofs.Lists.{count-append, AreOther, range-above, range-below, front_of, last}
use Rattle.tenant_stores.proofs.Uses.{one_most, names-append, names-by_count}
use Rattle.tenant_stores.proofs.Rows.{row_here}
use Rattle.tenant_stores.proofs.Shown.{ShowAlike, spans-append, spans-alike, rows-alike, waiting-append, settled-append, waiting-other, settled-other, view_by, waiting_keys, same_view, alike-texts, alike-put, alike-without}
use Rattle.tenant_stores.proofs.Stays.{all-stays, without-stays}
use Rattle.tenant_stores.proofs.Seats.{rows_joined, waiting_seat}

module _ {N : Type 0} where
  -- ---- uses of texts come and go

  -- where texts that are named stay, and nothing else changes, the same is shown
  pub texts_show : (p q : Part N) (n : Counts) (pending keys : List ℕ) → AreInOrder n → q.spans ≡ p.spans → q.rows ≡ p.rows → ((t : ℕ) → 0 < count t (text_keys_at p.spans (named_keys n pending p)) → text_at q.texts t ≡ text_at p.texts t) → AreAmong keys pending → view n keys q ≡ view n keys p
  texts_show p q n pending keys order spans rows same among =
      let named = named_keys n pending p in
      let alike : ShowAlike named p.spans p.texts q.spans q.texts = λ k some. ap (λ (f : ℕ → Option StoredData). shown q.texts (f k)) spans ∙ alike-texts p.spans p.texts q.texts named same k some in
      same_view n pending keys p q order rows alike among

  -- several uses are given back
  module _ (gone : List ℕ) (p q : Part N) (spans : q.spans ≡ p.spans) (texts' : q.texts ≡ all_released gone p.texts) (rows : q.rows ≡ p.rows) (n : Counts) (pending held : List ℕ) (sound : StoreInvariant n pending (gone ++ held) p) where
    back_same : (t : ℕ) → count t gone < uses_of (p.texts t) → text_at q.texts t ≡ text_at p.texts t
    back_same t few = ap (λ (f : ℕ → Option CountedText). text_at f t) texts' ∙ all-stays gone p.texts t few

    pub released_shows : (keys : List ℕ) → AreAmong keys pending → view n keys q ≡ view n keys p
    released_shows keys among = texts_show p q n pending keys sound.order spans rows (λ t named. back_same t (omega (arith, named, sound.used t, count-append t gone held))) among

    pub released_stays : Stay held p.texts q.texts
    released_stays t some = back_same t (omega (arith, some, sound.used t, count-append t gone held))

  -- ---- spans leave

  module _ (gone : List ℕ) (p q : Part N) (change : Leaves gone p q) (n : Counts) (pending left held : List ℕ) (all : (j : ℕ) → count j gone + count j left ≡ count j pending) (sound : StoreInvariant n pending held p) where
    abbrev named_left : List ℕ
    named_left = named_keys n left p

    left_apart : (j : ℕ) → count j gone + count j named_left ≤ 1
    left_apart j =
        let K = keys_in p.rows (in_table n) in
        omega (arith, sound.named j, all j, count-append j K left, count-append j K pending, one_most (p.spans j))

    left_same : (t : ℕ) → 0 < count t (text_keys_at p.spans named_left) + count t held → text_at q.texts t ≡ text_at p.texts t
    left_same t some =
        let K = keys_in p.rows (in_table n) in
        let once : (j : ℕ) → count j gone ≤ 1 = λ j. omega (arith, left_apart j) in
        let same : (j : ℕ) → count j (gone ++ named_left) ≡ count j (K ++ pending) = λ j. omega (arith, count-append j gone named_left, count-append j K left, count-append j K pending, all j) in
        let names = names-by_count p.spans t (gone ++ named_left) (K ++ pending) same in
        let few : count t (text_keys_at p.spans gone) < uses_of (p.texts t) = omega (arith, some, names, names-append p.spans t gone named_left, sound.used t) in
        ap (λ (f : ℕ → Option CountedText). text_at f t) change.texts ∙ without-stays gone p.spans p.texts t once few

    pub leaves_shows : (keys : List ℕ) → AreAmong keys left → view n keys q ≡ view n keys p
    leaves_shows keys among =
        let named_same : (t : ℕ) → 0 < count t (text_keys_at p.spans named_left) → text_at q.texts t ≡ text_at p.texts t = λ t some. left_same t (omega (arith, some)) in
        let alike : ShowAlike named_left p.spans p.texts q.spans q.texts = λ k some. ap (λ (f : ℕ → Option StoredData). shown q.texts (f k)) change.spans ∙ alike-without gone p.spans p.texts q.texts named_left left_apart named_same k some in
        same_view n left keys p q sound.order change.rows alike among

    pub leaves_stays : Stay held p.texts q.texts
    leaves_stays t some = left_same t (omega (arith, some))

  -- ---- spans come

  -- a key that is vacant is_not named
  unnamed : (n : Counts) (pending held : List ℕ) (p : Part N) (key : ℕ) → StoreInvariant n pending held p → p.spans key ≡ None → count key (named_keys n pending p) ≡ 0
  unnamed n pending held p key sound vacant = sound.named key ∙ ap one vacant

  module _ (number key : ℕ) (span : StoredData) (note : N) (p q : Part N) (change : Joins number key span note p q) (n : Counts) (pending held : List ℕ) (sound : StoreInvariant n pending held p) where
    abbrev at : ℕ → Option StoredData
    at = with_span key (Some span) p.spans

    -- one more row, or another one, beside keys that show the same
    pub joins_shows : (keys : List ℕ) → AreAmong keys pending → (trace : List ℕ) → p.latest_rows trace ≡ Some number → n.decided < number → view n keys q ≡ with_joined trace (texts_of (text_at p.texts) span) note (view n keys p)
    joins_shows keys among trace latest_row above =
        let K = keys_in p.rows (in_table n) in
        let W = waiting_numbers n in
        let S = settled_numbers n in
        let w = joined key note (p.rows number) in
        let new = with_at number w p.rows in
        let x = texts_of (text_at p.texts) span in
        let none = unnamed n pending held p key sound change.vacant in
        let in_rows : count key (keys_in p.rows W) ≡ 0 = omega (arith, none, waiting_keys n p.rows key sound.order, count-append key K pending) in
        let in_keys : count key keys ≡ 0 = omega (arith, none, among key, count-append key K pending) in
        let here : shown p.texts (at key) ≡ x ∷ [] = ap (shown p.texts) (span_here key (Some span) p.spans) in
        let more : (ks : List ℕ) → spans_at at p.texts (ks ++ key ∷ []) ≡ spans_at at p.texts ks ++ x ∷ [] = λ ks. spans-append at p.texts ks (key ∷ []) ∙ ap (λ (l : List SpanTexts). spans_at at p.texts ks ++ (l ++ [])) here in
        let found : latest_row_in p.rows W trace ≡ Some number = waiting_seat n pending held p trace sound number latest_row above in
        let old : waiting_rows at p.texts p.rows W ≡ waiting_rows p.spans p.texts p.rows W = rows-alike p.spans p.texts at p.texts p.rows W (alike-put key (Some span) p.spans p.texts (keys_in p.rows W) in_rows) in
        let grown : waiting_rows at p.texts new W ≡ joined_rows trace x note (waiting_rows p.spans p.texts p.rows W) = rows_joined at p.texts p.rows trace number key x note more (n.opened - n.decided) n.decided found ∙ ap (joined_rows trace x note) old in
        let others : AreOther number S = range-below (n.decided - n.first) n.first number (let b = sound.order.first in omega (arith, b, above)) in
        let settled' : (view n keys q).settled ≡ (view n keys p).settled = ap (λ (f : ℕ → Option (Row N)). settled_rows f S) change.rows ∙ settled-other number w p.rows S others in
        let waiting' : (view n keys q).waiting ≡ joined_rows trace x note (view n keys p).waiting =
        ap (λ (f : ℕ → Option (Row N)). waiting_rows q.spans q.texts f W) change.rows ∙ (ap (λ (f : ℕ → Option StoredData). waiting_rows f q.texts new W) change.spans ∙ (ap (λ (f : ℕ → Option CountedText). waiting_rows at f new W) change.texts ∙ grown)) in
        let pending' : (view n keys q).pending ≡ (view n keys p).pending =
        ap (λ (f : ℕ → Option StoredData). spans_at f q.texts keys) change.spans ∙ (ap (λ (f : ℕ → Option CountedText). spans_at at f keys) change.texts ∙ spans-alike p.spans p.texts at p.texts keys (alike-put key (Some span) p.spans p.texts keys in_keys)) in
        view_by (view n keys q).settled (view n keys p).settled (view n keys q).waiting (joined_rows trace x note (view n keys p).waiting) (view n keys q).pending (view n keys p).pending settled' waiting' pending'

  module _ (key due : ℕ) (trace : List ℕ) (span : StoredData) (note : N) (p q : Part N) (n : Counts) (change : Opens (suc n.opened) key due trace span note p q) (pending held : List ℕ) (sound : StoreInvariant n pending held p) where
    pub opens_shows : (keys : List ℕ) → AreAmong keys pending → view (one_opened n) keys q ≡ with_opened trace due (texts_of (text_at p.texts) span) note (view n keys p)
    opens_shows keys among =
        let at' = with_span key (Some span) p.spans in
        let K = keys_in p.rows (in_table n) in
        let W = waiting_numbers n in
        let S = settled_numbers n in
        let row : Row N = new_row trace due key note in
        let new = with_at (suc n.opened) (Some row) p.rows in
        let x = texts_of (text_at p.texts) span in
        let opened : WaitingRow N = record { trace = trace; due = due; spans = x ∷ []; note = note } in
        let none = unnamed n pending held p key sound change.vacant in
        let in_rows : count key (keys_in p.rows W) ≡ 0 = omega (arith, none, waiting_keys n p.rows key sound.order, count-append key K pending) in
        let in_keys : count key keys ≡ 0 = omega (arith, none, among key, count-append key K pending) in
        let here : shown p.texts (at' key) ≡ x ∷ [] = ap (shown p.texts) (span_here key (Some span) p.spans) in
        let b = sound.order.first in
        let c = sound.order.decided in
        let numbers : waiting_numbers (one_opened n) ≡ W ++ suc n.opened ∷ [] = ap (λ (k : ℕ). range n.decided (k - n.decided)) (add-one n.opened) ∙ last n.decided n.opened c in
        let apart : AreOther (suc n.opened) W = range-below (n.opened - n.decided) n.decided (suc n.opened) (omega (arith, c)) in
        let others : AreOther (suc n.opened) S = range-below (n.decided - n.first) n.first (suc n.opened) (omega (arith, b, c)) in
        let front : waiting_rows at' p.texts new W ≡ waiting_rows p.spans p.texts p.rows W = waiting-other at' p.texts (suc n.opened) (Some row) p.rows W apart ∙ rows-alike p.spans p.texts at' p.texts p.rows W (alike-put key (Some span) p.spans p.texts (keys_in p.rows W) in_rows) in
        let back : waiting_rows at' p.texts new (suc n.opened ∷ []) ≡ opened ∷ [] =
        ap (λ (o : Option (Row N)). as_waiting at' p.texts o ++ []) (row_here (suc n.opened) (Some row) p.rows) ∙ ap (λ (l : List SpanTexts). record { trace = trace; due = due; spans = l ++ []; note = note } ∷ []) here in
        let settled' : (view (one_opened n) keys q).settled ≡ (view n keys p).settled = ap (λ (f : ℕ → Option (Row N)). settled_rows f S) change.rows ∙ settled-other (suc n.opened) (Some row) p.rows S others in
        let waiting' : (view (one_opened n) keys q).waiting ≡ (view n keys p).waiting ++ opened ∷ [] =
        ap (λ (f : ℕ → Option (Row N)). waiting_rows q.spans q.texts f (waiting_numbers (one_opened n))) change.rows
        ∙ (ap (λ (f : ℕ → Option StoredData). waiting_rows f q.texts new (waiting_numbers (one_opened n))) change.spans
        ∙ (ap (λ (f : ℕ → Option CountedText). waiting_rows at' f new (waiting_numbers (one_opened n))) change.texts
        ∙ (ap (waiting_rows at' p.texts new) numbers ∙ (waiting-append at' p.texts new W (suc n.opened ∷ []) ∙ cc (front, back))))) in
        let pending' : (view (one_opened n) keys q).pending ≡ (view n keys p).pending =
        ap (λ (f : ℕ → Option StoredData). spans_at f q.texts keys) change.spans ∙ (ap (λ (f : ℕ → Option CountedText). spans_at at' f keys) change.texts ∙ spans-alike p.spans p.texts at' p.texts keys (alike-put key (Some span) p.spans p.texts keys in_keys)) in
        view_by (view (one_opened n) keys q).settled (view n keys p).settled (view (one_opened n) keys q).waiting ((view n keys p).waiting ++ opened ∷ []) (view (one_opened n) keys q).pending (view n keys p).pending settled' waiting' pending'

  module _ (key : ℕ) (span : StoredData) (p q : Part N) (change : Waits key span p q) (n : Counts) (pending held : List ℕ) (sound : StoreInvariant n pending held p) where
    pub waits_shows : (keys : List ℕ) → AreAmong keys pending → view n (keys ++ key ∷ []) q ≡ with_late (texts_of (text_at p.texts) span) (view n keys p)
    waits_shows keys among =
        let at' = with_span key (Some span) p.spans in
        let K = keys_in p.rows (in_table n) in
        let W = waiting_numbers n in
        let x = texts_of (text_at p.texts) span in
        let none = unnamed n pending held p key sound change.vacant in
        let in_rows : count key (keys_in p.rows W) ≡ 0 = omega (arith, none, waiting_keys n p.rows key sound.order, count-append key K pending) in
        let in_keys : count key keys ≡ 0 = omega (arith, none, among key, count-append key K pending) in
        let here : shown p.texts (at' key) ≡ x ∷ [] = ap (shown p.texts) (span_here key (Some span) p.spans) in
        let settled' : (view n (keys ++ key ∷ []) q).settled ≡ (view n keys p).settled = ap (λ (f : ℕ → Option (Row N)). settled_rows f (settled_numbers n)) change.rows in
        let waiting' : (view n (keys ++ key ∷ []) q).waiting ≡ (view n keys p).waiting =
        ap (λ (f : ℕ → Option (Row N)). waiting_rows q.spans q.texts f W) change.rows ∙ (ap (λ (f : ℕ → Option StoredData). waiting_rows f q.texts p.rows W) change.spans
        ∙ (ap (λ (f : ℕ → Option CountedText). waiting_rows at' f p.rows W) change.texts ∙ rows-alike p.spans p.texts at' p.texts p.rows W (alike-put key (Some span) p.spans p.texts (keys_in p.rows W) in_rows))) in
        let same : spans_at at' p.texts keys ≡ spans_at p.spans p.texts keys = spans-alike p.spans p.texts at' p.texts keys (alike-put key (Some span) p.spans p.texts keys in_keys) in
        let pending' : (view n (keys ++ key ∷ []) q).pending ≡ (view n keys p).pending ++ x ∷ [] =
        ap (λ (f : ℕ → Option StoredData). spans_at f q.texts (keys ++ key ∷ [])) change.spans ∙ (ap (λ (f : ℕ → Option CountedText). spans_at at' f (keys ++ key ∷ [])) change.texts
        ∙ (spans-append at' p.texts keys (key ∷ []) ∙ cc (same, here))) in
        view_by (view n (keys ++ key ∷ []) q).settled (view n keys p).settled (view n (keys ++ key ∷ []) q).waiting (view n keys p).waiting (view n (keys ++ key ∷ []) q).pending ((view n keys p).pending ++ x ∷ []) settled' waiting' pending'

  -- ---- rows are decided and leave the table

  module _ (sampled : Bool) (p q : Part N) (n : Counts) (change : Settles (suc n.decided) sampled p q) (some : n.decided < n.opened) (pending held : List ℕ) (sound : StoreInvariant n pending held p) where
    -- what is shown of rows once the next one is decided
    abbrev pub rest_rows : List (WaitingRow N)
    rest_rows = waiting_rows p.spans p.texts p.rows (range (suc n.decided) (n.opened - suc n.decided))

    settles_waiting : waiting_in (one_decided n) q ≡ rest_rows
    settles_waiting =
        let d = n.decided in
        let w = settled sampled (p.rows (suc d)) in
        let back = range (suc d) (n.opened - suc d) in
        let others : AreOther (suc d) back = range-above (n.opened - suc d) (suc d) (suc d) (omega arith) in
        ap (λ (f : ℕ → Option (Row N)). waiting_rows q.spans q.texts f (waiting_numbers (one_decided n))) change.rows
        ∙ (ap (λ (f : ℕ → Option StoredData). waiting_rows f q.texts (with_at (suc d) w p.rows) (waiting_numbers (one_decided n))) change.spans
        ∙ (ap (λ (f : ℕ → Option CountedText). waiting_rows p.spans f (with_at (suc d) w p.rows) (waiting_numbers (one_decided n))) change.texts
        ∙ (ap (λ (k : ℕ). waiting_rows p.spans p.texts (with_at (suc d) w p.rows) (range k (n.opened - k))) (add-one d)
        ∙ waiting-other p.spans p.texts (suc d) w p.rows back others)))

    first_waits : (row : Row N) → p.rows (suc n.decided) ≡ Some row → waiting_in n p ≡ row_shown p row ∷ rest_rows
    first_waits row had = ap (waiting_rows p.spans p.texts p.rows) (front_of n.decided n.opened some) ∙ ap (λ (o : Option (Row N)). as_waiting p.spans p.texts o ++ rest_rows) had

    settles_settled : (row : Row N) → p.rows (suc n.decided) ≡ Some row → settled_in (one_decided n) q ≡ settled_in n p ++ record { trace = row.trace; sampled = sampled } ∷ []
    settles_settled row had =
        let d = n.decided in
        let w = settled sampled (p.rows (suc d)) in
        let new = with_at (suc d) w p.rows in
        let front = settled_numbers n in
        let b = sound.order.first in
        let others : AreOther (suc d) front = range-below (d - n.first) n.first (suc d) (omega (arith, b)) in
        let numbers : settled_numbers (one_decided n) ≡ front ++ suc d ∷ [] = ap (λ (k : ℕ). range n.first (k - n.first)) (add-one d) ∙ last n.first d b in
        let here : as_settled (new (suc d)) ≡ record { trace = row.trace; sampled = sampled } ∷ [] = ap as_settled (row_here (suc d) w p.rows ∙ ap (settled sampled) had) in
        let back : settled_rows new (suc d ∷ []) ≡ record { trace = row.trace; sampled = sampled } ∷ [] = ap (λ (l : List SettledRow). l ++ []) here in
        ap (λ (f : ℕ → Option (Row N)). settled_rows f (settled_numbers (one_decided n))) change.rows ∙ (ap (settled_rows new) numbers ∙ (settled-append new front (suc d ∷ []) ∙ cc (settled-other (suc d) w p.rows front others, back)))

    spans_kept : (keys : List ℕ) → spans_at q.spans q.texts keys ≡ spans_at p.spans p.texts keys
    spans_kept keys = ap (λ (f : ℕ → Option StoredData). spans_at f q.texts keys) change.spans ∙ ap (λ (f : ℕ → Option CountedText). spans_at p.spans f keys) change.texts

    next_there : (row : Row N) × (p.rows (suc n.decided) ≡ Some row)
    next_there = by_row (p.rows (suc n.decided)) refl
      where
        there : p.rows (suc n.decided) ≢ None
        there = let a = sound.order.swept in let b = sound.order.first in sound.there (suc n.decided) (omega (arith, a, b)) some

        by_row : (o : Option (Row N)) → p.rows (suc n.decided) ≡ o → (row : Row N) × (p.rows (suc n.decided) ≡ Some row)
        by_row None e = absurd (there e)
        by_row (Some row) e = (row, e)

    pub drops_shows : sampled ≡ false → (keys : List ℕ) → view (one_decided n) keys q ≡ first_dropped (view n keys p)
    drops_shows is_not keys =
        let row = next_there.0 in
        let had = next_there.1 in
        let v = view n keys p in
        let v' = view (one_decided n) keys q in
        let step : first_dropped v ≡ dropped_by (row_shown p row ∷ rest_rows) v = ap (λ (l : List (WaitingRow N)). dropped_by l v) (first_waits row had) in
        let settled' : v'.settled ≡ v.settled ++ record { trace = row.trace; sampled = false } ∷ [] = settles_settled row had ∙ ap (λ (b : Bool). settled_in n p ++ record { trace = row.trace; sampled = b } ∷ []) is_not in
        view_by v'.settled (v.settled ++ record { trace = row.trace; sampled = false } ∷ []) v'.waiting rest_rows v'.pending v.pending settled' settles_waiting (spans_kept keys) ∙ sym step

    pub keeps_shows : sampled ≡ true → (keys : List ℕ) → view (one_decided n) (keys ++ keys_of (p.rows (suc n.decided))) q ≡ first_kept (view n keys p)
    keeps_shows is keys =
        let row = next_there.0 in
        let had = next_there.1 in
        let ks = keys_of (p.rows (suc n.decided)) in
        let v = view n keys p in
        let v' = view (one_decided n) (keys ++ ks) q in
        let step : first_kept v ≡ kept_by (row_shown p row ∷ rest_rows) v = ap (λ (l : List (WaitingRow N)). kept_by l v) (first_waits row had) in
        let settled' : v'.settled ≡ v.settled ++ record { trace = row.trace; sampled = true } ∷ [] = settles_settled row had ∙ ap (λ (b : Bool). settled_in n p ++ record { trace = row.trace; sampled = b } ∷ []) is in
        let pending' : v'.pending ≡ v.pending ++ spans_at p.spans p.texts row.keys = spans_kept (keys ++ ks) ∙ (spans-append p.spans p.texts keys ks ∙ ap (λ (o : Option (Row N)). spans_at p.spans p.texts keys ++ spans_at p.spans p.texts (keys_of o)) had) in
        view_by v'.settled (v.settled ++ record { trace = row.trace; sampled = true } ∷ []) v'.waiting rest_rows v'.pending (v.pending ++ spans_at p.spans p.texts row.keys) settled' settles_waiting pending' ∙ sym step

  -- the lowest row of the table is no longer there, its spans still are
  pub unrowed_shows : (p q : Part N) (n : Counts) → q.spans ≡ p.spans → q.texts ≡ p.texts → q.rows ≡ with_at (suc n.swept) None p.rows → n.swept < n.first → n.first ≤ n.decided → (keys : List ℕ) → view (one_swept n) keys q ≡ view n keys p
  unrowed_shows p q n spans texts' rows lt order keys =
      let s = n.swept in
      let new = with_at (suc s) None p.rows in
      let S = settled_numbers n in
      let W = waiting_numbers n in
      let apart : AreOther (suc s) W = range-above (n.opened - n.decided) n.decided (suc s) (omega (arith, lt, order)) in
      let others : AreOther (suc s) S = range-above (n.decided - n.first) n.first (suc s) (omega (arith, lt)) in
      let settled' : (view (one_swept n) keys q).settled ≡ (view n keys p).settled = ap (λ (f : ℕ → Option (Row N)). settled_rows f S) rows ∙ settled-other (suc s) None p.rows S others in
      let waiting' : (view (one_swept n) keys q).waiting ≡ (view n keys p).waiting =
      ap (λ (f : ℕ → Option (Row N)). waiting_rows q.spans q.texts f W) rows ∙ (ap (λ (f : ℕ → Option StoredData). waiting_rows f q.texts new W) spans
      ∙ (ap (λ (f : ℕ → Option CountedText). waiting_rows p.spans f new W) texts' ∙ waiting-other p.spans p.texts (suc s) None p.rows W apart)) in
      let pending' : (view (one_swept n) keys q).pending ≡ (view n keys p).pending = ap (λ (f : ℕ → Option StoredData). spans_at f q.texts keys) spans ∙ ap (λ (f : ℕ → Option CountedText). spans_at p.spans f keys) texts' in
      view_by (view (one_swept n) keys q).settled (view n keys p).settled (view (one_swept n) keys q).waiting (view n keys p).waiting (view (one_swept n) keys q).pending (view n keys p).pending settled' waiting' pending'
