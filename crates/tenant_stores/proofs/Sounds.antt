-- A part stays sound as spans come and leave, and as rows open, are decided and leave.
use Rattle.std.proofs.Common.{◌≡◌, ◌≢◌, ℕ, suc, ◌+◌, ◌-◌, ◌<◌, ◌≤◌, List, [], ◌∷◌, ◌++◌, refl, sym, ap, ◌∙◌, arith, Bool, Option, Some, None, subst, add-one, inl, inr}
use Rattle.std.proofs.lemmas.Bool.{cases_lt}
use Rattle.span_pool.specs.Stored.{StoredData}
use Rattle.span_pool.specs.Pool.{with_span, without}
use Rattle.trace_rows.specs.declared.table.Row.{Row}
use Rattle.trace_rows.specs.Part.{with_at, with_latest_row, joined, settled, keys_of, without_latest_row, trace_in}
use Rattle.tenant_stores.specs.Part.{Part}
use Rattle.tenant_stores.specs.Counts.{Counts, no_rows, all_left, one_opened, one_decided, one_swept, in_table, range, count}
use Rattle.tenant_stores.specs.View.{keys_in, text_keys, text_keys_of, text_keys_at}
use Rattle.tenant_stores.specs.Invariant.{one, uses_of, if_of, last_of, latest_row_in, StoreInvariant}
use Rattle.tenant_stores.specs.Changes.{texts_without, Joins, Opens, Waits, new_row, Settles, Leaves}
use Rattle.tenant_stores.proofs.Parts.{part_by, span_here}
use Rattle.tenant_stores.proofs.Lists.{count-append, AreOther, range-above, range-below, front_of, last}
use Rattle.tenant_stores.proofs.Uses.{one_most, one-without, one-put, names-append, names-by_count, names-put, names-without, uses-without, kept-without}
use Rattle.tenant_stores.proofs.Rows.{row_here, row_either, row_other, keys_in-append, seat_in-append, keys-other, seat-other, seat-replaced, settled_of, settled_keys, settled_there, joined_of, joined_keys, joined_there, named-replaced, seat_swept, seat_above, seat_opened}

module _ {N : Type 0} where
  pub empty_sound : (p : Part N) → p.spans ≡ (λ _. None) → p.texts ≡ (λ _. None) → p.rows ≡ (λ _. None) → p.latest_rows ≡ (λ _. None) → StoreInvariant no_rows [] [] p
  empty_sound p spans texts rows latest_rows =
      subst (λ (x : Part N). StoreInvariant no_rows [] [] x) (sym (part_by p.spans (λ _. None) p.texts (λ _. None) p.rows (λ _. None) p.latest_rows (λ _. None) spans texts rows latest_rows)) (record {
        order = record { swept = omega arith; first = omega arith; decided = omega arith };
        named = λ key. refl;
        bare = λ number above below. refl;
        used = λ key. refl;
        kept = λ key. tt;
        latest_rows = λ trace. refl;
        there = λ number above below. absurd (omega (arith, above, below));
        vacant = λ number above. refl;
        left = λ number below. refl;
      })

  -- spans that were pending leave
  pub leaves_sound : (gone : List ℕ) (p q : Part N) → Leaves gone p q → (n : Counts) (pending left held : List ℕ) → ((j : ℕ) → count j gone + count j left ≡ count j pending) → StoreInvariant n pending held p → StoreInvariant n left held q
  leaves_sound gone p q change n pending left held all sound =
      let K = keys_in p.rows (in_table n) in
      let named_left : (j : ℕ) → count j gone + count j (K ++ left) ≡ one (p.spans j) = λ j. omega (arith, sound.named j, all j, count-append j K left, count-append j K pending) in
      let apart : (j : ℕ) → count j gone + count j (K ++ left) ≤ 1 = λ j. omega (arith, named_left j, one_most (p.spans j)) in
      let once : (j : ℕ) → count j gone ≤ 1 = λ j. omega (arith, apart j) in
      let same : (j : ℕ) → count j (gone ++ (K ++ left)) ≡ count j (K ++ pending) = λ j. omega (arith, count-append j gone (K ++ left), named_left j, sound.named j) in
      subst (λ (x : Part N). StoreInvariant n left held x) (sym (part_by q.spans (without gone p.spans) q.texts (texts_without gone p.spans p.texts) q.rows p.rows q.latest_rows p.latest_rows change.spans change.texts change.rows change.latest_rows)) (record {
        order = sound.order;
        named = λ j. one-without gone p.spans j (count j (K ++ left)) (named_left j);
        bare = sound.bare;
        used = λ t.
            let names : count t (text_keys_at (without gone p.spans) (K ++ left)) ≡ count t (text_keys_at p.spans (K ++ left)) = ap (count t) (names-without gone p.spans (K ++ left) apart) in
            omega (arith, names, uses-without gone p.spans p.texts t once, names-append p.spans t gone (K ++ left), names-by_count p.spans t (gone ++ (K ++ left)) (K ++ pending) same, sound.used t);
        kept = kept-without gone p.spans p.texts sound.kept;
        latest_rows = sound.latest_rows;
        there = sound.there;
        vacant = sound.vacant;
        left = sound.left;
      })

  -- a row is decided: its spans are pending
  pub settles_sound : (sampled : Bool) (p q : Part N) (n : Counts) (pending held : List ℕ) → Settles (suc n.decided) sampled p q → n.decided < n.opened → StoreInvariant n pending held p → StoreInvariant (one_decided n) (pending ++ keys_of (p.rows (suc n.decided))) held q
  settles_sound sampled p q n pending held change some sound =
      let d = n.decided in
      let w = settled sampled (p.rows (suc d)) in
      let new = with_at (suc d) w p.rows in
      let row_keys = keys_of (p.rows (suc d)) in
      let a = sound.order.swept in
      let b = sound.order.first in
      let le : n.swept ≤ d = omega (arith, a, b) in
      let old_keys = keys_in p.rows (in_table n) in
      let new_keys = keys_in new (in_table n) in
      let same : (j : ℕ) → count j (new_keys ++ (pending ++ row_keys)) ≡ count j (old_keys ++ pending) = λ j.
      let none : count j (keys_of w) ≡ 0 = ap (count j) (settled_keys sampled (p.rows (suc d))) in
      omega (arith, none, named-replaced w p.rows n.swept d n.opened j le some, count-append j new_keys (pending ++ row_keys), count-append j pending row_keys, count-append j old_keys pending) in
      subst (λ (x : Part N). StoreInvariant (one_decided n) (pending ++ row_keys) held x) (sym (part_by q.spans p.spans q.texts p.texts q.rows new q.latest_rows p.latest_rows change.spans change.texts change.rows change.latest_rows)) (record {
        order = record { swept = a; first = omega (arith, b); decided = omega (arith, some) };
        named = λ j. same j ∙ sound.named j;
        bare = λ number above below. row_either (suc d) w p.rows (λ o. keys_of o ≡ []) number (λ e. settled_keys sampled (p.rows (suc d))) (λ ne. sound.bare number above (not_last number d ne below));
        used = λ t. omega (arith, names-by_count p.spans t (new_keys ++ (pending ++ row_keys)) (old_keys ++ pending) same, sound.used t);
        kept = sound.kept;
        latest_rows = λ trace. sound.latest_rows trace ∙ sym (seat-replaced (suc d) w p.rows (settled_of sampled (p.rows (suc d))) trace (in_table n));
        there = λ number above below. row_either (suc d) w p.rows (λ o. o ≢ None) number (λ e. settled_there sampled (p.rows (suc d)) (sound.there (suc d) (omega (arith, le)) some)) (λ ne. sound.there number above below);
        vacant = λ number above. row_other (suc d) w p.rows number (λ e. absurd (omega (arith, e, above, some))) ∙ sound.vacant number above;
        left = λ number below. row_other (suc d) w p.rows number (λ e. absurd (omega (arith, e, below, le))) ∙ sound.left number below;
      })
    where
      not_last : (number d : ℕ) → number ≢ suc d → number ≤ d + 1 → number ≤ d
      not_last number d ne le = omega (arith, ne, le)

  -- spans and texts as one more span comes
  module _ (key : ℕ) (span : StoredData) (p : Part N) (old_keys new_keys held : List ℕ) (vacant : p.spans key ≡ None)
      (named : (j : ℕ) → count j old_keys ≡ one (p.spans j)) (used : (t : ℕ) → count t (text_keys_at p.spans old_keys) + count t (text_keys span.keys ++ held) ≡ uses_of (p.texts t))
      (more : (j : ℕ) → count j new_keys ≡ count j (key ∷ old_keys)) where
    come_named : (j : ℕ) → count j new_keys ≡ one (with_span key (Some span) p.spans j)
    come_named j = let put = one-put key span p.spans j (count j old_keys) vacant (named j) in omega (arith, more j, put)

    come_used : (t : ℕ) → count t (text_keys_at (with_span key (Some span) p.spans) new_keys) + count t held ≡ uses_of (p.texts t)
    come_used t =
        let new = with_span key (Some span) p.spans in
        let none : count key old_keys ≡ 0 = named key ∙ ap one vacant in
        let whole = names-by_count new t new_keys (key ∷ old_keys) more in
        let first : count t (text_keys_of (new key)) ≡ count t (text_keys span.keys) = ap (λ (o : Option StoredData). count t (text_keys_of o)) (span_here key (Some span) p.spans) in
        let rest : count t (text_keys_at new old_keys) ≡ count t (text_keys_at p.spans old_keys) = ap (count t) (names-put key (Some span) p.spans old_keys none) in
        omega (arith, whole, first, rest, count-append t (text_keys_of (new key)) (text_keys_at new old_keys), count-append t (text_keys span.keys) held, used t)

  -- a span joins a row that waits
  pub joins_sound : (m key : ℕ) (span : StoredData) (note : N) (p q : Part N) (n : Counts) (pending held : List ℕ) → Joins (suc m) key span note p q → n.decided ≤ m → m < n.opened → StoreInvariant n pending (text_keys span.keys ++ held) p → StoreInvariant n pending held q
  joins_sound m key span note p q n pending held change above_d below_o sound =
      let w = joined key note (p.rows (suc m)) in
      let new = with_at (suc m) w p.rows in
      let a = sound.order.swept in
      let b = sound.order.first in
      let le : n.swept ≤ m = omega (arith, a, b, above_d) in
      let there : p.rows (suc m) ≢ None = sound.there (suc m) (omega (arith, le)) below_o in
      let old_keys = keys_in p.rows (in_table n) in
      let new_keys = keys_in new (in_table n) in
      let more : (j : ℕ) → count j (new_keys ++ pending) ≡ count j (key ∷ (old_keys ++ pending)) = λ j.
      let grown : count j (keys_of w) ≡ count j (keys_of (p.rows (suc m))) + count j (key ∷ []) = ap (count j) (joined_keys key note (p.rows (suc m)) there) ∙ count-append j (keys_of (p.rows (suc m))) (key ∷ []) in
      omega (arith, grown, named-replaced w p.rows n.swept m n.opened j le below_o, count-append j new_keys pending, count-append j old_keys pending) in
      subst (λ (x : Part N). StoreInvariant n pending held x) (sym (part_by q.spans (with_span key (Some span) p.spans) q.texts p.texts q.rows new q.latest_rows p.latest_rows change.spans change.texts change.rows change.latest_rows)) (record {
        order = sound.order;
        named = come_named key span p (old_keys ++ pending) (new_keys ++ pending) held change.vacant sound.named sound.used more;
        bare = λ number above below. row_either (suc m) w p.rows (λ o. keys_of o ≡ []) number (λ e. absurd (omega (arith, e, below, above_d))) (λ ne. sound.bare number above below);
        used = come_used key span p (old_keys ++ pending) (new_keys ++ pending) held change.vacant sound.named sound.used more;
        kept = sound.kept;
        latest_rows = λ trace. sound.latest_rows trace ∙ sym (seat-replaced (suc m) w p.rows (joined_of key note (p.rows (suc m))) trace (in_table n));
        there = λ number above below. row_either (suc m) w p.rows (λ o. o ≢ None) number (λ e. joined_there key note (p.rows (suc m)) there) (λ ne. sound.there number above below);
        vacant = λ number above. row_other (suc m) w p.rows number (λ e. absurd (omega (arith, e, above, below_o))) ∙ sound.vacant number above;
        left = λ number below. row_other (suc m) w p.rows number (λ e. absurd (omega (arith, e, below, le))) ∙ sound.left number below;
      })

  -- a span waits for a batch
  pub waits_sound : (key : ℕ) (span : StoredData) (p q : Part N) (n : Counts) (pending held : List ℕ) → Waits key span p q → StoreInvariant n pending (text_keys span.keys ++ held) p → StoreInvariant n (pending ++ key ∷ []) held q
  waits_sound key span p q n pending held change sound =
      let K = keys_in p.rows (in_table n) in
      let more : (j : ℕ) → count j (K ++ (pending ++ key ∷ [])) ≡ count j (key ∷ (K ++ pending)) = λ j.
      omega (arith, count-append j K (pending ++ key ∷ []), count-append j pending (key ∷ []), count-append j K pending, count-append j (key ∷ []) (K ++ pending)) in
      subst (λ (x : Part N). StoreInvariant n (pending ++ key ∷ []) held x) (sym (part_by q.spans (with_span key (Some span) p.spans) q.texts p.texts q.rows p.rows q.latest_rows p.latest_rows change.spans change.texts change.rows change.latest_rows)) (record {
        order = sound.order;
        named = come_named key span p (K ++ pending) (K ++ (pending ++ key ∷ [])) held change.vacant sound.named sound.used more;
        bare = sound.bare;
        used = come_used key span p (K ++ pending) (K ++ (pending ++ key ∷ [])) held change.vacant sound.named sound.used more;
        kept = sound.kept;
        latest_rows = sound.latest_rows;
        there = sound.there;
        vacant = sound.vacant;
        left = sound.left;
      })

  -- a span opens the next row
  pub opens_sound : (key due : ℕ) (trace : List ℕ) (span : StoredData) (note : N) (p q : Part N) (n : Counts) (pending held : List ℕ) → Opens (suc n.opened) key due trace span note p q → StoreInvariant n pending (text_keys span.keys ++ held) p → StoreInvariant (one_opened n) pending held q
  opens_sound key due trace span note p q n pending held change sound =
      let o = n.opened in
      let row : Row N = new_row trace due key note in
      let new = with_at (suc o) (Some row) p.rows in
      let a = sound.order.swept in
      let b = sound.order.first in
      let d = sound.order.decided in
      let le : n.swept ≤ o = omega (arith, a, b, d) in
      let numbers : in_table (one_opened n) ≡ in_table n ++ suc o ∷ [] = ap (λ (k : ℕ). range n.swept (k - n.swept)) (add-one o) ∙ last n.swept o le in
      let others : AreOther (suc o) (in_table n) = range-below (o - n.swept) n.swept (suc o) (omega (arith, le)) in
      let here : new (suc o) ≡ Some row = row_here (suc o) (Some row) p.rows in
      let old_keys = keys_in p.rows (in_table n) in
      let new_keys = keys_in new (in_table (one_opened n)) in
      let more : (j : ℕ) → count j (new_keys ++ pending) ≡ count j (key ∷ (old_keys ++ pending)) = λ j.
      let parts : new_keys ≡ keys_in new (in_table n) ++ (keys_of (new (suc o)) ++ []) = ap (keys_in new) numbers ∙ keys_in-append new (in_table n) (suc o ∷ []) in
      let front : count j (keys_in new (in_table n)) ≡ count j old_keys = ap (count j) (keys-other (suc o) (Some row) p.rows (in_table n) others) in
      let back : count j (keys_of (new (suc o)) ++ []) ≡ count j (key ∷ []) = ap (λ (r : Option (Row N)). count j (keys_of r ++ [])) here in
      omega (arith, ap (count j) parts, count-append j (keys_in new (in_table n)) (keys_of (new (suc o)) ++ []), front, back, count-append j new_keys pending, count-append j old_keys pending) in
      subst (λ (x : Part N). StoreInvariant (one_opened n) pending held x) (sym (part_by q.spans (with_span key (Some span) p.spans) q.texts p.texts q.rows new q.latest_rows (with_latest_row trace (Some (suc o)) p.latest_rows) change.spans change.texts change.rows change.latest_rows)) (record {
        order = record { swept = a; first = b; decided = omega (arith, d) };
        named = come_named key span p (old_keys ++ pending) (new_keys ++ pending) held change.vacant sound.named sound.used more;
        bare = λ number above below. row_either (suc o) (Some row) p.rows (λ r. keys_of r ≡ []) number (λ e. absurd (omega (arith, e, below, d))) (λ ne. sound.bare number above below);
        used = come_used key span p (old_keys ++ pending) (new_keys ++ pending) held change.vacant sound.named sound.used more;
        kept = sound.kept;
        latest_rows = λ t.
            let after : latest_row_in new (in_table (one_opened n)) t ≡ last_of (latest_row_in p.rows (in_table n) t) (if_of t (Some row) (suc o)) = ap (λ (ns : List ℕ). latest_row_in new ns t) numbers ∙ (seat_in-append new (in_table n) (suc o ∷ []) t ∙ cc (seat-other (suc o) (Some row) p.rows t (in_table n) others, here)) in
            seat_opened trace (suc o) row p.latest_rows (latest_row_in p.rows (in_table n)) refl sound.latest_rows t ∙ sym after;
        there = λ number above below. row_either (suc o) (Some row) p.rows (λ r. r ≢ None) number (λ e. some_is row) (λ ne. sound.there number above (not_last number o ne below));
        vacant = λ number above. row_other (suc o) (Some row) p.rows number (λ e. absurd (omega (arith, e, above))) ∙ sound.vacant number (omega (arith, above));
        left = λ number below. row_other (suc o) (Some row) p.rows number (λ e. absurd (omega (arith, e, below, le))) ∙ sound.left number below;
      })
    where
      not_last : (number d : ℕ) → number ≢ suc d → number ≤ d + 1 → number ≤ d
      not_last number d ne le = omega (arith, ne, le)

      some_is : (row : Row N) → Some row ≢ None
      some_is row = λ e. absurd (cc)

  -- the lowest row of the table leaves: its spans are pending
  pub unrowed_sound : (p q : Part N) (n : Counts) (pending held : List ℕ) → q.spans ≡ p.spans → q.texts ≡ p.texts → q.rows ≡ with_at (suc n.swept) None p.rows → q.latest_rows ≡ without_latest_row (suc n.swept) (trace_in (p.rows (suc n.swept))) p.latest_rows
      → n.swept < n.first → StoreInvariant n pending held p → StoreInvariant (one_swept n) (pending ++ keys_of (p.rows (suc n.swept))) held q
  unrowed_sound p q n pending held spans texts' rows latest_rows lt sound =
      let s = n.swept in
      let new = with_at (suc s) None p.rows in
      let row_keys = keys_of (p.rows (suc s)) in
      let rest = range (suc s) (n.opened - suc s) in
      let b = sound.order.first in
      let d = sound.order.decided in
      let some : s < n.opened = omega (arith, lt, b, d) in
      let before : in_table n ≡ suc s ∷ rest = front_of s n.opened some in
      let after : in_table (one_swept n) ≡ rest = ap (λ (k : ℕ). range k (n.opened - k)) (add-one s) in
      let others : AreOther (suc s) rest = range-above (n.opened - suc s) (suc s) (suc s) (omega arith) in
      let old_keys = keys_in p.rows (in_table n) in
      let new_keys = keys_in new (in_table (one_swept n)) in
      let same : (j : ℕ) → count j (new_keys ++ (pending ++ row_keys)) ≡ count j (old_keys ++ pending) = λ j.
      let old_is : count j old_keys ≡ count j row_keys + count j (keys_in p.rows rest) = ap (λ (ns : List ℕ). count j (keys_in p.rows ns)) before ∙ count-append j row_keys (keys_in p.rows rest) in
      let new_is : count j new_keys ≡ count j (keys_in p.rows rest) = ap (λ (ns : List ℕ). count j (keys_in new ns)) after ∙ ap (count j) (keys-other (suc s) None p.rows rest others) in
      omega (arith, old_is, new_is, count-append j new_keys (pending ++ row_keys), count-append j pending row_keys, count-append j old_keys pending) in
      subst (λ (x : Part N). StoreInvariant (one_swept n) (pending ++ row_keys) held x) (sym (part_by q.spans p.spans q.texts p.texts q.rows new q.latest_rows (without_latest_row (suc s) (trace_in (p.rows (suc s))) p.latest_rows) spans texts' rows latest_rows)) (record {
        order = record { swept = omega (arith, lt); first = b; decided = d };
        named = λ j. same j ∙ sound.named j;
        bare = λ number above below. row_either (suc s) None p.rows (λ o. keys_of o ≡ []) number (λ e. refl) (λ ne. sound.bare number above below);
        used = λ t. omega (arith, names-by_count p.spans t (new_keys ++ (pending ++ row_keys)) (old_keys ++ pending) same, sound.used t);
        kept = sound.kept;
        latest_rows = λ t.
            let here : (u : List ℕ) → p.latest_rows u ≡ last_of (if_of u (p.rows (suc s)) (suc s)) (latest_row_in p.rows rest u) = λ u. sound.latest_rows u ∙ ap (λ (ns : List ℕ). latest_row_in p.rows ns u) before in
            let now : latest_row_in new (in_table (one_swept n)) t ≡ latest_row_in p.rows rest t = ap (λ (ns : List ℕ). latest_row_in new ns t) after ∙ seat-other (suc s) None p.rows t rest others in
            seat_swept (suc s) (p.rows (suc s)) p.latest_rows (latest_row_in p.rows rest) here (λ u j e. seat_above p.rows (n.opened - suc s) (suc s) u j e) t ∙ sym now;
        there = λ number above below. row_either (suc s) None p.rows (λ o. o ≢ None) number (λ e. absurd (omega (arith, e, above))) (λ ne. sound.there number (omega (arith, above)) below);
        vacant = λ number above. row_either (suc s) None p.rows (λ o. o ≡ None) number (λ e. refl) (λ ne. sound.vacant number above);
        left = λ number below. row_either (suc s) None p.rows (λ o. o ≡ None) number (λ e. refl) (λ ne. sound.left number (not_last number s ne below));
      })
    where
      not_last : (number s : ℕ) → number ≢ suc s → number ≤ s + 1 → number ≤ s
      not_last number s ne le = omega (arith, ne, le)

-- a tenant goes: all its rows may leave the table, and then nothing is left
module _ {N : Type 0} (p : Part N) (n : Counts) where
  pub all_may_leave : StoreInvariant n [] [] p → StoreInvariant (all_left n.swept n) [] [] p
  all_may_leave sound = record {
    order = record {
      swept = omega (arith, sound.order.swept, sound.order.first, sound.order.decided);
      first = omega arith;
      decided = omega arith;
    };
    named = sound.named;
    bare = λ number above below. absurd (omega (arith, above, below));
    used = sound.used;
    kept = sound.kept;
    latest_rows = sound.latest_rows;
    there = sound.there;
    vacant = sound.vacant;
    left = sound.left;
  }

  pub none_is_left : StoreInvariant (all_left n.opened n) [] [] p → StoreInvariant no_rows [] [] p
  none_is_left sound =
      let none : n.opened - n.opened ≡ 0 = omega arith in
      record {
        order = record { swept = omega arith; first = omega arith; decided = omega arith };
        named = λ key. subst (λ (k : ℕ). count key (keys_in p.rows (range n.opened k) ++ []) ≡ one (p.spans key)) none (sound.named key);
        bare = λ number above below. absurd (omega (arith, above, below));
        used = λ key. subst (λ (k : ℕ). count key (text_keys_at p.spans (keys_in p.rows (range n.opened k) ++ [])) + count key [] ≡ uses_of (p.texts key)) none (sound.used key);
        kept = sound.kept;
        latest_rows = λ trace. subst (λ (k : ℕ). p.latest_rows trace ≡ latest_row_in p.rows (range n.opened k) trace) none (sound.latest_rows trace);
        there = λ number above below. absurd (omega (arith, above, below));
        vacant = λ number above. elim (cases_lt n.opened number) [
          | inl lt ↦ sound.vacant number lt
          | inr le ↦ sound.left number le
        ];
        left = λ number below. sound.left number (omega (arith, below));
      }
