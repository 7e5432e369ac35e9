-- A caller's call at one shard of a hub.
use Rattle.std.proofs.Common.{◌≡◌, ℕ, ◌<◌, List, length, get_or, set, Bool, true, false, Option, Some, None, ap, ◌∙◌, subst, arith}
use Rattle.std.specs.Prelude.{Result, Ok, Err, OnErr, option_map, slice_get}
use Rattle.atomic_table.specs.Seated.{TableId}
use Rattle.machine_hub.specs.declared.entry.Entry.{Entry}
use Rattle.machine_hub.specs.Seats.{SeatState, seat_after, seat_refused, IsStepOf, IsRefusalOf, WasTold}
use Rattle.machine_hub.specs.declared.receipt.Receipt.{Receipt}
use Rattle.machine_hub.specs.declared.told.Told.{Told}
use Rattle.machine_hub.specs.Hub.{receipt_at, slots_of, IsRefusedOn, IsCallOn, IsRefusalOn, IsToldOn}
use Rattle.machine_hub.proofs.Lists.{get_is, map_long, map_set}

pub on_err : {A E : Type 0} (r : Result A E) (P : Type 0) → P → OnErr r P
on_err (Ok a) P p = tt
on_err (Err e) P p = p

-- the receipt by the entry and by what holds it
pub receipt_by : {S O P : Type 0} (value : P → Entry S O) (k : ℕ) (given : Option (ℕ × P)) (receipt : Option Receipt) → receipt ≡ option_map (λ g. receipt_at k g.0) given
    → receipt ≡ option_map (λ (g : ℕ × Entry S O). receipt_at k g.0) (option_map (λ g. (g.0, value g.1)) given)
receipt_by value k None receipt is = is
receipt_by value k (Some g) receipt is = is

module _ {M S O C : Type 0} where
  abbrev slot_in : SeatState M S O C → TableId
  slot_in s = s.slot

  -- the seat at a shard, and its slot
  pub seat_at : (ss me : List (SeatState M S O C)) (self : List TableId) (k : ℕ) (s : SeatState M S O C) → ss ≡ me → slots_of me ≡ self → k < length self → s ≡ get_or ss k s → slice_get ss k ≡ Some s
  seat_at ss me self k s is e lt got = get_is ss k s (omega (arith, lt, ap length is, map_long slot_in me self e)) got

  pub still_mine : (ss me : List (SeatState M S O C)) (self : List TableId) (k : ℕ) (s w : SeatState M S O C) → ss ≡ me → slots_of me ≡ self → k < length self → s ≡ get_or ss k s → w.slot ≡ s.slot → slots_of (set ss k w) ≡ self
  still_mine ss me self k s w is e lt got same = map_set slot_in ss k s w (seat_at ss me self k s is e lt got) same ∙ ap slots_of is ∙ e

  pub slot_after : (s w : SeatState M S O C) (late : Bool) (noted : ℕ × Entry S O) → w ≡ seat_after s late noted → w.slot ≡ s.slot
  slot_after s w true noted is = ap slot_in is
  slot_after s w false noted is = ap slot_in is

  pub slot_refused : (s w : SeatState M S O C) (noted : ℕ × C) → w ≡ seat_refused s noted → w.slot ≡ s.slot
  slot_refused s w noted is = ap slot_in is

  pub refused_on : (ss me : List (SeatState M S O C)) (self : List TableId) (k : ℕ) (s w : SeatState M S O C) (noted : ℕ × C) → ss ≡ me → slots_of me ≡ self → k < length self → s ≡ get_or ss k s → w ≡ seat_refused s noted → IsRefusedOn me (set ss k w) k
  refused_on ss me self k s w noted is e lt got w_is =
      (s, noted, subst (λ l. slice_get l k ≡ Some s) is (seat_at ss me self k s is e lt got), (λ i. set (is i) k (w_is i)))

module _ {M S O C : Type 0} (asks : C → S → Type 0) (steps : M → S → O → M → Type 0) (loses : C → M → M → Type 0) where
  pub call_on : (ss me : List (SeatState M S O C)) (self : List TableId) (k : ℕ) (s w : SeatState M S O C) (call : C) (outcome : O) (given : Option (ℕ × Entry S O)) (receipt : Option Receipt)
      → ss ≡ me → slots_of me ≡ self → k < length self → s ≡ get_or ss k s → IsStepOf asks steps loses s w call outcome given → receipt ≡ option_map (λ g. receipt_at k g.0) given
      → IsCallOn asks steps loses me (set ss k w) k call outcome receipt
  call_on ss me self k s w call outcome given receipt is e lt got did receipt_is = record {
    seat = s;
    late = did.late;
    noted = did.noted;
    at = subst (λ l. slice_get l k ≡ Some s) is (seat_at ss me self k s is e lt got);
    made = did.made;
    above = did.above;
    after = (λ i. set (is i) k (did.after i));
    receipt_is = receipt_is ∙ ap (option_map (λ (g : ℕ × Entry S O). receipt_at k g.0)) did.given_is;
  }

  pub refusal_on : (ss me : List (SeatState M S O C)) (self : List TableId) (k : ℕ) (s w : SeatState M S O C) (call : C)
      → ss ≡ me → slots_of me ≡ self → k < length self → s ≡ get_or ss k s → IsRefusalOf asks steps loses s w call
      → IsRefusalOn asks steps loses me (set ss k w) k call
  refusal_on ss me self k s w call is e lt got was = record {
    seat = s;
    noted = was.noted;
    at = subst (λ l. slice_get l k ≡ Some s) is (seat_at ss me self k s is e lt got);
    lost = was.lost;
    above = was.above;
    after = (λ i. set (is i) k (was.after i));
  }

  pub told_on : {Q A : Type 0} (reads : M → Q → A → Type 0) (ss me : List (SeatState M S O C)) (self : List TableId) (k : ℕ) (s : SeatState M S O C) (question : Q) (told : Told A)
      → ss ≡ me → slots_of me ≡ self → k < length self → s ≡ get_or ss k s → WasTold asks steps loses reads s question told → IsToldOn asks steps loses reads me k question told
  told_on reads ss me self k s question told is e lt got was = (s, subst (λ l. slice_get l k ≡ Some s) is (seat_at ss me self k s is e lt got), was)
