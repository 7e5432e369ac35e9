-- The callers of a hub are taken in, and its shards end.
use Rattle.std.proofs.Common.{◌≡◌, ℕ, zero, suc, ◌+◌, ◌<◌, List, [], ◌∷◌, ◌++◌, length, get_or, map, Option, Some, None, sum_by, flat_map, refl, sym, ap, ◌∙◌, subst, arith, length-append, append_assoc}
use Rattle.std.specs.Prelude.{slice_get, reverse}
use Rattle.std.specs.List.{cons_option}
use Rattle.std.proofs.lemmas.List.{append-nil, length-map, reverse-append}
use Rattle.std.proofs.lemmas.List.Sums.{sum_by-cons}
use Rattle.atomic_table.specs.Seated.{TableId}
use Rattle.log_positions.specs.Numbered.{AreRising, AreAllOf}
use Rattle.machine_hub.specs.declared.view.Home.{Home}
use Rattle.machine_hub.specs.declared.view.Standing.{Standing}
use Rattle.machine_hub.specs.Runs.{entries_in, lost_in, IsHistory}
use Rattle.machine_hub.specs.Slot.{stored}
use Rattle.machine_hub.specs.Seats.{SeatState, KeeperState, new_keeper, keeper_with, IsWholeRun}
use Rattle.machine_hub.specs.Hub.{HubKeeping, keeping, slots_of, seats_at, AreCallersOf, EachRises, IsShardRun, AreShardRuns, IsShardHistory, AreShardHistories}
use Rattle.machine_hub.specs.Keepers.{AreFresh, keeper_slots, AreRoomy, AreFull, taken_in, gathered, AreWholeRuns}
use Rattle.machine_hub.proofs.Lists.{some_one, empty, EachOf, each_from_all, IsZipping, zipping_first, zipping_old, zipping_all, zipped_long, map_at, map_long, map_some}

module _ {M S O C : Type 0} where
  abbrev seat_slot : SeatState M S O C → TableId
  seat_slot s = s.slot

  abbrev keeper_slot : KeeperState M S O C → TableId
  keeper_slot k = k.slot

  -- a caller's seats are taken in, the last first
  abbrev pub IsTaking : List (SeatState M S O C) → List (SeatState M S O C) → List (KeeperState M S O C) → List (KeeperState M S O C) → Type 0
  IsTaking all rest old now = IsZipping keeper_with all rest old now

  pub taking_from : (all seats : List (SeatState M S O C)) (old : List (KeeperState M S O C)) (ts : List TableId) → seats ≡ all → keeper_slots old ≡ ts → slots_of all ≡ ts → IsTaking all seats old old
  taking_from all seats old ts is e f =
      subst (λ l. IsTaking all l old old) (sym is) (zipping_first keeper_with all old (omega (arith, map_long keeper_slot old ts e, map_long seat_slot all ts f)))

  pub next_seat : (all was rest : List (SeatState M S O C)) (s : SeatState M S O C) (old now : List (KeeperState M S O C)) (ts : List TableId) (n : ℕ) (t : TableId)
      → IsTaking all was old now → was ≡ rest ++ s ∷ [] → n ≡ length rest → slots_of all ≡ ts → t ≡ get_or ts n t → s.slot ≡ t
  next_seat all was rest s old now ts n t h is e eq at' = map_at seat_slot all ts n s t eq (zipping_all keeper_with all was rest s old now n h is e) at'

  roomy_at : (ks : List (KeeperState M S O C)) (i : ℕ) (k : KeeperState M S O C) → AreRoomy ks → slice_get ks i ≡ Some k → k.taken < k.seats
  roomy_at [] i k are at = absurd (cc)
  roomy_at (x ∷ ks) zero k are at = subst (λ (y : KeeperState M S O C). y.taken < y.seats) (some_one x k at) are.0
  roomy_at (x ∷ ks) (suc i) k are at = roomy_at ks i k are.1 at

  pub next_room : (all was rest : List (SeatState M S O C)) (s : SeatState M S O C) (old now : List (KeeperState M S O C)) (n : ℕ) (k : KeeperState M S O C)
      → IsTaking all was old now → was ≡ rest ++ s ∷ [] → n ≡ length rest → AreRoomy old → k ≡ get_or now n k → k.taken < k.seats
  next_room all was rest s old now n k h is e are at = roomy_at old n k are (zipping_old keeper_with all was rest s old now n k h is e at)

  pub each_rises : (all : List (SeatState M S O C)) → EachOf (λ s. AreRising s.calls) all → EachRises all
  each_rises [] each = tt
  each_rises (s ∷ ss) each = (each.0, each_rises ss each.1)

  -- each has taken in so many seats of so many
  abbrev AreTaken : ℕ → ℕ → List (KeeperState M S O C) → Type 0
  AreTaken taken seats [] = Unit {0}
  AreTaken taken seats (k ∷ ks) = (k.taken ≡ taken) × (k.seats ≡ seats) × AreTaken taken seats ks

  fresh_taken : (n : ℕ) (ks : List (KeeperState M S O C)) → AreFresh n ks → AreTaken 0 n ks
  fresh_taken n [] are = tt
  fresh_taken n (k ∷ ks) are = (ap (λ (y : KeeperState M S O C). y.taken) are.0, ap (λ (y : KeeperState M S O C). y.seats) are.0, fresh_taken n ks are.1)

  taken_slots : (ks : List (KeeperState M S O C)) (ss : List (SeatState M S O C)) → keeper_slots (taken_in ks ss) ≡ keeper_slots ks
  taken_slots [] ss = refl
  taken_slots (k ∷ ks) [] = refl
  taken_slots (k ∷ ks) (s ∷ ss) = ap (λ l. k.slot ∷ l) (taken_slots ks ss)

  taken_more : (n m : ℕ) (ks : List (KeeperState M S O C)) (ss : List (SeatState M S O C)) → length ks ≡ length ss → AreTaken n m ks → AreTaken (n + 1) m (taken_in ks ss)
  taken_more n m [] ss long are = tt
  taken_more n m (k ∷ ks) [] long are = absurd (omega arith)
  taken_more n m (k ∷ ks) (s ∷ ss) long are = (ap (λ x. x + 1) are.0, are.1, taken_more n m ks ss (omega arith) are.2)

  roomy : (n m : ℕ) (ks : List (KeeperState M S O C)) → n < m → AreTaken n m ks → AreRoomy ks
  roomy n m [] lt are = tt
  roomy n m (k ∷ ks) lt are = (omega (arith, are.0, are.1), roomy n m ks lt are.2)

  full : (n : ℕ) (ks : List (KeeperState M S O C)) → AreTaken n n ks → AreFull ks
  full n [] are = tt
  full n (k ∷ ks) are = (are.0 ∙ sym are.1, full n ks are.2)

  -- some of the last callers are taken in
  pub record IsGathering (slots : List TableId) (n : ℕ) (all rest : List (List (SeatState M S O C))) (old now : List (KeeperState M S O C)) : Type 0 where
    pub done : List (List (SeatState M S O C))
    pub all_is : all ≡ rest ++ done
    pub now_is : now ≡ gathered old done
    pub taken : AreTaken (length done) n now
    pub slots_are : keeper_slots now ≡ slots
    pub ours : EachOf (λ c. slots_of c ≡ slots) rest
    pub count : length rest + length done ≡ n
    pub rising : EachOf EachRises done

  pub gathering_from : (slots self : List TableId) (k : HubKeeping M) (items : List (KeeperState M S O C)) (n : ℕ) (all : List (List (SeatState M S O C)))
      → keeping (keeper_slots items) (map (λ x. x.home) items) n ≡ k → slots ≡ self → AreFresh n items → k.slots ≡ self → AreCallersOf self all → length all ≡ n
      → IsGathering slots k.callers all all items items
  gathering_from slots self k items n all is same fresh e ours count =
      let count_is : n ≡ k.callers = ap (λ (x : HubKeeping M). x.callers) is in
      record {
        done = [];
        all_is = sym (append-nil all);
        now_is = refl;
        taken = subst (λ m. AreTaken 0 m items) count_is (fresh_taken n items fresh);
        slots_are = ap (λ (x : HubKeeping M). x.slots) is ∙ e ∙ sym same;
        ours = each_from_all (λ c. slots_of c ≡ slots) all (subst (λ l. AreCallersOf l all) (sym same) ours);
        count = omega (arith, count, count_is);
        rising = tt;
      }

  callers_front : (slots : List TableId) (cs : List (List (SeatState M S O C))) (c : List (SeatState M S O C)) → EachOf (λ c. slots_of c ≡ slots) (cs ++ c ∷ []) → EachOf (λ c. slots_of c ≡ slots) cs × (slots_of c ≡ slots)
  callers_front slots [] c are = (tt, are.0)
  callers_front slots (x ∷ cs) c are = let r = callers_front slots cs c are.1 in ((are.0, r.0), r.1)

  pub gathering_ours : (slots : List TableId) (n : ℕ) (all was rest : List (List (SeatState M S O C))) (c : List (SeatState M S O C)) (old now : List (KeeperState M S O C)) → IsGathering slots n all was old now → was ≡ rest ++ c ∷ [] → slots_of c ≡ slots
  gathering_ours slots n all was rest c old now h is = (callers_front slots rest c (subst (EachOf (λ c. slots_of c ≡ slots)) is h.ours)).1

  pub gathering_room : (slots : List TableId) (n : ℕ) (all was rest : List (List (SeatState M S O C))) (c : List (SeatState M S O C)) (old now : List (KeeperState M S O C)) → IsGathering slots n all was old now → was ≡ rest ++ c ∷ [] → AreRoomy now
  gathering_room slots n all was rest c old now h is = roomy (length h.done) n now (omega (arith, h.count, ap length is, length-append rest (c ∷ []))) h.taken

  pub gathering_next : (slots : List TableId) (n : ℕ) (all was rest : List (List (SeatState M S O C))) (c : List (SeatState M S O C)) (old now new : List (KeeperState M S O C)) → IsGathering slots n all was old now → was ≡ rest ++ c ∷ [] → new ≡ taken_in now c → EachRises c → IsGathering slots n all rest old new
  gathering_next slots n all was rest c old now new h is new_is rises =
      let mine = callers_front slots rest c (subst (EachOf (λ c. slots_of c ≡ slots)) is h.ours) in
      let long : length now ≡ length c = omega (arith, map_long keeper_slot now slots h.slots_are, map_long seat_slot c slots mine.1) in
      let more : AreTaken (length (c ∷ h.done)) n (taken_in now c) = subst (λ m. AreTaken m n (taken_in now c)) (omega arith) (taken_more (length h.done) n now c long h.taken) in
      record {
        done = c ∷ h.done;
        all_is = h.all_is ∙ ap (λ l. l ++ h.done) is ∙ append_assoc rest (c ∷ []) h.done;
        now_is = new_is ∙ ap (λ l. taken_in l c) h.now_is;
        taken = subst (AreTaken (length (c ∷ h.done)) n) (sym new_is) more;
        slots_are = ap keeper_slots new_is ∙ taken_slots now c ∙ h.slots_are;
        ours = mine.0;
        count = omega (arith, h.count, ap length is, length-append rest (c ∷ []));
        rising = (rises, h.rising);
      }

  pub gathered_full : (slots : List TableId) (n : ℕ) (all rest : List (List (SeatState M S O C))) (old now : List (KeeperState M S O C)) → IsGathering slots n all rest old now → rest ≡ [] → AreFull now
  gathered_full slots n all rest old now h none = full n now (subst (λ m. AreTaken m n now) (omega (arith, h.count, ap length none)) h.taken)

  pub still_long : (n m : ℕ) (old new : List (KeeperState M S O C)) (ss : List (SeatState M S O C)) → n ≡ length old → m ≡ length new → new ≡ taken_in old ss → m ≡ n
  still_long n m old new ss a b is = omega (arith, a, b, ap length is, zipped_long keeper_with old ss)

  -- the last of both
  pub last_slots : (was rest : List (KeeperState M S O C)) (k : KeeperState M S O C) (ts left : List TableId) (t : TableId) → keeper_slots was ≡ ts → was ≡ rest ++ k ∷ [] → ts ≡ left ++ t ∷ [] → (keeper_slots rest ≡ left) × (k.slot ≡ t)
  last_slots was rest k ts left t e is at = snoc_slots rest left (ap keeper_slots (sym is) ∙ e ∙ at)
    where
      snoc_slots : (ks : List (KeeperState M S O C)) (ls : List TableId) → keeper_slots (ks ++ k ∷ []) ≡ ls ++ t ∷ [] → (keeper_slots ks ≡ ls) × (k.slot ≡ t)
      snoc_slots [] [] e = (refl, cc)
      snoc_slots [] (y ∷ ls) e = absurd (omega (arith, ap length e, length-append ls (t ∷ [])))
      snoc_slots (x ∷ ks) [] e = absurd (omega (arith, ap length e, length-append ks (k ∷ []), length-map (ks ++ k ∷ []) keeper_slot))
      snoc_slots (x ∷ ks) (y ∷ ls) e =
          let h : x.slot ≡ y = cc in
          let r : keeper_slots (ks ++ k ∷ []) ≡ ls ++ t ∷ [] = cc in
          let s = snoc_slots ks ls r in
          ((λ i. h i ∷ s.0 i), s.1)

  full_front : (ks : List (KeeperState M S O C)) (k : KeeperState M S O C) → AreFull (ks ++ k ∷ []) → AreFull ks × (k.taken ≡ k.seats)
  full_front [] k are = (tt, are.0)
  full_front (x ∷ ks) k are = let r = full_front ks k are.1 in ((are.0, r.0), r.1)

  -- a keeper that has taken in seats, the last first
  abbrev over : KeeperState M S O C → List (SeatState M S O C) → KeeperState M S O C
  over k [] = k
  over k (s ∷ ss) = keeper_with (over k ss) s

  abbrev over_one : Option (SeatState M S O C) → KeeperState M S O C → KeeperState M S O C
  over_one None k = k
  over_one (Some s) k = keeper_with k s

  taken_at : (ks : List (KeeperState M S O C)) (c : List (SeatState M S O C)) (i : ℕ) (k : KeeperState M S O C) → slice_get ks i ≡ Some k → slice_get (taken_in ks c) i ≡ Some (over_one (slice_get c i) k)
  taken_at [] c i k at = absurd (cc)
  taken_at (x ∷ ks) [] i k at = at
  taken_at (x ∷ ks) (s ∷ c) zero k at = ap (λ y. Some (keeper_with y s)) (some_one x k at)
  taken_at (x ∷ ks) (s ∷ c) (suc i) k at = taken_at ks c i k at

  over_cons : (o : Option (SeatState M S O C)) (k : KeeperState M S O C) (ss : List (SeatState M S O C)) → over_one o (over k ss) ≡ over k (cons_option o ss)
  over_cons None k ss = refl
  over_cons (Some s) k ss = refl

  gathered_at : (ks : List (KeeperState M S O C)) (cs : List (List (SeatState M S O C))) (i : ℕ) (k : KeeperState M S O C) → slice_get ks i ≡ Some k → slice_get (gathered ks cs) i ≡ Some (over k (seats_at i cs))
  gathered_at ks [] i k at = at
  gathered_at ks (c ∷ cs) i k at =
      taken_at (gathered ks cs) c i (over k (seats_at i cs)) (gathered_at ks cs i k at) ∙ ap Some (over_cons (slice_get c i) k (seats_at i cs))

  gathered_long : (ks : List (KeeperState M S O C)) (cs : List (List (SeatState M S O C))) → length (gathered ks cs) ≡ length ks
  gathered_long ks [] = refl
  gathered_long ks (c ∷ cs) = zipped_long keeper_with (gathered ks cs) c ∙ gathered_long ks cs

  over_home : (k : KeeperState M S O C) (ss : List (SeatState M S O C)) → (over k ss).home ≡ k.home
  over_home k [] = refl
  over_home k (s ∷ ss) = over_home k ss

  over_calls : (k : KeeperState M S O C) (ss : List (SeatState M S O C)) → k.calls ≡ [] → (over k ss).calls ≡ flat_map (λ (x : SeatState M S O C). x.calls) ss
  over_calls k [] none = none
  over_calls k (s ∷ ss) none = ap (λ l. s.calls ++ l) (over_calls k ss none)

  over_late : (k : KeeperState M S O C) (ss : List (SeatState M S O C)) → k.late ≡ [] → (over k ss).late ≡ flat_map (λ (x : SeatState M S O C). x.late) ss
  over_late k [] none = none
  over_late k (s ∷ ss) none = ap (λ l. s.late ++ l) (over_late k ss none)

  over_lost : (k : KeeperState M S O C) (ss : List (SeatState M S O C)) → k.lost ≡ [] → (over k ss).lost ≡ flat_map (λ (x : SeatState M S O C). x.lost) ss
  over_lost k [] none = none
  over_lost k (s ∷ ss) none = ap (λ l. s.lost ++ l) (over_lost k ss none)

  over_bare : (k : KeeperState M S O C) (ss : List (SeatState M S O C)) → k.bare ≡ 0 → (over k ss).bare ≡ sum_by (λ (x : SeatState M S O C). x.bare) ss
  over_bare k [] none = none
  over_bare k (s ∷ ss) none = ap (λ n. s.bare + n) (over_bare k ss none) ∙ sym (sum_by-cons (λ (x : SeatState M S O C). x.bare) s ss)

  over_refused : (k : KeeperState M S O C) (ss : List (SeatState M S O C)) → k.refused ≡ 0 → (over k ss).refused ≡ sum_by (λ (x : SeatState M S O C). x.refused) ss
  over_refused k [] none = none
  over_refused k (s ∷ ss) none = ap (λ n. s.refused + n) (over_refused k ss none) ∙ sym (sum_by-cons (λ (x : SeatState M S O C). x.refused) s ss)

  fresh_at : (n : ℕ) (ks : List (KeeperState M S O C)) (i : ℕ) (k : KeeperState M S O C) → AreFresh n ks → slice_get ks i ≡ Some k → k ≡ new_keeper k.slot k.home n
  fresh_at n [] i k are at = absurd (cc)
  fresh_at n (x ∷ ks) zero k are at = subst (λ (y : KeeperState M S O C). y ≡ new_keeper y.slot y.home n) (some_one x k at) are.0
  fresh_at n (x ∷ ks) (suc i) k are at = fresh_at n ks i k are.1 at

  rises_in : (c : List (SeatState M S O C)) (i : ℕ) (ss : List (SeatState M S O C)) → EachRises c → EachRises ss → EachRises (cons_option (slice_get c i) ss)
  rises_in [] i ss each rest = rest
  rises_in (s ∷ c) zero ss each rest = (each.0, rest)
  rises_in (s ∷ c) (suc i) ss each rest = rises_in c i ss each.1 rest

  rises_at : (i : ℕ) (cs : List (List (SeatState M S O C))) → EachOf EachRises cs → EachRises (seats_at i cs)
  rises_at i [] each = tt
  rises_at i (c ∷ cs) each = rises_in c i (seats_at i cs) each.0 (rises_at i cs each.1)

module _ {M S O C : Type 0} (asks : C → S → Type 0) (steps : M → S → O → M → Type 0) (loses : C → M → M → Type 0) where
  -- some of the last slots have ended
  pub record IsEnding (all rest : List (KeeperState M S O C)) (made : List (Standing M S O C)) : Type 0 where
    pub done : List (KeeperState M S O C)
    pub ended : List (Standing M S O C)
    pub all_is : all ≡ rest ++ done
    pub made_is : made ≡ reverse ended
    pub runs : AreWholeRuns asks steps loses done ended
    pub full : AreFull rest

  pub ending_first : (all : List (KeeperState M S O C)) (made : List (Standing M S O C)) → made ≡ [] → AreFull all → IsEnding all all made
  ending_first all made none full = record { done = []; ended = []; all_is = sym (append-nil all); made_is = none; runs = tt; full = full }

  pub ending_full : (all was rest : List (KeeperState M S O C)) (k : KeeperState M S O C) (made : List (Standing M S O C)) → IsEnding all was made → was ≡ rest ++ k ∷ [] → k.taken ≡ k.seats
  ending_full all was rest k made h is = (full_front rest k (subst AreFull is h.full)).1

  pub ending_next : (all was rest : List (KeeperState M S O C)) (k : KeeperState M S O C) (made made' : List (Standing M S O C)) (s : Standing M S O C) → IsEnding all was made → was ≡ rest ++ k ∷ [] → IsWholeRun asks steps loses k s → made' ≡ made ++ s ∷ [] → IsEnding all rest made'
  ending_next all was rest k made made' s h is run now = record {
    done = k ∷ h.done;
    ended = s ∷ h.ended;
    all_is = h.all_is ∙ ap (λ l. l ++ h.done) is ∙ append_assoc rest (k ∷ []) h.done;
    made_is = now ∙ ap (λ l. l ++ s ∷ []) h.made_is ∙ sym (reverse-append (s ∷ []) h.ended);
    runs = (run, h.runs);
    full = (full_front rest k (subst AreFull is h.full)).0;
  }

  none_left : (ks : List (KeeperState M S O C)) (ts : List TableId) → keeper_slots ks ≡ ts → ts ≡ [] → ks ≡ []
  none_left ks ts e none = empty ks (omega (arith, map_long keeper_slot ks ts e, ap length none))

  whole_long : (ks : List (KeeperState M S O C)) (ss : List (Standing M S O C)) → AreWholeRuns asks steps loses ks ss → length ss ≡ length ks
  whole_long [] [] runs = refl
  whole_long [] (s ∷ ss) runs = absurd runs
  whole_long (k ∷ ks) [] runs = absurd runs
  whole_long (k ∷ ks) (s ∷ ss) runs = ap suc (whole_long ks ss runs.1)

  whole_at : (ks : List (KeeperState M S O C)) (ss : List (Standing M S O C)) (i : ℕ) (k : KeeperState M S O C) (s : Standing M S O C) → AreWholeRuns asks steps loses ks ss → slice_get ks i ≡ Some k → slice_get ss i ≡ Some s → IsWholeRun asks steps loses k s
  whole_at [] ss i k s runs at here = absurd (cc)
  whole_at (x ∷ ks) [] i k s runs at here = absurd runs
  whole_at (x ∷ ks) (y ∷ ss) zero k s runs at here =
      subst (λ (z : KeeperState M S O C). IsWholeRun asks steps loses z s) (some_one x k at) (subst (λ (z : Standing M S O C). IsWholeRun asks steps loses x z) (some_one y s here) runs.0)
  whole_at (x ∷ ks) (y ∷ ss) (suc i) k s runs at here = whole_at ks ss i k s runs.1 at here

  -- a keeper that has taken in all the seats of its slot
  shard_run : (n : ℕ) (k : KeeperState M S O C) (ss : List (SeatState M S O C)) (s : Standing M S O C) → k ≡ new_keeper k.slot k.home n → EachRises ss → IsWholeRun asks steps loses (over k ss) s → IsShardRun steps k.home ss s
  shard_run n k ss s fresh rises w =
      let home = over_home k ss in
      let calls = over_calls k ss (ap (λ (y : KeeperState M S O C). y.calls) fresh) in
      let bare = over_bare k ss (ap (λ (y : KeeperState M S O C). y.bare) fresh) in
      let refused = over_refused k ss (ap (λ (y : KeeperState M S O C). y.refused) fresh) in
      record {
        entries = w.entries;
        run = rw (← home) w.run;
        kept = w.kept ∙ ap (λ (y : Home M). stored y.keeps w.entries) home;
        each = subst (AreAllOf w.entries) calls w.each;
        rising = rises;
        blank = λ some. w.blank (omega (arith, bare, some));
        blame = λ on. omega (arith, refused, w.blame on);
        stops = λ some. w.stops (omega (arith, refused, some));
      }

  shard_history : (n : ℕ) (k : KeeperState M S O C) (ss : List (SeatState M S O C)) (s : Standing M S O C) → k ≡ new_keeper k.slot k.home n → IsWholeRun asks steps loses (over k ss) s → IsShardHistory asks steps loses k.home ss s
  shard_history n k ss s fresh w =
      let home = over_home k ss in
      let calls = over_calls k ss (ap (λ (y : KeeperState M S O C). y.calls) fresh) in
      let late = over_late k ss (ap (λ (y : KeeperState M S O C). y.late) fresh) in
      let lost = over_lost k ss (ap (λ (y : KeeperState M S O C). y.lost) fresh) in
      let refused = over_refused k ss (ap (λ (y : KeeperState M S O C). y.refused) fresh) in
      record {
        entries = w.entries;
        later = w.later;
        history = subst (λ (y : Home M). IsHistory asks steps loses y.start w.entries w.later s.stopped s.machine) home w.history;
        each = subst (AreAllOf w.entries) calls w.each;
        late = subst (AreAllOf (entries_in w.later)) late w.late;
        lost = subst (AreAllOf (lost_in w.later)) lost w.lost;
        count = w.count ∙ refused;
      }

  pub shard_histories : (slots : List TableId) (n m : ℕ) (all rest : List (List (SeatState M S O C))) (old now : List (KeeperState M S O C)) (homes : List (Home M)) (ss : List (Standing M S O C))
      → AreFresh m old → map (λ k. k.home) old ≡ homes → IsGathering slots n all rest old now → rest ≡ [] → AreWholeRuns asks steps loses now ss → AreShardHistories asks steps loses homes all ss
  shard_histories slots n m all rest old now homes ss fresh homes_are h none runs i home s at here =
      let done_is : h.done ≡ all = sym (h.all_is ∙ ap (λ l. l ++ h.done) none) in
      let whole : AreWholeRuns asks steps loses (gathered old all) ss = subst (λ l. AreWholeRuns asks steps loses l ss) (h.now_is ∙ ap (gathered old) done_is) runs in
      let k = map_some (λ (k : KeeperState M S O C). k.home) old i home (subst (λ l. slice_get l i ≡ Some home) (sym homes_are) at) in
      subst (λ (y : Home M). IsShardHistory asks steps loses y (seats_at i all) s) k.2
      (shard_history m k.0 (seats_at i all) s (fresh_at m old i k.0 fresh k.1)
      (whole_at (gathered old all) ss i (over k.0 (seats_at i all)) s whole (gathered_at old all i k.0 k.1) here))

  pub shard_runs : (slots : List TableId) (n m : ℕ) (all rest : List (List (SeatState M S O C))) (old now : List (KeeperState M S O C)) (homes : List (Home M)) (ss : List (Standing M S O C))
      → AreFresh m old → map (λ k. k.home) old ≡ homes → IsGathering slots n all rest old now → rest ≡ [] → AreWholeRuns asks steps loses now ss → AreShardRuns steps homes all ss
  shard_runs slots n m all rest old now homes ss fresh homes_are h none runs =
      let done_is : h.done ≡ all = sym (h.all_is ∙ ap (λ l. l ++ h.done) none) in
      let rises : EachOf EachRises all = subst (EachOf EachRises) done_is h.rising in
      let whole : AreWholeRuns asks steps loses (gathered old all) ss = subst (λ l. AreWholeRuns asks steps loses l ss) (h.now_is ∙ ap (gathered old) done_is) runs in
      record {
        count = omega (arith, whole_long (gathered old all) ss whole, gathered_long old all, ap length homes_are, length-map old (λ (k : KeeperState M S O C). k.home));
        each = λ i home s at here.
            let k = map_some (λ (k : KeeperState M S O C). k.home) old i home (subst (λ l. slice_get l i ≡ Some home) (sym homes_are) at) in
            subst (λ (y : Home M). IsShardRun steps y (seats_at i all) s) k.2
            (shard_run m k.0 (seats_at i all) s (fresh_at m old i k.0 fresh k.1) (rises_at i all rises)
            (whole_at (gathered old all) ss i (over k.0 (seats_at i all)) s whole (gathered_at old all i k.0 k.1) here));
      }
