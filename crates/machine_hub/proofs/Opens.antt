-- A hub as it is opened, shard by shard.
use Rattle.std.proofs.Common.{◌≡◌, ℕ, List, [], ◌∷◌, ◌++◌, length, map, replicate, false, refl, sym, ap, ◌∙◌, subst, arith, length-append, append_assoc, All}
use Rattle.std.specs.Prelude.{reverse}
use Rattle.std.proofs.lemmas.List.{append-nil, length-map, length-replicate, reverse-reverse, reverse-append}
use Rattle.std.proofs.lemmas.List.Elements.{All-replicate}
use Rattle.atomic_table.specs.Seated.{TableId}
use Rattle.machine_hub.specs.declared.view.Home.{Home}
use Rattle.machine_hub.specs.declared.view.Standing.{Standing}
use Rattle.machine_hub.specs.Slot.{home_of}
use Rattle.machine_hub.specs.Seats.{SeatState, KeeperState, new_seat, new_keeper}
use Rattle.machine_hub.specs.Hub.{HubKeeping, keeping, paired, AreNew, homes_of, new_caller, slots_of, AreCallersOf}
use Rattle.machine_hub.specs.Keepers.{zipped, snoc, AreFresh, IsOpen, IsAdded}
use Rattle.machine_hub.proofs.Lists.{zipped_same, paired_push, paired_left, paired_right, map_push}

fresh_pairs : {M : Type 0} (S O C : Type 0) (n : ℕ) (ts : List TableId) (hs : List (Home M)) → AreFresh n (paired (λ t h. new_keeper {M = M} {S = S} {O = O} {C = C} t h n) ts hs)
fresh_pairs S O C n [] hs = tt
fresh_pairs S O C n (t ∷ ts) [] = tt
fresh_pairs S O C n (t ∷ ts) (h ∷ hs) = (refl, fresh_pairs S O C n ts hs)

module _ {M S O C : Type 0} where
  open_more : (n : ℕ) (ms : List (Standing M S O C)) (m : Standing M S O C) (ts ts' : List TableId) (ks ks' : List (KeeperState M S O C)) (cs cs' : List (List (SeatState M S O C)))
      → IsOpen n ms ts ks cs → IsAdded n m ts ts' ks ks' cs cs' → IsOpen n (ms ++ m ∷ []) ts' ks' cs'
  open_more n ms m ts ts' ks ks' cs cs' o a =
      let h = home_of m in
      let mine : TableId → Home M → KeeperState M S O C = λ t h. new_keeper t h n in
      let make : TableId → Home M → SeatState M S O C = new_seat in
      let old : List (SeatState M S O C) = new_caller ts o.homes in
      record {
        homes = o.homes ++ h ∷ [];
        homes_are = ap (λ l. l ++ h ∷ []) o.homes_are ∙ sym (map_push home_of ms m);
        keepers_are = a.keepers_are ∙ ap (λ l. snoc l (mine a.slot h)) o.keepers_are ∙ sym (paired_push mine ts o.homes a.slot h o.long)
            ∙ ap (λ l. paired mine l (o.homes ++ h ∷ [])) (sym a.slots_are);
        callers_are = a.callers_are ∙ ap (λ l. zipped snoc l (replicate n (make a.slot h))) o.callers_are ∙ zipped_same snoc n old (make a.slot h)
            ∙ ap (replicate n) (sym (paired_push make ts o.homes a.slot h o.long) ∙ ap (λ l. paired make l (o.homes ++ h ∷ [])) (sym a.slots_are));
        long = omega (arith, o.long, ap length a.slots_are, length-append ts (a.slot ∷ []), length-append o.homes (h ∷ []));
      }

  -- some machines are to come, the next one last
  pub record IsOpening (n : ℕ) (all rest : List (Standing M S O C)) (slots : List TableId) (keepers : List (KeeperState M S O C)) (callers : List (List (SeatState M S O C))) : Type 0 where
    pub done : List (Standing M S O C)
    pub all_is : all ≡ done ++ reverse rest
    pub stands : IsOpen n done slots keepers callers
    pub fresh : AreNew (reverse rest)

  pub opening_first : (n : ℕ) (all rest : List (Standing M S O C)) (slots : List TableId) (keepers : List (KeeperState M S O C)) (callers : List (List (SeatState M S O C)))
      → rest ≡ reverse all → AreNew all → slots ≡ [] → keepers ≡ [] → callers ≡ replicate n [] → IsOpening n all rest slots keepers callers
  opening_first n all rest slots keepers callers is fresh no_slots no_keepers no_seats =
      let back : all ≡ reverse rest = sym (ap reverse is ∙ reverse-reverse all) in
      record {
        done = [];
        all_is = back;
        stands = record {
          homes = [];
          homes_are = refl;
          keepers_are = no_keepers ∙ ap (λ l. paired (λ t h. new_keeper t h n) l []) (sym no_slots);
          callers_are = no_seats ∙ ap (λ l. replicate n (new_caller l [])) (sym no_slots);
          long = ap length no_slots;
        };
        fresh = subst AreNew back fresh;
      }

  next_is : (was rest : List (Standing M S O C)) (m : Standing M S O C) → was ≡ rest ++ m ∷ [] → reverse was ≡ m ∷ reverse rest
  next_is was rest m is = ap reverse is ∙ reverse-append rest (m ∷ [])

  pub opening_fresh : (n : ℕ) (all was rest : List (Standing M S O C)) (m : Standing M S O C) (slots : List TableId) (keepers : List (KeeperState M S O C)) (callers : List (List (SeatState M S O C)))
      → IsOpening n all was slots keepers callers → was ≡ rest ++ m ∷ [] → (m.entries ≡ []) × (m.stopped ≡ false)
  opening_fresh n all was rest m slots keepers callers h is = (subst AreNew (next_is was rest m is) h.fresh).0

  pub opening_next : (n count : ℕ) (all was rest : List (Standing M S O C)) (m : Standing M S O C) (ts ts' : List TableId) (ks ks' : List (KeeperState M S O C)) (cs cs' : List (List (SeatState M S O C)))
      → IsOpening n all was ts ks cs → was ≡ rest ++ m ∷ [] → count ≡ n → IsAdded count m ts ts' ks ks' cs cs' → IsOpening n all rest ts' ks' cs'
  opening_next n count all was rest m ts ts' ks ks' cs cs' h is same added =
      let a : IsAdded n m ts ts' ks ks' cs cs' = subst (λ k. IsAdded k m ts ts' ks ks' cs cs') same added in
      let next = next_is was rest m is in
      record {
        done = h.done ++ m ∷ [];
        all_is = h.all_is ∙ ap (λ l. h.done ++ l) next ∙ sym (append_assoc h.done (m ∷ []) (reverse rest));
        stands = open_more n h.done m ts ts' ks ks' cs cs' h.stands a;
        fresh = (subst AreNew next h.fresh).1;
      }

  pub opening_end : (n : ℕ) (all rest : List (Standing M S O C)) (ts : List TableId) (ks : List (KeeperState M S O C)) (cs : List (List (SeatState M S O C)))
      → IsOpening n all rest ts ks cs → rest ≡ [] → IsOpen n all ts ks cs
  opening_end n all rest ts ks cs h none =
      subst (λ l. IsOpen n l ts ks cs) (sym (h.all_is ∙ ap (λ l. h.done ++ reverse l) none ∙ append-nil h.done)) h.stands

  pub opening_long : (n m : ℕ) (all rest : List (Standing M S O C)) (ts : List TableId) (ks : List (KeeperState M S O C)) (cs : List (List (SeatState M S O C))) → IsOpening n all rest ts ks cs → m ≡ length cs → m ≡ n
  opening_long n m all rest ts ks cs h e = e ∙ ap length h.stands.callers_are ∙ length-replicate n (new_caller ts h.stands.homes)

  pub opened_fresh : (n : ℕ) (ms : List (Standing M S O C)) (ts : List TableId) (ks : List (KeeperState M S O C)) (cs : List (List (SeatState M S O C))) → IsOpen n ms ts ks cs → AreFresh n ks
  opened_fresh n ms ts ks cs o = subst (AreFresh n) (sym o.keepers_are) (fresh_pairs S O C n ts o.homes)

  pub opened_long : (n : ℕ) (ms : List (Standing M S O C)) (ts : List TableId) (ks : List (KeeperState M S O C)) (cs : List (List (SeatState M S O C))) → IsOpen n ms ts ks cs → length ts ≡ length ms
  opened_long n ms ts ks cs o = omega (arith, o.long, ap length o.homes_are, length-map ms home_of)

  pub opened_keepers : (n : ℕ) (ms : List (Standing M S O C)) (ts : List TableId) (ks : List (KeeperState M S O C)) (cs : List (List (SeatState M S O C))) → IsOpen n ms ts ks cs
      → keeping (map (λ k. k.slot) ks) (map (λ k. k.home) ks) n ≡ keeping ts (homes_of ms) n
  opened_keepers n ms ts ks cs o =
      let mine : TableId → Home M → KeeperState M S O C = λ t h. new_keeper t h n in
      let slots : map (λ (k : KeeperState M S O C). k.slot) ks ≡ ts = ap (map (λ (k : KeeperState M S O C). k.slot)) o.keepers_are ∙ paired_left mine (λ k. k.slot) (λ t h. refl) ts o.homes o.long in
      let homes : map (λ (k : KeeperState M S O C). k.home) ks ≡ homes_of ms = ap (map (λ (k : KeeperState M S O C). k.home)) o.keepers_are ∙ paired_right mine (λ k. k.home) (λ t h. refl) ts o.homes o.long ∙ o.homes_are in
      λ i. keeping (slots i) (homes i) n

  pub opened_keepers_long : (n : ℕ) (ms : List (Standing M S O C)) (ts : List TableId) (ks : List (KeeperState M S O C)) (cs : List (List (SeatState M S O C))) → IsOpen n ms ts ks cs → length ks ≡ length ms
  opened_keepers_long n ms ts ks cs o =
      let k : map (λ (k : KeeperState M S O C). k.slot) ks ≡ ts = ap (λ (x : HubKeeping M). x.slots) (opened_keepers n ms ts ks cs o) in
      omega (arith, ap length k, length-map ks (λ (k : KeeperState M S O C). k.slot), opened_long n ms ts ks cs o)

  pub opened_mine : (n : ℕ) (ms : List (Standing M S O C)) (ts : List TableId) (ks : List (KeeperState M S O C)) (cs : List (List (SeatState M S O C))) → IsOpen n ms ts ks cs → AreCallersOf ts cs
  opened_mine n ms ts ks cs o =
      let make : TableId → Home M → SeatState M S O C = new_seat in
      let mine : slots_of (new_caller ts o.homes) ≡ ts = paired_left make (λ s. s.slot) (λ t h. refl) ts o.homes o.long in
      subst (All (λ c. slots_of c ≡ ts)) (sym o.callers_are) (All-replicate (λ (c : List (SeatState M S O C)). slots_of c ≡ ts) n (new_caller ts o.homes) mine)
