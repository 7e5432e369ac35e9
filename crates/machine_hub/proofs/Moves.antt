-- Each step keeps the rule of a slot.
use Rattle.std.proofs.Common.{◌≡◌, ◌≢◌, ◌⊎◌, inl, inr, ℕ, zero, suc, ◌+◌, ◌-◌, ◌<◌, ◌≤◌, List, [], ◌∷◌, ◌++◌, length, set, Bool, true, false, true≢false, Option, Some, None, IfSome, sum_by, flat_map, refl, sym, ap, ◌∙◌, subst, ⊎_elim, arith, length-append}
use Rattle.std.specs.Prelude.{Result, Ok, Err}
use mathlib.Core.Option.{some, some-ne-none, some-injective}
use lib.ListN.{get_elem?}
use Rattle.crossbeam_queue.specs.Fifo as fifo
use Rattle.crossbeam_queue.proofs.Lists.{at_set, at_snoc}
use Rattle.std.proofs.lemmas.List.{nil_from_length}
use Rattle.std.proofs.lemmas.List.Sums.{sum_by_push}
use Rattle.log_positions.specs.Numbered.{AreAllOf}
use Rattle.log_positions.proofs.Shares.{sum-set, sum-only, part_of, two_parts, each_set}
use Rattle.log_positions.proofs.Gathered.{gathered-only}
use Rattle.log_positions.proofs.Numbered.{AreAllOf-none, holder_from, holder_adds, holder_keeps, holder_comes, holder_takes_in}
use Rattle.machine_hub.specs.declared.entry.Entry.{Entry}
use Rattle.machine_hub.specs.declared.view.Home.{Home}
use Rattle.machine_hub.specs.declared.view.SlotView.{SlotView}
use Rattle.machine_hub.specs.declared.view.Standing.{Standing}
use Rattle.machine_hub.specs.Runs.{entry, no_entries, entries_in, lost_in, losses, IsHistory}
use Rattle.machine_hub.specs.Slot.{all_parts, seat_view, home_of, no_standing, with_history, stored, maker, spent_view, held_count, without_part, newcomer, both_views, Opened, added, added_late, passed, Stepped, Stopped, Returned, IsOut, IsIn, IsAtHome, HasHistory, IsState, Did, AreStates, Fits, IsSlot, Taken, IsSteppedBy, IsStoppedBy, IsReturnedBy}
use Rattle.machine_hub.proofs.Kept.{history_runs, history_none, history_logged, history_late, history_loss, entries_in_push, entries_in_loss, lost_in_push, lost_in_loss, losses_push, losses_loss}

module _ {M S O C : Type 0} (asks : C → S → Type 0) (steps : M → S → O → M → Type 0) (loses : C → M → M → Type 0) where
  abbrev parts_of : SlotView M S O C → ℕ
  parts_of v = v.parts

  abbrev hold : SlotView M S O C → ℕ
  hold v = held_count v.held

  abbrev refused_of : SlotView M S O C → ℕ
  refused_of v = v.refused

  abbrev calls_of : SlotView M S O C → List (ℕ × Entry S O)
  calls_of v = v.calls

  abbrev late_of : SlotView M S O C → List (ℕ × Entry S O)
  late_of v = v.late

  abbrev lost_of : SlotView M S O C → List (ℕ × C)
  lost_of v = v.lost

  none_held : (o : Option (Standing M S O C)) → held_count o ≡ 0 → o ≡ None
  none_held None e = refl
  none_held (Some s) e = absurd (omega arith)

  -- who has the machine out has it stands, the slot is empty, and no other has it
  record IsHolding (items : List (Standing M S O C)) (views : List (SlotView M S O C)) (h : IsSlot asks steps loses items views) (i : ℕ) (v : SlotView M S O C) (old : Standing M S O C) : Type 0 where
    empty : items ≡ []
    state : IsState asks steps loses h.home h.entries h.later h.stopped old
    others : (j : ℕ) (u : SlotView M S O C) → j ≢ i → get_elem? views j ≡ some u → u.held ≡ None

  holding : (items : List (Standing M S O C)) (views : List (SlotView M S O C)) (h : IsSlot asks steps loses items views) (i : ℕ) (v : SlotView M S O C) (old : Standing M S O C)
      → get_elem? views i ≡ some v → v.held ≡ Some old → IsHolding items views h i v old
  holding items views h i v old at has =
      let one : hold v ≡ 1 = ap held_count has in
      record {
        empty = nil_from_length items (omega (arith, h.one, one, part_of hold views i v at));
        state = subst (λ o. IfSome o (IsState asks steps loses h.home h.entries h.later h.stopped)) has (h.fits i v at).out;
        others = λ j u apart there. none_held u.held (omega (arith, h.one, one, two_parts hold views i j v u at there apart));
      }

  -- the machine comes back
  give : (items : List (Standing M S O C)) (views : List (SlotView M S O C)) (h : IsSlot asks steps loses items views) (i : ℕ) (v : SlotView M S O C) (old x : Standing M S O C) (home : Home M)
      (entries : List (Entry S O)) (later : List (Result (Entry S O) C)) (calls late : List (ℕ × Entry S O)) (bare refused : ℕ) (lost : List (ℕ × C))
      → get_elem? views i ≡ some v → v.held ≡ Some old → 0 < v.parts
      → ((j : ℕ) (u : SlotView M S O C) → j ≢ i → get_elem? views j ≡ some u → 0 < u.parts → u.home ≡ home)
      → (x.number ≡ home.number) × (x.keeps ≡ home.keeps)
      → IsHistory asks steps loses home.start entries later x.stopped x.machine
      → x.entries ≡ stored home.keeps entries
      → (AreAllOf h.entries (flat_map calls_of views) → h.entries ≡ old.entries → AreAllOf entries (flat_map calls_of (set views i (seat_view v.parts home None calls late bare refused lost))))
      → (AreAllOf (entries_in h.later) (flat_map late_of views) → h.later ≡ old.later → AreAllOf (entries_in later) (flat_map late_of (set views i (seat_view v.parts home None calls late bare refused lost))))
      → (AreAllOf (lost_in h.later) (flat_map lost_of views) → h.later ≡ old.later → AreAllOf (lost_in later) (flat_map lost_of (set views i (seat_view v.parts home None calls late bare refused lost))))
      → losses later + v.refused ≡ losses old.later + refused
      → ((0 < v.bare → old.stopped ≡ true) → 0 < bare → x.stopped ≡ true)
      → (old.stopped ≡ true → x.stopped ≡ true)
      → ((0 < v.refused → old.stopped ≡ true) → 0 < refused → x.stopped ≡ true)
      → (x.stopped ≡ true → ((old.stopped ≡ true) × (v.refused ≤ refused)) ⊎ (v.refused < refused))
      → IsSlot asks steps loses (items ++ x ∷ []) (set views i (seat_view v.parts home None calls late bare refused lost))
  give items views h i v old x home entries later calls late bare refused lost at has some_part homes same history kept grows more loses_more counts bares stays blocks blames =
      let w = seat_view v.parts home None calls late bare refused lost in
      let out = holding items views h i v old at has in
      let mine = h.fits i v at in
      let one : hold v ≡ 1 = ap held_count has in
      let was : losses h.later ≡ losses old.later = ap losses (sym out.state.later_is) in
      let did : Did asks steps loses home entries later x.stopped x = record {
        home_is = (same.0, same.1, history_runs asks steps loses home.start entries later x.stopped x.machine history);
        history = history;
        kept = kept;
        stopped_is = refl;
      } in
      record {
        home = home;
        entries = entries;
        later = later;
        stopped = x.stopped;
        parts = omega (arith, sum-set parts_of views i v w at, h.parts);
        one = omega (arith, sum-set hold views i v w at, h.one, one, length-append items (x ∷ []));
        stands = subst (λ l. AreStates asks steps loses home entries later x.stopped (l ++ x ∷ [])) (sym out.empty) (did, tt);
        calls = grows h.calls (sym out.state.entries_are);
        late = more h.late (sym out.state.later_is);
        lost = loses_more h.lost (sym out.state.later_is);
        count = omega (arith, sum-set refused_of views i v w at, h.count, was, counts);
        blame = λ on. ⊎_elim
            (λ (t : (old.stopped ≡ true) × (v.refused ≤ refused)). omega (arith, sum-set refused_of views i v w at, h.blame (sym out.state.stopped_is ∙ t.0), t.1))
            (λ (t : v.refused < refused). omega (arith, sum-set refused_of views i v w at, t))
            (blames on);
        fits = each_set (Fits asks steps loses home entries later x.stopped) views i w
            (record {
              homed = λ _. refl;
              out = tt;
              blank = bares (λ b. out.state.stopped_is ∙ mine.blank b);
              stops = blocks (λ some. out.state.stopped_is ∙ mine.stops some);
              idle = λ none. absurd (omega arith);
            })
            (λ j u apart there. let f = h.fits j u there in record {
              homed = homes j u apart there;
              out = subst (λ o. IfSome o (IsState asks steps loses home entries later x.stopped)) (sym (out.others j u apart there)) tt;
              blank = λ b. stays (out.state.stopped_is ∙ f.blank b);
              stops = λ some. stays (out.state.stopped_is ∙ f.stops some);
              idle = f.idle;
            });
      }

  -- a step leaves the home
  homes_stay : (items : List (Standing M S O C)) (views : List (SlotView M S O C)) (h : IsSlot asks steps loses items views) (i : ℕ) (v : SlotView M S O C) → get_elem? views i ≡ some v → 0 < v.parts
      → (j : ℕ) (u : SlotView M S O C) → j ≢ i → get_elem? views j ≡ some u → 0 < u.parts → u.home ≡ v.home
  homes_stay items views h i v at some_part j u apart there part = (h.fits j u there).homed part ∙ sym ((h.fits i v at).homed some_part)

  -- the machine that a seat has out
  record IsKnown (home : Home M) (old : Standing M S O C) : Type 0 where
    same : (old.number ≡ home.number) × (old.keeps ≡ home.keeps)
    history : HasHistory asks steps loses home old

  known : (items : List (Standing M S O C)) (views : List (SlotView M S O C)) (h : IsSlot asks steps loses items views) (i : ℕ) (v : SlotView M S O C) (old : Standing M S O C) → get_elem? views i ≡ some v → v.held ≡ Some old → 0 < v.parts → IsKnown v.home old
  known items views h i v old at has some_part =
      let state = (holding items views h i v old at has).state in
      subst (λ (y : Home M). IsKnown y old) (sym ((h.fits i v at).homed some_part)) (record { same = (state.home_is.0, state.home_is.1); history = state.history })

  -- nothing is noted
  same_calls : {X : Type 0} (f : SlotView M S O C → List (ℕ × X)) (views : List (SlotView M S O C)) (i : ℕ) (v w : SlotView M S O C) (es now : List X) → get_elem? views i ≡ some v → f w ≡ f v
      → AreAllOf es (flat_map f views) → es ≡ now → AreAllOf now (flat_map f (set views i w))
  same_calls f views i v w es now at same all is = subst (λ l. AreAllOf l (flat_map f (set views i w))) is (holder_keeps f es views i v w at same all)

  pub steps_on : (n i : ℕ) (v : SlotView M S O C) (x : Standing M S O C) → IsSteppedBy steps v x → fifo.Pushes (IsSlot asks steps loses) n i v x (Stepped v x)
  steps_on n i v x is items views room h at = by x.stopped refl
    where
      old : Standing M S O C
      old = is.old

      e : Entry S O
      e = entry is.step is.outcome

      noted : ℕ × Entry S O
      noted = (length old.entries, e)

      late : ℕ × Entry S O
      late = (length (entries_in old.later), e)

      home : IsKnown v.home old
      home = known items views h i v old at is.held is.part

      view : Bool → SlotView M S O C
      view c = seat_view v.parts v.home None (added c v.calls noted) (added_late c v.late late) (passed c v.bare) v.refused v.lost

      by : (b : Bool) → x.stopped ≡ b → (w : SlotView M S O C) × IsSlot asks steps loses (items ++ x ∷ []) (set views i w) × Stepped v x w
      by true off =
          let w = seat_view v.parts v.home None v.calls (v.late ++ late ∷ []) (v.bare + 1) v.refused v.lost in (
            w,
            give items views h i v old x v.home old.entries (old.later ++ Ok e ∷ []) v.calls (v.late ++ late ∷ []) (v.bare + 1) v.refused v.lost at is.held is.part (homes_stay items views h i v at is.part)
                (is.same.0 ∙ home.same.0, is.same.1 ∙ home.same.1)
                (history_late asks steps loses v.home.start old.entries old.later e old.stopped x.stopped old.machine x.machine home.history off is.stepped)
                (is.kept ∙ ap (λ c. stored v.home.keeps (added c old.entries e)) off)
                (same_calls calls_of views i v w h.entries old.entries at refl)
                (λ all same. subst (λ l. AreAllOf l (flat_map late_of (set views i w))) (sym (entries_in_push old.later e))
                (holder_adds late_of (entries_in old.later) e views i v w at refl (subst (λ l. AreAllOf (entries_in l) (flat_map late_of views)) same all)))
                (λ all same. same_calls lost_of views i v w (lost_in h.later) (lost_in (old.later ++ Ok e ∷ [])) at refl all (ap lost_in same ∙ sym (lost_in_push old.later e)))
                (ap (λ n. n + v.refused) (losses_push old.later e))
                (λ _ _. off)
                (λ _. off)
                (λ _ _. off)
                (λ _. inl (sym is.stays ∙ off, omega arith)),
            (old, e, is.held, is.last, ap view (sym off)),
          )
      by false on =
          let was : old.stopped ≡ false = sym is.stays ∙ on in
          let calls = v.calls ++ noted ∷ [] in
          let w = seat_view v.parts v.home None calls v.late v.bare v.refused v.lost in (
            w,
            give items views h i v old x v.home (old.entries ++ e ∷ []) old.later calls v.late v.bare v.refused v.lost at is.held is.part (homes_stay items views h i v at is.part)
                (is.same.0 ∙ home.same.0, is.same.1 ∙ home.same.1)
                (history_logged asks steps loses v.home.start old.entries old.later e old.stopped x.stopped old.machine x.machine home.history was is.stepped)
                (is.kept ∙ ap (λ c. stored v.home.keeps (added c old.entries e)) on)
                (λ all same. holder_adds calls_of old.entries e views i v w at refl (subst (λ l. AreAllOf l (flat_map calls_of views)) same all))
                (λ all same. same_calls late_of views i v w (entries_in h.later) (entries_in old.later) at refl all (ap entries_in same))
                (λ all same. same_calls lost_of views i v w (lost_in h.later) (lost_in old.later) at refl all (ap lost_in same))
                refl
                (λ bare b. absurd (true≢false (sym (bare b) ∙ was)))
                (λ off. absurd (true≢false (sym off ∙ was)))
                (λ mine some. absurd (true≢false (sym (mine some) ∙ was)))
                (λ off. absurd (true≢false (sym off ∙ on))),
            (old, e, is.held, is.last, ap view (sym on)),
          )

  pub stops : (n i : ℕ) (v : SlotView M S O C) (x : Standing M S O C) → IsStoppedBy asks steps loses v x → fifo.Pushes (IsSlot asks steps loses) n i v x (Stopped v x)
  stops n i v x is items views room h at =
      let old = is.0 in
      let call = is.1 in
      let back = is.2 in
      let off = is.3 in
      let noted : ℕ × C = (length (lost_in old.later), call) in
      let lost = v.lost ++ noted ∷ [] in
      let w = seat_view v.parts v.home None v.calls v.late v.bare (v.refused + 1) lost in
      let home = known items views h i v old at back.held back.part in (
        w,
        give items views h i v old x v.home old.entries (old.later ++ Err call ∷ []) v.calls v.late v.bare (v.refused + 1) lost at back.held back.part (homes_stay items views h i v at back.part)
            (back.same.0 ∙ home.same.0, back.same.1 ∙ home.same.1)
            (history_loss asks steps loses v.home.start old.entries old.later call old.stopped x.stopped old.machine x.machine home.history off is.5)
            back.kept
            (same_calls calls_of views i v w h.entries old.entries at refl)
            (λ all same. same_calls late_of views i v w (entries_in h.later) (entries_in (old.later ++ Err call ∷ [])) at refl all (ap entries_in same ∙ sym (entries_in_loss old.later call)))
            (λ all same. subst (λ l. AreAllOf l (flat_map lost_of (set views i w))) (sym (lost_in_loss old.later call))
            (holder_adds lost_of (lost_in old.later) call views i v w at refl (subst (λ l. AreAllOf (lost_in l) (flat_map lost_of views)) same all)))
            (omega (arith, losses_loss old.later call))
            (λ _ _. off)
            (λ _. off)
            (λ _ _. off)
            (λ _. inr (omega arith)),
        (old, call, back.held, is.4, refl),
      )

  pub returns_to : (n i : ℕ) (v : SlotView M S O C) (x : Standing M S O C) → IsReturnedBy v x → fifo.Pushes (IsSlot asks steps loses) n i v x (Returned v x)
  returns_to n i v x is items views room h at =
      let old = is.0 in
      let back = is.1 in
      let w = seat_view v.parts v.home None v.calls v.late v.bare v.refused v.lost in
      let home = known items views h i v old at back.held back.part in
      let history = subst (λ m. IsHistory asks steps loses v.home.start old.entries old.later old.stopped m) (sym is.2) home.history in (
        w,
        give items views h i v old x v.home old.entries old.later v.calls v.late v.bare v.refused v.lost at back.held back.part (homes_stay items views h i v at back.part)
            (back.same.0 ∙ home.same.0, back.same.1 ∙ home.same.1)
            (subst (λ b. IsHistory asks steps loses v.home.start old.entries old.later b x.machine) (sym is.3) history)
            back.kept
            (same_calls calls_of views i v w h.entries old.entries at refl)
            (λ all same. same_calls late_of views i v w (entries_in h.later) (entries_in old.later) at refl all (ap entries_in same))
            (λ all same. same_calls lost_of views i v w (lost_in h.later) (lost_in old.later) at refl all (ap lost_in same))
            refl
            (λ mine some. is.3 ∙ mine some)
            (λ off. is.3 ∙ off)
            (λ mine some. is.3 ∙ mine some)
            (λ off. inl (sym is.3 ∙ off, omega arith)),
        refl,
      )

  nothing : (keeps : Bool) → no_entries S O ≡ stored keeps (no_entries S O)
  nothing true = refl
  nothing false = refl

  pub opens : (n i : ℕ) (m : M) (x : Standing M S O C) → x.entries ≡ [] → x.stopped ≡ false → fifo.Pushes (IsSlot asks steps loses) n i (maker m) x (Opened (maker m) x)
  opens n i m x none fresh items views room h at =
      let w = seat_view all_parts (home_of x) None [] [] 0 0 [] in (
        w,
        give items views h i (maker m) (no_standing m) x (home_of x) [] [] [] [] 0 0 [] at refl (omega arith)
            (λ j u apart there some_part. absurd (omega (arith, two_parts parts_of views i j (maker m) u at there apart, h.parts, some_part)))
            (refl, refl)
            (history_none asks steps loses x.machine x.stopped)
            (none ∙ nothing x.keeps)
            (same_calls calls_of views i (maker m) w h.entries [] at refl)
            (λ all same. same_calls late_of views i (maker m) w (entries_in h.later) [] at refl all (ap entries_in same))
            (λ all same. same_calls lost_of views i (maker m) w (lost_in h.later) [] at refl all (ap lost_in same))
            refl
            (λ _ b. absurd (omega arith))
            (λ off. absurd (true≢false (sym off)))
            (λ _ some. absurd (omega arith))
            (λ off. absurd (true≢false (sym off ∙ fresh))),
        refl,
      )

  pub takes : (i : ℕ) (v : SlotView M S O C) → 0 < v.parts → v.held ≡ None → fifo.Pops (IsSlot asks steps loses) i v (Taken asks steps loses v)
  takes i v some_part free x items views h at =
      let known = with_history h.entries h.later x in
      let w = seat_view v.parts v.home (Some known) v.calls v.late v.bare v.refused v.lost in
      let mine = h.fits i v at in
      let is = h.stands.0 in
      let zero_held : hold v ≡ 0 = ap held_count free in (
        w,
        record {
          home = h.home;
          entries = h.entries;
          later = h.later;
          stopped = h.stopped;
          parts = omega (arith, sum-set parts_of views i v w at, h.parts);
          one = omega (arith, sum-set hold views i v w at, h.one, zero_held);
          stands = h.stands.1;
          calls = holder_keeps calls_of h.entries views i v w at refl h.calls;
          late = holder_keeps late_of (entries_in h.later) views i v w at refl h.late;
          lost = holder_keeps lost_of (lost_in h.later) views i v w at refl h.lost;
          count = omega (arith, sum-set refused_of views i v w at, h.count);
          blame = λ on. omega (arith, sum-set refused_of views i v w at, h.blame on);
          fits = each_set (Fits asks steps loses h.home h.entries h.later h.stopped) views i w
              (record {
                homed = mine.homed;
                out = record { home_is = is.home_is; history = is.history; entries_are = refl; later_is = refl; stopped_is = is.stopped_is };
                blank = mine.blank;
                stops = mine.stops;
                idle = λ none. absurd (omega arith);
              })
              (λ j u _ there. h.fits j u there);
        },
        record {
          entries = h.entries;
          later = h.later;
          after = refl;
          home = λ some. subst (λ (y : Home M). IsAtHome steps y known) (sym (mine.homed some)) is.home_is;
          history = λ some. subst (λ (y : Home M). HasHistory asks steps loses y known) (sym (mine.homed some)) is.history;
          kept = λ some. is.kept ∙ ap (λ (y : Home M). stored y.keeps h.entries) (sym (mine.homed some));
          calls = holder_from calls_of h.entries views i v h.calls at;
          late = holder_from late_of (entries_in h.later) views i v h.late at;
          lost = holder_from lost_of (lost_in h.later) views i v h.lost at;
          blank = λ b. is.stopped_is ∙ mine.blank b;
          whole = λ all.
              let whole : sum_by parts_of views ≡ v.parts = h.parts ∙ sym all in
              let mine_all : flat_map calls_of views ≡ v.calls = gathered-only parts_of calls_of views i v at whole (λ j u there none. ((h.fits j u there).idle none).1) in
              let late_all : flat_map late_of views ≡ v.late = gathered-only parts_of late_of views i v at whole (λ j u there none. ((h.fits j u there).idle none).2) in
              let refused_all = sum-only parts_of refused_of views i v at whole (λ j u there none. ((h.fits j u there).idle none).4) in
              let lost_all : flat_map lost_of views ≡ v.lost = gathered-only parts_of lost_of views i v at whole (λ j u there none. ((h.fits j u there).idle none).5) in
              record {
                each = subst (AreAllOf h.entries) mine_all h.calls;
                late = subst (AreAllOf (entries_in h.later)) late_all h.late;
                lost = subst (AreAllOf (lost_in h.later)) lost_all h.lost;
                count = h.count ∙ refused_all;
                blame = λ on. omega (arith, refused_all, h.blame (sym is.stopped_is ∙ on));
                stops = λ some. is.stopped_is ∙ mine.stops some;
              };
        },
      )

  -- a seat with nothing
  blank_seat : (home h : Home M) (entries : List (Entry S O)) (later : List (Result (Entry S O) C)) (stopped : Bool) (k : ℕ) → home ≡ h → Fits asks steps loses h entries later stopped (seat_view k home None [] [] 0 0 [])
  blank_seat home h entries later stopped k is = record { homed = λ _. is; out = tt; blank = λ b. absurd (omega arith); stops = λ b. absurd (omega arith); idle = λ _. (refl, refl, refl, refl, refl, refl) }

  pub forks : (i n : ℕ) (home : Home M) (v : SlotView M S O C) → v ≡ seat_view n home None [] [] 0 0 [] → 0 < n → fifo.Forks (IsSlot asks steps loses) i v (without_part v) (newcomer v)
  forks i n home v is some_part = subst (λ (y : SlotView M S O C). fifo.Forks (IsSlot asks steps loses) i y (without_part y) (newcomer y)) (sym is) fork
    where
      old : SlotView M S O C
      old = seat_view n home None [] [] 0 0 []

      left : SlotView M S O C
      left = seat_view (n - 1) home None [] [] 0 0 []

      right : SlotView M S O C
      right = seat_view 1 home None [] [] 0 0 []

      fork : fifo.Forks (IsSlot asks steps loses) i old left right
      fork items views h at =
          let vs = set views i left in
          let homed = (h.fits i old at).homed some_part in
          let blank = blank_seat home h.home h.entries h.later h.stopped in
          record {
            home = h.home;
            entries = h.entries;
            later = h.later;
            stopped = h.stopped;
            parts = omega (arith, sum_by_push parts_of vs right, sum-set parts_of views i old left at, h.parts, some_part);
            one = omega (arith, sum_by_push hold vs right, sum-set hold views i old left at, h.one);
            stands = h.stands;
            calls = holder_comes calls_of h.entries vs right refl (holder_keeps calls_of h.entries views i old left at refl h.calls);
            late = holder_comes late_of (entries_in h.later) vs right refl (holder_keeps late_of (entries_in h.later) views i old left at refl h.late);
            lost = holder_comes lost_of (lost_in h.later) vs right refl (holder_keeps lost_of (lost_in h.later) views i old left at refl h.lost);
            count = omega (arith, sum_by_push refused_of vs right, sum-set refused_of views i old left at, h.count);
            blame = λ on. omega (arith, sum_by_push refused_of vs right, sum-set refused_of views i old left at, h.blame on);
            fits = λ j u there. ⊎_elim
                (λ was. each_set (Fits asks steps loses h.home h.entries h.later h.stopped) views i left (blank (n - 1) homed) (λ k y _ here. h.fits k y here) j u was)
                (λ (e : right ≡ u). subst (Fits asks steps loses h.home h.entries h.later h.stopped) e (blank 1 homed)) (at_snoc vs right u j there);
          }

  pub merges : (m : M) (i : ℕ) (v : SlotView M S O C) (other : ℕ) (u : SlotView M S O C) → 0 < v.parts → u.held ≡ None → fifo.Merges (IsSlot asks steps loses) i v other u (both_views v u) (spent_view m)
  merges m i v other u some_part free items views h at two at' =
      let both = both_views v u in
      let spent : SlotView M S O C = spent_view m in
      let vs = set views i both in
      let mine = h.fits i v at in
      let theirs = h.fits other u (⊎_elim (λ (t : (other ≡ i) × (both ≡ u)). absurd (two t.0)) (λ (t : (other ≢ i) × (get_elem? views other ≡ some u)). t.1) (at_set views i other both u at')) in
      let zero_held : hold u ≡ 0 = ap held_count free in
      record {
        home = h.home;
        entries = h.entries;
        later = h.later;
        stopped = h.stopped;
        parts = omega (arith, sum-set parts_of views i v both at, sum-set parts_of vs other u spent at', h.parts);
        one = omega (arith, sum-set hold views i v both at, sum-set hold vs other u spent at', h.one, zero_held);
        stands = h.stands;
        calls = holder_takes_in calls_of h.entries views i other v u both spent at two at' refl refl h.calls;
        late = holder_takes_in late_of (entries_in h.later) views i other v u both spent at two at' refl refl h.late;
        lost = holder_takes_in lost_of (lost_in h.later) views i other v u both spent at two at' refl refl h.lost;
        count = omega (arith, sum-set refused_of views i v both at, sum-set refused_of vs other u spent at', h.count);
        blame = λ on. omega (arith, sum-set refused_of views i v both at, sum-set refused_of vs other u spent at', h.blame on);
        fits = each_set (Fits asks steps loses h.home h.entries h.later h.stopped) vs other spent
            (record { homed = λ b. absurd (omega arith); out = tt; blank = λ b. absurd (omega arith); stops = λ b. absurd (omega arith); idle = λ _. (refl, refl, refl, refl, refl, refl) })
            (λ j y _ there. each_set (Fits asks steps loses h.home h.entries h.later h.stopped) views i both
            (record {
              homed = λ _. mine.homed some_part;
              out = mine.out;
              blank = blanks v.bare u.bare h.stopped mine.blank theirs.blank;
              stops = blanks v.refused u.refused h.stopped mine.stops theirs.stops;
              idle = λ none. absurd (omega (arith, none, some_part));
            })
            (λ k z _ here. h.fits k z here) j y there);
      }
    where
      blanks : (m k : ℕ) (b : Bool) → (0 < m → b ≡ true) → (0 < k → b ≡ true) → 0 < k + m → b ≡ true
      blanks m zero b p q lt = p (omega arith)
      blanks m (suc k) b p q lt = q (omega arith)

  pub learns_out : (i : ℕ) (v : SlotView M S O C) → fifo.Learns (IsSlot asks steps loses) i v (IsOut v)
  learns_out i v items views h at s has = (holding items views h i v s at has).empty

  pub learns_in : (i : ℕ) (v : SlotView M S O C) → fifo.Learns (IsSlot asks steps loses) i v (IsIn v)
  learns_in i v items views h at all free =
      let zero_held : hold v ≡ 0 = ap held_count free in
      omega (arith, h.one, zero_held, sum-only parts_of hold views i v at (h.parts ∙ sym all) (λ j u there none. ap held_count ((h.fits j u there).idle none).0))

  abbrev nowhere : M → Standing M S O C
  nowhere m = no_standing m

  pub begins : (m : M) → IsSlot asks steps loses [] (maker m ∷ [])
  begins m = record {
    home = home_of (nowhere m);
    entries = [];
    later = [];
    stopped = false;
    parts = refl;
    one = refl;
    stands = tt;
    calls = AreAllOf-none;
    late = AreAllOf-none;
    lost = AreAllOf-none;
    count = refl;
    blame = λ on. absurd (true≢false (sym on));
    fits = only;
  }
    where
      history : IsHistory asks steps loses m [] [] false m
      history = history_none asks steps loses m false

      state : IsState asks steps loses (home_of (nowhere m)) [] [] false (nowhere m)
      state = record { home_is = (refl, refl, history_runs asks steps loses m [] [] false m history); history = history; entries_are = refl; later_is = refl; stopped_is = refl }

      first : Fits asks steps loses (home_of (nowhere m)) [] [] false (maker m)
      first = record { homed = λ _. refl; out = state; blank = λ b. absurd (omega arith); stops = λ b. absurd (omega arith); idle = λ none. absurd (omega arith) }

      only : (j : ℕ) (u : SlotView M S O C) → get_elem? (maker m ∷ []) j ≡ some u → Fits asks steps loses (home_of (nowhere m)) [] [] false u
      only zero u at = subst (Fits asks steps loses (home_of (nowhere m)) [] [] false) (some-injective (maker m) u at) first
      only (suc j) u at = absurd (some-ne-none u (sym at))

  pub opens_as : (n i : ℕ) (m : M) (v : SlotView M S O C) (x : Standing M S O C) → v ≡ maker m → x.entries ≡ [] → x.stopped ≡ false → fifo.Pushes (IsSlot asks steps loses) n i v x (Opened v x)
  opens_as n i m v x is none fresh = subst (λ (y : SlotView M S O C). fifo.Pushes (IsSlot asks steps loses) n i y x (Opened y x)) (sym is) (opens n i m x none fresh)
