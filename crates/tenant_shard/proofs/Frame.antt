-- What a step of one member leaves of the others, and what always holds after it.
use Rattle.std.proofs.Common.{◌≡◌, ◌≢◌, ℕ, zero, suc, ◌≤◌, List, [], ◌∷◌, refl, sym, ap, ◌∙◌, arith, Bool, true, false, Option, Some, None, eqb, cond, set, subst, get_or, inl, inr}
use Rattle.std.proofs.lemmas.Bool.{cases_eq}
use Rattle.std.specs.Prelude.{is_some, option_and_then, IfSome, not, ◌||◌, ◌&&◌}
use Rattle.std.specs.List.{insert, remove}
use Rattle.std.proofs.lemmas.Bool.Decides.{nat_tests}
use Rattle.shard_agenda.specs.declared.AgendaEntry.{AgendaEntry}
use Rattle.shard_agenda.specs.Agenda.{ready_of, is_member, with_ready}
use Rattle.tail_policy.specs.declared.note.TraceNote.{TraceNote}
use Rattle.tail_settings.specs.Section.{section_view}
use Rattle.tenant_rules.specs.State.{State}
use Rattle.tenant_rules.specs.Ready.{ready}
use Rattle.tenant_rules.specs.Limits.{IsWithinLimits}
use Rattle.tenant_rules.specs.Sum.{IsCounted}
use Rattle.tenant_stores.specs.declared.stores.Stores.{Stores}
use Rattle.tenant_stores.specs.Counts.{no_rows}
use Rattle.tenant_stores.specs.Part.{Part, part}
use Rattle.tenant_stores.specs.Invariant.{StoreInvariant}
use Rattle.tenant_pipeline.specs.declared.pipeline.Pipeline.{Pipeline}
use Rattle.tenant_pipeline.specs.StateIn.{state_of, state_in}
use Rattle.tenant_pipeline.specs.Invariant.{PipelineInvariantBy, PipelineInvariant, IsSwept}
use Rattle.tenant_shard.specs.View.{kept_of, was_of, StaysOf}
use Rattle.tenant_shard.specs.Members.{views, AllAbove, AreInOrder, IsPlaceOf, IsGapFor}
use Rattle.tenant_shard.specs.Pick.{ready_in}
use Rattle.tenant_shard.specs.Steps.{IsChangeOf}
use Rattle.tenant_shard.specs.Whole.{AllHeld, AllSwept, IsWhole, AllCounted, AllWithin}
use Rattle.tenant_shard.proofs.Places.{AreInOrder-set, AreInOrder-insert, AreInOrder-remove}

-- a member whose part is the same is seen the same, and what holds of it holds
state_same : (old new : Stores TraceNote) (m : Pipeline) → part m.tenant new ≡ part m.tenant old → state_in m new ≡ state_in m old
state_same old new m same = ap (state_of m) same

held_same : (old new : Stores TraceNote) (m : Pipeline) → part m.tenant new ≡ part m.tenant old → PipelineInvariant m old → PipelineInvariant m new
held_same old new m same held = subst (PipelineInvariantBy m) (sym same) held

abbrev pub Others : ℕ → Stores TraceNote → Stores TraceNote → Type 0
Others t old new = (v : ℕ) → v ≢ t → part v new ≡ part v old

kept_same : (u : ℕ) (old new : Stores TraceNote) (ms : List Pipeline) → part u new ≡ part u old → kept_of u (views new ms) ≡ kept_of u (views old ms)
kept_same u old new [] same = refl
kept_same u old new (m ∷ ms) same = by_test (eqb m.tenant u) refl (kept_same u old new ms same)
  where
    by_test : (b : Bool) → eqb m.tenant u ≡ b → kept_of u (views new ms) ≡ kept_of u (views old ms) → kept_of u (views new (m ∷ ms)) ≡ kept_of u (views old (m ∷ ms))
    by_test true e rec =
        let is : m.tenant ≡ u = grind (arith, nat_tests, e) in
        let here : part m.tenant new ≡ part m.tenant old = subst (λ (t : ℕ). part t new ≡ part t old) (sym is) same in
        let state = state_same old new m here in
        rw e (ap Some state)
    by_test false e rec = rw e rec

-- the head of the views, or the rest
kept_head : (t : ℕ) (stores : Stores TraceNote) (x : Pipeline) (ms : List Pipeline) → x.tenant ≡ t → kept_of t (views stores (x ∷ ms)) ≡ Some (state_in x stores)
kept_head t stores x ms same = let test : eqb x.tenant t ≡ true = grind (arith, nat_tests) in rw test refl

kept_rest : (t : ℕ) (stores : Stores TraceNote) (x : Pipeline) (ms : List Pipeline) → x.tenant ≢ t → kept_of t (views stores (x ∷ ms)) ≡ kept_of t (views stores ms)
kept_rest t stores x ms other = let test : eqb x.tenant t ≡ false = grind (arith, nat_tests) in rw test refl

-- what stands at a place, and what a write there changes
pub kept_at : (t : ℕ) (stores : Stores TraceNote) (ms : List Pipeline) (i : ℕ) (d : Pipeline) → IsPlaceOf t ms i → kept_of t (views stores ms) ≡ Some (state_in (get_or ms i d) stores)
kept_at t stores [] i d p = absurd p
kept_at t stores (x ∷ ms) zero d p = kept_head t stores x ms p
kept_at t stores (x ∷ ms) (suc i) d p = kept_rest t stores x ms p.0 ∙ kept_at t stores ms i d p.1

kept_own : (t : ℕ) (stores : Stores TraceNote) (ms : List Pipeline) (i : ℕ) (m : Pipeline) → IsPlaceOf t ms i → m.tenant ≡ t → kept_of t (views stores (set ms i m)) ≡ Some (state_in m stores)
kept_own t stores [] i m p same = absurd p
kept_own t stores (x ∷ ms) zero m p same = kept_head t stores m ms same
kept_own t stores (x ∷ ms) (suc i) m p same = kept_rest t stores x (set ms i m) p.0 ∙ kept_own t stores ms i m p.1 same

-- behind one head there is the same
rest_same : (u : ℕ) (stores : Stores TraceNote) (x : Pipeline) (ms ns : List Pipeline) → kept_of u (views stores ms) ≡ kept_of u (views stores ns) → kept_of u (views stores (x ∷ ms)) ≡ kept_of u (views stores (x ∷ ns))
rest_same u stores x ms ns same = by_test (eqb x.tenant u)
  where
    by_test : (b : Bool) → cond b (Some (state_in x stores)) (kept_of u (views stores ms)) ≡ cond b (Some (state_in x stores)) (kept_of u (views stores ns))
    by_test true = refl
    by_test false = same

kept_set : (t u : ℕ) (stores : Stores TraceNote) (ms : List Pipeline) (i : ℕ) (m : Pipeline) → IsPlaceOf t ms i → m.tenant ≡ t → u ≢ t → kept_of u (views stores (set ms i m)) ≡ kept_of u (views stores ms)
kept_set t u stores [] i m p same other = absurd p
kept_set t u stores (x ∷ ms) zero m p same other = kept_rest u stores m ms (λ e. other (sym e ∙ same)) ∙ sym (kept_rest u stores x ms (λ e. other (sym e ∙ p)))
kept_set t u stores (x ∷ ms) (suc i) m p same other = rest_same u stores x (set ms i m) ms (kept_set t u stores ms i m p.1 same other)

kept_other : (t u : ℕ) (old new : Stores TraceNote) (ms : List Pipeline) (i : ℕ) (m : Pipeline) → IsPlaceOf t ms i → m.tenant ≡ t → Others t old new → u ≢ t → kept_of u (views new (set ms i m)) ≡ kept_of u (views old ms)
kept_other t u old new ms i m p same others other = kept_set t u new ms i m p same other ∙ kept_same u old new ms (others u other)

-- a member that has a place is kept, and one that has a gap is not
pub kept_there : (t : ℕ) (stores : Stores TraceNote) (ms : List Pipeline) (i : ℕ) → IsPlaceOf t ms i → kept_of t (views stores ms) ≡ None → ⊥
kept_there t stores [] i p none = p
kept_there t stores (x ∷ ms) zero p none = let some = kept_head t stores x ms p in absurd (cc)
kept_there t stores (x ∷ ms) (suc i) p none = kept_there t stores ms i p.1 (sym (kept_rest t stores x ms p.0) ∙ none)

not_above : (n t : ℕ) (stores : Stores TraceNote) (ms : List Pipeline) → AllAbove n ms → t ≤ n → kept_of t (views stores ms) ≡ None
not_above n t stores [] above le = refl
not_above n t stores (x ∷ ms) above le = kept_rest t stores x ms (λ e. omega (arith, above.0, le, e)) ∙ not_above n t stores ms above.1 le

pub kept_gap : (t : ℕ) (stores : Stores TraceNote) (ms : List Pipeline) (i : ℕ) → AreInOrder ms → IsGapFor t ms i → kept_of t (views stores ms) ≡ None
kept_gap t stores [] i order gap = refl
kept_gap t stores (x ∷ ms) zero order gap = kept_rest t stores x ms (λ e. omega (arith, gap, e)) ∙ not_above x.tenant t stores ms order.0 (omega (arith, gap))
kept_gap t stores (x ∷ ms) (suc i) order gap = kept_rest t stores x ms (λ e. omega (arith, gap.0, e)) ∙ kept_gap t stores ms i order.1 gap.1

-- a member alone is or was one of these views
was_kept : (t : ℕ) (stores : Stores TraceNote) (ms : List Pipeline) → was_of t (views stores ms) ≡ is_some (kept_of t (views stores ms))
was_kept t stores [] = refl
was_kept t stores (x ∷ ms) = by_test (eqb x.tenant t) (was_kept t stores ms)
  where
    by_test : (b : Bool) → was_of t (views stores ms) ≡ is_some (kept_of t (views stores ms)) → (b || was_of t (views stores ms)) ≡ is_some (cond b (Some (state_in x stores)) (kept_of t (views stores ms)))
    by_test true rest = refl
    by_test false rest = rest

pub stays : (u : ℕ) (old new : Stores TraceNote) (ms ns : List Pipeline) → kept_of u (views new ns) ≡ kept_of u (views old ms) → StaysOf u (views old ms) (views new ns)
stays u old new ms ns same = (same, was_kept u new ns ∙ (ap is_some same ∙ sym (was_kept u old ms)))

pub was_some : (t : ℕ) (stores : Stores TraceNote) (ms : List Pipeline) (state : State) → kept_of t (views stores ms) ≡ Some state → was_of t (views stores ms) ≡ true
was_some t stores ms state is = was_kept t stores ms ∙ ap is_some is

pub was_none : (t : ℕ) (stores : Stores TraceNote) (ms : List Pipeline) → kept_of t (views stores ms) ≡ None → was_of t (views stores ms) ≡ false
was_none t stores ms is = was_kept t stores ms ∙ ap is_some is

pub was_placed : (t : ℕ) (stores : Stores TraceNote) (ms : List Pipeline) (i : ℕ) → IsPlaceOf t ms i → was_of t (views stores ms) ≡ true
was_placed t stores [] i p = absurd p
was_placed t stores (x ∷ ms) zero p = let test : eqb x.tenant t ≡ true = grind (arith, nat_tests) in rw test refl
was_placed t stores (x ∷ ms) (suc i) p = let test : eqb x.tenant t ≡ false = let other = p.0 in grind (arith, nat_tests) in rw test (was_placed t stores ms i p.1)

-- the member at a place is changed, in the stores too
pub kept_place : (t : ℕ) (stores : Stores TraceNote) (ms : List Pipeline) (i : ℕ) (own : Pipeline) → IsPlaceOf t ms i → own ≡ get_or ms i own → kept_of t (views stores ms) ≡ Some (state_in own stores)
kept_place t stores ms i own p is = kept_at t stores ms i own p ∙ ap (λ (m : Pipeline). Some (state_in m stores)) (sym is)

pub change_at : (t : ℕ) (old new : Stores TraceNote) (ms : List Pipeline) (i : ℕ) (own m : Pipeline) → IsPlaceOf t ms i → own ≡ get_or ms i own → m.tenant ≡ t → Others t old new → m.section ≡ own.section →
    IsChangeOf t (state_in own old) (state_in m new) (Some (state_in m new)) (views old ms) (views new (set ms i m))
change_at t old new ms i own m p is same others section = record {
  was = kept_place t old ms i own p is;
  is_now = kept_own t new ms i m p same;
  section = ap section_view section;
  was_now = was_some t new (set ms i m) (state_in m new) (kept_own t new ms i m p same);
  others = λ other ne. stays other old new ms (set ms i m) (kept_other t other old new ms i m p same others ne);
}

-- what always holds of the member at a place
pub held_at : (t : ℕ) (stores : Stores TraceNote) (ms : List Pipeline) (i : ℕ) (d : Pipeline) → IsPlaceOf t ms i → AllHeld stores ms → PipelineInvariant (get_or ms i d) stores
held_at t stores [] i d p all = absurd p
held_at t stores (x ∷ ms) zero d p all = all.0
held_at t stores (x ∷ ms) (suc i) d p all = held_at t stores ms i d p.1 all.1

held_rest : (t n : ℕ) (old new : Stores TraceNote) (ms : List Pipeline) → Others t old new → AllAbove n ms → t ≤ n → AllHeld old ms → AllHeld new ms
held_rest t n old new [] others above le all = tt
held_rest t n old new (x ∷ ms) others above le all = (held_same old new x (others x.tenant (λ e. omega (arith, above.0, le, e))) all.0, held_rest t n old new ms others above.1 le all.1)

held_set : (t : ℕ) (old new : Stores TraceNote) (ms : List Pipeline) (i : ℕ) (m : Pipeline) → IsPlaceOf t ms i → Others t old new → AreInOrder ms → AllHeld old ms → PipelineInvariant m new → AllHeld new (set ms i m)
held_set t old new [] i m p others order all held = absurd p
held_set t old new (x ∷ ms) zero m p others order all held = (held, held_rest t x.tenant old new ms others order.0 (omega (arith, p)) all.1)
held_set t old new (x ∷ ms) (suc i) m p others order all held = (held_same old new x (others x.tenant p.0) all.0, held_set t old new ms i m p.1 others order.1 all.1 held)

held_insert : (stores : Stores TraceNote) (ms : List Pipeline) (i : ℕ) (m : Pipeline) → IsGapFor m.tenant ms i → AllHeld stores ms → PipelineInvariant m stores → AllHeld stores (insert ms i m)
held_insert stores [] zero m gap all held = (held, tt)
held_insert stores [] (suc i) m gap all held = absurd gap
held_insert stores (x ∷ ms) zero m gap all held = (held, all)
held_insert stores (x ∷ ms) (suc i) m gap all held = (all.0, held_insert stores ms i m gap.1 all.1 held)

-- that no row of the member at a place stays that isn't present
pub swept_at : (t : ℕ) (ms : List Pipeline) (i : ℕ) (d : Pipeline) → IsPlaceOf t ms i → AllSwept ms → IsSwept (get_or ms i d)
swept_at t [] i d p all = absurd p
swept_at t (x ∷ ms) zero d p all = all.0
swept_at t (x ∷ ms) (suc i) d p all = swept_at t ms i d p.1 all.1

swept_set : (ms : List Pipeline) (i : ℕ) (m : Pipeline) → AllSwept ms → IsSwept m → AllSwept (set ms i m)
swept_set [] i m all swept = tt
swept_set (x ∷ ms) zero m all swept = (swept, all.1)
swept_set (x ∷ ms) (suc i) m all swept = (all.0, swept_set ms i m all.1 swept)

swept_insert : (ms : List Pipeline) (i : ℕ) (m : Pipeline) → IsGapFor m.tenant ms i → AllSwept ms → IsSwept m → AllSwept (insert ms i m)
swept_insert [] zero m gap all swept = (swept, tt)
swept_insert [] (suc i) m gap all swept = absurd gap
swept_insert (x ∷ ms) zero m gap all swept = (swept, all)
swept_insert (x ∷ ms) (suc i) m gap all swept = (all.0, swept_insert ms i m gap.1 all.1 swept)

-- what always holds of a member's state holds of what is kept of whichever tenant
of_kept : (P : State → Type 0) (t : ℕ) (stores : Stores TraceNote) (ms : List Pipeline) → ((m : Pipeline) → PipelineInvariant m stores → P (state_in m stores)) →
    AllHeld stores ms → IfSome (kept_of t (views stores ms)) P
of_kept P t stores [] of_member all = tt
of_kept P t stores (x ∷ ms) of_member all = by_test (eqb x.tenant t) (of_kept P t stores ms of_member all.1)
  where
    by_test : (b : Bool) → IfSome (kept_of t (views stores ms)) P → IfSome (cond b (Some (state_in x stores)) (kept_of t (views stores ms))) P
    by_test true rest = of_member x all.0
    by_test false rest = rest

-- each member's spans are counted once
pub all_counted : (stores : Stores TraceNote) (es : List AgendaEntry) (ms : List Pipeline) → IsWhole stores es ms → AllCounted (views stores ms)
all_counted stores es ms whole = λ t. of_kept IsCounted t stores ms (λ m held. held.whole.counted) whole.held

-- and each member is within its limits
pub all_within : (stores : Stores TraceNote) (es : List AgendaEntry) (ms : List Pipeline) → IsWhole stores es ms → AllWithin (views stores ms)
all_within stores es ms whole = λ t. of_kept IsWithinLimits t stores ms (λ m held. held.whole.within) whole.held

-- the whole shard after a step of the member at a place
pub whole_set : (t : ℕ) (old new : Stores TraceNote) (es es' : List AgendaEntry) (ms : List Pipeline) (i : ℕ) (m : Pipeline) → IsWhole old es ms → IsPlaceOf t ms i → m.tenant ≡ t → Others t old new → PipelineInvariant m new → IsSwept m →
    ready_of es' ≡ with_ready t (ready (state_in m new)) (ready_of es) → is_member es' ≡ is_member es → IsWhole new es' (set ms i m)
whole_set t old new es es' ms i m whole p same others held swept at members = record {
  order = AreInOrder-set t ms i m p same whole.order;
  held = held_set t old new ms i m p others whole.order whole.held held;
  swept = swept_set ms i m whole.swept swept;
  strangers = λ u none. elim (cases_eq u t) [
    | inl is ↦
        let some : kept_of u (views new (set ms i m)) ≡ Some (state_in m new) = subst (λ (v : ℕ). kept_of v (views new (set ms i m)) ≡ Some (state_in m new)) (sym is) (kept_own t new ms i m p same) in
        absurd (cc)
    | inr other ↦
        let none' : kept_of u (views old ms) ≡ None = sym (kept_other t u old new ms i m p same others other) ∙ none in
        subst (λ (q : Part TraceNote). StoreInvariant no_rows [] [] q) (sym (others u other)) (whole.strangers u none')
  ];
  listed = λ u. ap (λ (f : ℕ → Bool). f u) members ∙ (whole.listed u ∙ by_listed u);
  ready = λ u. ap (λ (f : ℕ → Option ℕ). f u) at ∙ by_ready u (eqb u t) refl;
}
  where
    by_listed : (u : ℕ) → is_some (kept_of u (views old ms)) ≡ is_some (kept_of u (views new (set ms i m)))
    by_listed u = elim (cases_eq u t) [
      | inl is ↦ subst (λ (v : ℕ). is_some (kept_of v (views old ms)) ≡ is_some (kept_of v (views new (set ms i m)))) (sym is) (ap is_some (kept_at t old ms i m p) ∙ sym (ap is_some (kept_own t new ms i m p same)))
      | inr other ↦ ap is_some (sym (kept_other t u old new ms i m p same others other))
    ]

    by_ready : (u : ℕ) (b : Bool) → eqb u t ≡ b → cond b (ready (state_in m new)) (ready_of es u) ≡ ready_in (views new (set ms i m)) u
    by_ready u true e =
        let is : u ≡ t = grind (arith, nat_tests, e) in
        subst (λ (v : ℕ). ready (state_in m new) ≡ ready_in (views new (set ms i m)) v) (sym is) (sym (ap (option_and_then ready) (kept_own t new ms i m p same)))
    by_ready u false e =
        let other : u ≢ t = λ is. absurd (grind (arith, nat_tests, e, is)) in
        whole.ready u ∙ sym (ap (option_and_then ready) (kept_other t u old new ms i m p same others other))

-- a new member in its gap
pub kept_insert : (stores : Stores TraceNote) (ms : List Pipeline) (i : ℕ) (m : Pipeline) → IsGapFor m.tenant ms i → kept_of m.tenant (views stores (insert ms i m)) ≡ Some (state_in m stores)
kept_insert stores [] zero m gap = kept_head m.tenant stores m [] refl
kept_insert stores [] (suc i) m gap = absurd gap
kept_insert stores (x ∷ ms) zero m gap = kept_head m.tenant stores m (x ∷ ms) refl
kept_insert stores (x ∷ ms) (suc i) m gap = kept_rest m.tenant stores x (insert ms i m) (λ e. omega (arith, gap.0, e)) ∙ kept_insert stores ms i m gap.1

pub kept_insert_other : (u : ℕ) (stores : Stores TraceNote) (ms : List Pipeline) (i : ℕ) (m : Pipeline) → IsGapFor m.tenant ms i → m.tenant ≢ u → kept_of u (views stores (insert ms i m)) ≡ kept_of u (views stores ms)
kept_insert_other u stores [] zero m gap other = kept_rest u stores m [] other
kept_insert_other u stores [] (suc i) m gap other = absurd gap
kept_insert_other u stores (x ∷ ms) zero m gap other = kept_rest u stores m (x ∷ ms) other
kept_insert_other u stores (x ∷ ms) (suc i) m gap other = rest_same u stores x (insert ms i m) ms (kept_insert_other u stores ms i m gap.1 other)

pub whole_insert : (stores : Stores TraceNote) (es es' : List AgendaEntry) (ms : List Pipeline) (i : ℕ) (m : Pipeline) → IsWhole stores es ms → IsGapFor m.tenant ms i → PipelineInvariant m stores → IsSwept m →
    ready_of es' ≡ with_ready m.tenant (ready (state_in m stores)) (ready_of es) → ((u : ℕ) → is_member es' u ≡ (eqb m.tenant u || is_member es u)) → IsWhole stores es' (insert ms i m)
whole_insert stores es es' ms i m whole gap held swept at members = record {
  order = AreInOrder-insert ms i m gap whole.order;
  held = held_insert stores ms i m gap whole.held held;
  swept = swept_insert ms i m gap whole.swept swept;
  strangers = λ u none. elim (cases_eq m.tenant u) [
    | inl is ↦
        let some : kept_of u (views stores (insert ms i m)) ≡ Some (state_in m stores) = subst (λ (v : ℕ). kept_of v (views stores (insert ms i m)) ≡ Some (state_in m stores)) is (kept_insert stores ms i m gap) in
        absurd (cc)
    | inr other ↦ whole.strangers u (sym (kept_insert_other u stores ms i m gap other) ∙ none)
  ];
  listed = λ u. members u ∙ by_listed u (eqb m.tenant u) refl;
  ready = λ u. ap (λ (f : ℕ → Option ℕ). f u) at ∙ by_ready u (eqb u m.tenant) refl;
}
  where
    by_listed : (u : ℕ) (b : Bool) → eqb m.tenant u ≡ b → (b || is_member es u) ≡ is_some (kept_of u (views stores (insert ms i m)))
    by_listed u true e =
        let is : m.tenant ≡ u = grind (arith, nat_tests, e) in
        subst (λ (v : ℕ). true ≡ is_some (kept_of v (views stores (insert ms i m)))) is (sym (ap is_some (kept_insert stores ms i m gap)))
    by_listed u false e =
        let other : m.tenant ≢ u = λ is. absurd (grind (arith, nat_tests, e, is)) in
        whole.listed u ∙ ap is_some (sym (kept_insert_other u stores ms i m gap other))

    by_ready : (u : ℕ) (b : Bool) → eqb u m.tenant ≡ b → cond b (ready (state_in m stores)) (ready_of es u) ≡ ready_in (views stores (insert ms i m)) u
    by_ready u true e =
        let is : m.tenant ≡ u = grind (arith, nat_tests, e) in
        subst (λ (v : ℕ). ready (state_in m stores) ≡ ready_in (views stores (insert ms i m)) v) is (sym (ap (option_and_then ready) (kept_insert stores ms i m gap)))
    by_ready u false e =
        let other : m.tenant ≢ u = λ is. absurd (grind (arith, nat_tests, e, is)) in
        whole.ready u ∙ sym (ap (option_and_then ready) (kept_insert_other u stores ms i m gap other))

-- a member at its place goes
kept_gone : (t : ℕ) (stores : Stores TraceNote) (ms : List Pipeline) (i : ℕ) → IsPlaceOf t ms i → AreInOrder ms → kept_of t (views stores (remove ms i)) ≡ None
kept_gone t stores [] i p order = absurd p
kept_gone t stores (x ∷ ms) zero p order = not_above x.tenant t stores ms order.0 (omega (arith, p))
kept_gone t stores (x ∷ ms) (suc i) p order = kept_rest t stores x (remove ms i) p.0 ∙ kept_gone t stores ms i p.1 order.1

kept_removed : (t u : ℕ) (stores : Stores TraceNote) (ms : List Pipeline) (i : ℕ) → IsPlaceOf t ms i → u ≢ t → kept_of u (views stores (remove ms i)) ≡ kept_of u (views stores ms)
kept_removed t u stores [] i p other = absurd p
kept_removed t u stores (x ∷ ms) zero p other = sym (kept_rest u stores x ms (λ e. other (sym e ∙ p)))
kept_removed t u stores (x ∷ ms) (suc i) p other = rest_same u stores x (remove ms i) ms (kept_removed t u stores ms i p.1 other)

kept_left : (t u : ℕ) (old new : Stores TraceNote) (ms : List Pipeline) (i : ℕ) → IsPlaceOf t ms i → Others t old new → u ≢ t → kept_of u (views new (remove ms i)) ≡ kept_of u (views old ms)
kept_left t u old new ms i p others other = kept_removed t u new ms i p other ∙ kept_same u old new ms (others u other)

held_remove : (t : ℕ) (old new : Stores TraceNote) (ms : List Pipeline) (i : ℕ) → IsPlaceOf t ms i → Others t old new → AreInOrder ms → AllHeld old ms → AllHeld new (remove ms i)
held_remove t old new [] i p others order all = absurd p
held_remove t old new (x ∷ ms) zero p others order all = held_rest t x.tenant old new ms others order.0 (omega (arith, p)) all.1
held_remove t old new (x ∷ ms) (suc i) p others order all = (held_same old new x (others x.tenant p.0) all.0, held_remove t old new ms i p.1 others order.1 all.1)

swept_remove : (t : ℕ) (ms : List Pipeline) (i : ℕ) → IsPlaceOf t ms i → AllSwept ms → AllSwept (remove ms i)
swept_remove t [] i p all = absurd p
swept_remove t (x ∷ ms) zero p all = all.1
swept_remove t (x ∷ ms) (suc i) p all = (all.0, swept_remove t ms i p.1 all.1)

pub whole_remove : (t : ℕ) (old new : Stores TraceNote) (es es' : List AgendaEntry) (ms : List Pipeline) (i : ℕ) → IsWhole old es ms → IsPlaceOf t ms i → Others t old new → StoreInvariant no_rows [] [] (part t new) →
    ready_of es' ≡ with_ready t None (ready_of es) → ((u : ℕ) → is_member es' u ≡ (not (eqb t u) && is_member es u)) → IsWhole new es' (remove ms i)
whole_remove t old new es es' ms i whole p others none at members = record {
  order = AreInOrder-remove t ms i p whole.order;
  held = held_remove t old new ms i p others whole.order whole.held;
  swept = swept_remove t ms i p whole.swept;
  strangers = λ u missing. elim (cases_eq u t) [
    | inl is ↦ subst (λ (v : ℕ). StoreInvariant no_rows [] [] (part v new)) (sym is) none
    | inr other ↦
        let missing' : kept_of u (views old ms) ≡ None = sym (kept_left t u old new ms i p others other) ∙ missing in
        subst (λ (q : Part TraceNote). StoreInvariant no_rows [] [] q) (sym (others u other)) (whole.strangers u missing')
  ];
  listed = λ u. members u ∙ by_listed u (eqb t u) refl;
  ready = λ u. ap (λ (f : ℕ → Option ℕ). f u) at ∙ by_ready u (eqb u t) refl;
}
  where
    by_listed : (u : ℕ) (b : Bool) → eqb t u ≡ b → (not b && is_member es u) ≡ is_some (kept_of u (views new (remove ms i)))
    by_listed u true e =
        let is : t ≡ u = grind (arith, nat_tests, e) in
        subst (λ (v : ℕ). false ≡ is_some (kept_of v (views new (remove ms i)))) is (sym (ap is_some (kept_gone t new ms i p whole.order)))
    by_listed u false e =
        let other : u ≢ t = λ is. absurd (grind (arith, nat_tests, e, is)) in
        whole.listed u ∙ ap is_some (sym (kept_left t u old new ms i p others other))

    by_ready : (u : ℕ) (b : Bool) → eqb u t ≡ b → cond b None (ready_of es u) ≡ ready_in (views new (remove ms i)) u
    by_ready u true e =
        let is : u ≡ t = grind (arith, nat_tests, e) in
        subst (λ (v : ℕ). None ≡ ready_in (views new (remove ms i)) v) (sym is) (sym (ap (option_and_then ready) (kept_gone t new ms i p whole.order)))
    by_ready u false e =
        let other : u ≢ t = λ is. absurd (grind (arith, nat_tests, e, is)) in
        whole.ready u ∙ sym (ap (option_and_then ready) (kept_left t u old new ms i p others other))

-- what is kept of a member that has gone, and of the others
pub gone_is_none : (t : ℕ) (stores : Stores TraceNote) (ms : List Pipeline) (i : ℕ) → IsPlaceOf t ms i → AreInOrder ms → kept_of t (views stores (remove ms i)) ≡ None
gone_is_none t stores ms i p order = kept_gone t stores ms i p order

pub others_left : (t u : ℕ) (old new : Stores TraceNote) (ms : List Pipeline) (i : ℕ) → IsPlaceOf t ms i → Others t old new → u ≢ t → StaysOf u (views old ms) (views new (remove ms i))
others_left t u old new ms i p others other = stays u old new ms (remove ms i) (kept_left t u old new ms i p others other)
