-- The numbers of the tenants that have gone, behind the members.
use Rattle.std.proofs.Common.{◌≡◌, ◌≢◌, ℕ, zero, suc, ◌+◌, ◌≤◌, ◌<◌, List, [], ◌∷◌, ◌++◌, length, get_or, map, refl, sym, subst, ap, ◌∙◌, arith, Bool, true, false, eqb, cond, Option, None, Result, Ok, Err, inl, inr, ◌⊎◌}
use Rattle.std.proofs.lemmas.Bool.{cases_eq}
use Rattle.std.proofs.lemmas.Bool.Decides.{nat_tests}
use Rattle.std.proofs.lemmas.List.Edits.{length-insert, length-remove}
use Rattle.std.proofs.lemmas.List.Folds.{list_any_at}
use Rattle.std.proofs.lemmas.List.Sorted.{searched, IsNonDecreasingBy-insert, IsPermutation-insert, list_any-IsPermutation}
use Rattle.std.specs.Prelude.{◌||◌, option_and_then, IfSome}
use Rattle.std.specs.List.{insert, remove}
use Rattle.std.specs.List.Sorted.{IsNonDecreasing, IsBinarySearchResult}
use Rattle.std.specs.Ordering.{nat_cmp}
use Rattle.std.specs.Result.{MatchResult, is_ok}
use Rattle.shard_agenda.specs.declared.AgendaEntry.{AgendaEntry}
use Rattle.shard_agenda.specs.Agenda.{ready_of}
use Rattle.tail_policy.specs.declared.note.TraceNote.{TraceNote}
use Rattle.tenant_stores.specs.declared.stores.Stores.{Stores}
use Rattle.tenant_rules.specs.State.{State}
use Rattle.tenant_rules.specs.Ready.{ready}
use Rattle.tenant_rules.specs.Limits.{IsWithinLimits}
use Rattle.tenant_rules.specs.Sum.{IsCounted}
use Rattle.tenant_pipeline.specs.declared.pipeline.Pipeline.{Pipeline}
use Rattle.tenant_shard.specs.View.{View, kept_of, was_of, StaysOf}
use Rattle.tenant_shard.specs.Members.{views, gone_view, all_views, is_gone}
use Rattle.tenant_shard.specs.Steps.{IsChangeOf, IsAdditionOf, IsDepartureOf}
use Rattle.tenant_shard.specs.Whole.{IsWhole, AreGone, AllCounted, AllWithin}
use Rattle.tenant_shard.specs.Pick.{ready_in}
use Rattle.tenant_shard.proofs.Frame.{all_counted, all_within}
use Rattle.tail_settings.specs.Section.{SectionData}

-- numbers of tenants that have gone change nothing of what is kept, and were members
none_kept : (t : ℕ) (gs : List ℕ) → kept_of t (map gone_view gs) ≡ None
none_kept t [] = refl
none_kept t (g ∷ gs) = by_test (eqb g t) (none_kept t gs)
  where
    by_test : (b : Bool) → kept_of t (map gone_view gs) ≡ None → cond b None (kept_of t (map gone_view gs)) ≡ None
    by_test true rest = refl
    by_test false rest = rest

all_were : (t : ℕ) (gs : List ℕ) → was_of t (map gone_view gs) ≡ is_gone t gs
all_were t [] = refl
all_were t (g ∷ gs) = rw (all_were t gs) refl

pub kept_behind : (t : ℕ) (vs : List View) (gs : List ℕ) → kept_of t (vs ++ map gone_view gs) ≡ kept_of t vs
kept_behind t [] gs = none_kept t gs
kept_behind t (v ∷ vs) gs = rw (kept_behind t vs gs) refl

or_assoc : (a b c : Bool) → (a || (b || c)) ≡ ((a || b) || c)
or_assoc true b c = refl
or_assoc false b c = refl

pub was_behind : (t : ℕ) (vs : List View) (gs : List ℕ) → was_of t (vs ++ map gone_view gs) ≡ (was_of t vs || is_gone t gs)
was_behind t [] gs = all_were t gs
was_behind t (v ∷ vs) gs = rw (was_behind t vs gs) (or_assoc (eqb v.tenant t) (was_of t vs) (is_gone t gs))

or_true : (b : Bool) → (b || true) ≡ true
or_true true = refl
or_true false = refl

-- who is or was a member, by both
pub was_front : (t : ℕ) (vs : List View) (gs : List ℕ) → was_of t vs ≡ true → was_of t (vs ++ map gone_view gs) ≡ true
was_front t vs gs is = was_behind t vs gs ∙ ap (λ b. b || is_gone t gs) is

pub was_end : (t : ℕ) (vs : List View) (gs : List ℕ) → is_gone t gs ≡ true → was_of t (vs ++ map gone_view gs) ≡ true
was_end t vs gs is = was_behind t vs gs ∙ (ap (λ b. was_of t vs || b) is ∙ or_true (was_of t vs))

pub was_neither : (t : ℕ) (vs : List View) (gs : List ℕ) → was_of t vs ≡ false → is_gone t gs ≡ false → was_of t (vs ++ map gone_view gs) ≡ false
was_neither t vs gs front end = was_behind t vs gs ∙ (ap (λ b. b || is_gone t gs) front ∙ end)

pub stays_behind : (u : ℕ) (vs ws : List View) (gs : List ℕ) → StaysOf u vs ws → StaysOf u (vs ++ map gone_view gs) (ws ++ map gone_view gs)
stays_behind u vs ws gs same = (
  kept_behind u ws gs ∙ (same.0 ∙ sym (kept_behind u vs gs)),
  was_behind u ws gs ∙ (ap (λ b. b || is_gone u gs) same.1 ∙ sym (was_behind u vs gs)),
)

-- what changes of a member changes behind it too
pub change_behind : (t : ℕ) (before after : State) (kept : Option State) (vs ws : List View) (gs : List ℕ) → IsChangeOf t before after kept vs ws → IsChangeOf t before after kept (vs ++ map gone_view gs) (ws ++ map gone_view gs)
change_behind t before after kept vs ws gs change = record {
  was = kept_behind t vs gs ∙ change.was;
  is_now = kept_behind t ws gs ∙ change.is_now;
  section = change.section;
  was_now = was_behind t ws gs ∙ ap (λ b. b || is_gone t gs) change.was_now;
  others = λ other ne. stays_behind other vs ws gs (change.others other ne);
}

pub addition_behind : (t : ℕ) (section : SectionData) (vs ws : List View) (gs : List ℕ) → IsAdditionOf t section vs ws → IsAdditionOf t section (vs ++ map gone_view gs) (ws ++ map gone_view gs)
addition_behind t section vs ws gs added = record {
  is_now = kept_behind t ws gs ∙ added.is_now;
  was_now = was_behind t ws gs ∙ ap (λ b. b || is_gone t gs) added.was_now;
  others = λ other ne. stays_behind other vs ws gs (added.others other ne);
}

-- when each tenant is ready
pub ready_all : (stores : Stores TraceNote) (es : List AgendaEntry) (ms : List Pipeline) (gs : List ℕ) → IsWhole stores es ms → (t : ℕ) → ready_of es t ≡ ready_in (views stores ms ++ map gone_view gs) t
ready_all stores es ms gs whole t = whole.ready t ∙ ap (option_and_then ready) (sym (kept_behind t (views stores ms) gs))

-- each member's spans are counted once
pub counted_all : (stores : Stores TraceNote) (es : List AgendaEntry) (ms : List Pipeline) (gs : List ℕ) → IsWhole stores es ms → AllCounted (all_views stores ms gs)
counted_all stores es ms gs whole = λ t. subst (λ (o : Option State). IfSome o IsCounted) (sym (kept_behind t (views stores ms) gs)) (all_counted stores es ms whole t)

-- and each member is within its limits
pub within_all : (stores : Stores TraceNote) (es : List AgendaEntry) (ms : List Pipeline) (gs : List ℕ) → IsWhole stores es ms → AllWithin (all_views stores ms gs)
within_all stores es ms gs whole = λ t. subst (λ (o : Option State). IfSome o IsWithinLimits) (sym (kept_behind t (views stores ms) gs)) (all_within stores es ms whole t)

-- one number more
is_gone-insert : (u t : ℕ) (gs : List ℕ) (i : ℕ) → is_gone u (insert gs i t) ≡ (eqb t u || is_gone u gs)
is_gone-insert u t gs i = sym (list_any-IsPermutation (λ g. eqb g u) (t ∷ gs) (insert gs i t) (IsPermutation-insert gs i t))

pub departure : (t : ℕ) (vs ws : List View) (gs : List ℕ) (i : ℕ) → kept_of t ws ≡ None → ((u : ℕ) → u ≢ t → StaysOf u vs ws) → IsDepartureOf t (vs ++ map gone_view gs) (ws ++ map gone_view (insert gs i t))
departure t vs ws gs i none others = record {
  is_now = kept_behind t ws (insert gs i t) ∙ none;
  was_now = was_behind t ws (insert gs i t) ∙ (ap (λ b. was_of t ws || b) own ∙ or_true (was_of t ws));
  others = λ u ne. (
    kept_behind u ws (insert gs i t) ∙ ((others u ne).0 ∙ sym (kept_behind u vs gs)),
    was_behind u ws (insert gs i t) ∙ (ap (λ b. was_of u ws || b) (apart u ne) ∙ (ap (λ b. b || is_gone u gs) (others u ne).1 ∙ sym (was_behind u vs gs))),
  );
}
  where
    own : is_gone t (insert gs i t) ≡ true
    own = let test : eqb t t ≡ true = grind (arith, nat_tests) in is_gone-insert t t gs i ∙ ap (λ b. b || is_gone t gs) test

    apart : (u : ℕ) → u ≢ t → is_gone u (insert gs i t) ≡ is_gone u gs
    apart u ne = let test : eqb t u ≡ false = grind (arith, nat_tests) in is_gone-insert u t gs i ∙ ap (λ b. b || is_gone u gs) test

-- what a search finds among rising numbers
not_among : (t : ℕ) (gs : List ℕ) → ((k : ℕ) → k < length gs → get_or gs k 0 ≢ t) → is_gone t gs ≡ false
not_among t [] none = refl
not_among t (g ∷ gs) none =
    let here : eqb g t ≡ false = let apart : g ≢ t = none 0 (omega arith) in grind (arith, nat_tests) in
    rw here (not_among t gs (λ k lt. none (suc k) (omega (arith, lt))))

abbrev pub Finds : ℕ → List ℕ → Result ℕ ℕ → Type 0
Finds t gs r = MatchResult r (λ i. is_gone t gs ≡ true) (λ i. (i ≤ length gs) × (is_gone t gs ≡ false) × ((k : ℕ) (d : ℕ) → k < i → get_or gs k d ≤ t) × ((k : ℕ) (d : ℕ) → i ≤ k → k < length gs → t ≤ get_or gs k d))

default_same : (gs : List ℕ) (k d e : ℕ) → k < length gs → get_or gs k d ≡ get_or gs k e
default_same [] k d e within = absurd (omega arith)
default_same (g ∷ gs) zero d e within = refl
default_same (g ∷ gs) (suc k) d e within = default_same gs k d e (omega (arith, within))

pub finds : (t : ℕ) (gs : List ℕ) (r : Result ℕ ℕ) → IsNonDecreasing gs → IsBinarySearchResult (λ y. nat_cmp y t) gs r → Finds t gs r
finds t gs r rise position = by_result r (searched gs t r position (λ i j le lt. rise i j 0 le lt))
  where
    by_result : (r : Result ℕ ℕ) → MatchResult r (λ i. (i < length gs) × (get_or gs i 0 ≡ t)) (λ i. (i ≤ length gs) × ((k : ℕ) → k < i → get_or gs k 0 < t) × ((k : ℕ) → i ≤ k → k < length gs → t < get_or gs k 0)) → Finds t gs r
    by_result (Ok i) found = let test : eqb (get_or gs i 0) t ≡ true = let same = found.1 in grind (arith, nat_tests) in list_any_at (λ g. eqb g t) gs i 0 found.0 test
    by_result (Err i) gap = (
      gap.0,
      not_among t gs (λ k lt same. elim (cases_lt k i) [ inl below ↦ omega (arith, gap.1 k below, same) | inr above ↦ omega (arith, gap.2 k above lt, same) ]),
      (λ k d below. let at = gap.1 k below in let e = default_same gs k d 0 (omega (arith, below, gap.0)) in omega (arith, at, e)),
      (λ k d above lt. let at = gap.2 k above lt in let e = default_same gs k d 0 lt in omega (arith, at, e)),
    )
      where
        cases_lt : (a b : ℕ) → (a < b) ⊎ (b ≤ a)
        cases_lt a b = grind arith

pub found_ok : (t : ℕ) (gs : List ℕ) (r : Result ℕ ℕ) → Finds t gs r → is_ok r ≡ true → is_gone t gs ≡ true
found_ok t gs (Ok i) found is = found
found_ok t gs (Err i) found is = absurd (cc)

pub found_err : (t : ℕ) (gs : List ℕ) (r : Result ℕ ℕ) → Finds t gs r → is_ok r ≡ false → is_gone t gs ≡ false
found_err t gs (Ok i) found is = absurd (cc)
found_err t gs (Err i) found is = found.1

-- what always holds of the numbers goes on to hold
pub gone_stays : (old new : Stores TraceNote) (ms ns : List Pipeline) (gs : List ℕ) (room room' : ℕ) (t : ℕ) → AreGone old ms gs room → kept_of t (views old ms) ≢ None → ((u : ℕ) → u ≢ t → kept_of u (views new ns) ≡ kept_of u (views old ms)) → length ns ≡ length ms → room ≤ room' → AreGone new ns gs room'
gone_stays old new ms ns gs room room' t are there others count more = record {
  rise = are.rise;
  apart = λ u is. elim (cases_eq u t) [
    | inl same ↦ absurd (there (ap (λ v. kept_of v (views old ms)) (sym same) ∙ are.apart u is))
    | inr other ↦ others u other ∙ are.apart u is
  ];
  has_room = omega (arith, are.has_room, count, more);
}

pub gone_with_one : (stores : Stores TraceNote) (ms ns : List Pipeline) (gs : List ℕ) (room : ℕ) (t : ℕ) → IsNonDecreasing gs → ((u : ℕ) → is_gone u gs ≡ true → kept_of u (views stores ms) ≡ None) → is_gone t gs ≡ false →
    ((u : ℕ) → u ≢ t → kept_of u (views stores ns) ≡ kept_of u (views stores ms)) → length gs + length ns ≤ room → AreGone stores ns gs room
gone_with_one stores ms ns gs room t rise apart is_new others has_room = record {
  rise = rise;
  apart = λ u is. elim (cases_eq u t) [
    | inl same ↦ absurd (let known : is_gone u gs ≡ false = ap (λ v. is_gone v gs) same ∙ is_new in cc)
    | inr other ↦ others u other ∙ apart u is
  ];
  has_room = has_room;
}

pub gone_one_more : (old new : Stores TraceNote) (ms : List Pipeline) (i : ℕ) (gs : List ℕ) (at room room' t : ℕ) → AreGone old ms gs room → i < length ms → at ≤ length gs → ((k d : ℕ) → k < at → get_or gs k d ≤ t) → ((k d : ℕ) → at ≤ k → k < length gs → t ≤ get_or gs k d) →
    kept_of t (views new (remove ms i)) ≡ None → ((u : ℕ) → u ≢ t → kept_of u (views new (remove ms i)) ≡ kept_of u (views old ms)) → room ≤ room' → AreGone new (remove ms i) (insert gs at t) room'
gone_one_more old new ms i gs at room room' t are within at_within below above none others more = record {
  rise = IsNonDecreasingBy-insert (λ x. x) gs at t are.rise at_within below above;
  apart = λ u is. elim (cases_eq u t) [
    | inl same ↦ ap (λ v. kept_of v (views new (remove ms i))) same ∙ none
    | inr other ↦
        let test : eqb t u ≡ false = grind (arith, nat_tests) in
        let was : is_gone u gs ≡ true = sym (is_gone-insert u t gs at ∙ ap (λ b. b || is_gone u gs) test) ∙ is in
        others u other ∙ are.apart u was
  ];
  has_room = omega (arith, are.has_room, length-insert gs at t at_within, length-remove ms i within, more);
}
