use Rattle.std.proofs.Common.{◌≡◌, ◌≢◌, ◌<◌, ◌∙◌, ◌==◌, ◌&&◌, ap, sym, subst, arith, length, length-set, set, take, drop, not, false, is_some, if◌then◌else◌, List, [], ◌∷◌, ◌++◌, ℕ, Some, None}
use Rattle.std.proofs.Math.Path.{fun_ext}
use Rattle.std.proofs.Math.Seq.{take-append_seam}
use Rattle.std.proofs.lemmas.Option.{slice_get_within}
use Rattle.std.specs.Prelude.{slice_get}
use Rattle.std.specs.Ordering.{nat_cmp}
use Rattle.std.specs.BTreeMap as tree
use Rattle.shard_agenda.specs.declared.AgendaEntry.{AgendaEntry}
use Rattle.shard_agenda.specs.Agenda.{is_member, ready_of, place, with_ready, AreApart}
use Rattle.shard_agenda.specs.Firsts.{IsRight, IsRightBut}
use Rattle.shard_agenda.proofs.Places.{is_member-place}
use Rattle.shard_agenda.proofs.Tree.{right_set}
use Rattle.shard_agenda.proofs.Leaving.{others_are_apart, members_without_last, ready_without_last, placed_without_last, apart_moved, members_moved, ready_moved, placed_moved, is_last, is_before_last, last_stays, members_none, ready_none, ready_unchanged}
use Rattle.shard_agenda.proofs.Agenda.dismiss.Goals as goal
use Rattle.shard_agenda.proofs.Agenda.dismiss.Goals.{In_default, In-Some-pop, Then-at-count, Else-at-count}

-- ---- who is no member

none : (c : In_default) → is_member c.self.inside.entries.items c.args.tenant ≡ false
none c =
    let t = c.args.tenant in
    let es : List AgendaEntry = c.self.inside.entries.items in
    is_member-place t es ∙ ap is_some (sym (c.self.invariant.placed t) ∙ (sym c.remove.ensures.value ∙ c.in_default.is))

pub returns-in_default-clause-members : goal.returns-in_default-clause-members
returns-in_default-clause-members c = λ other.
    let t = c.args.tenant in
    members_none c.self.inside.entries.items t (none (goal.at.returns-in_default-clause-members c).In_default) other
    ∙ ap (λ (l : List AgendaEntry). not (t == other) && is_member l other) c.self.view_is

pub returns-in_default-clause-ready : goal.returns-in_default-clause-ready
returns-in_default-clause-ready c =
    let t = c.args.tenant in
    fun_ext (ready_unchanged c.self.inside.entries.items t (none (goal.at.returns-in_default-clause-ready c).In_default))
    ∙ ap (λ (l : List AgendaEntry). with_ready t None (ready_of l)) c.self.view_is

-- ---- the last entry, and the others

pub unreachable-requires : goal.unreachable-requires
unreachable-requires c =
    let t = c.args.tenant in
    let es : List AgendaEntry = c.self.inside.entries.items in
    let there : place t es ≡ Some c.in-Some.at = sym (c.self.invariant.placed t) ∙ (sym c.remove.ensures.value ∙ c.in-Some.is) in
    let nowhere : place t es ≡ None = ap (place t) c.in_default-pop.ensures.empty in
    cc

items : (c : In-Some-pop) → c.self.inside.entries.items ≡ c.pop.new.entries.items ++ c.in-Some-pop.last ∷ []
items c = c.in-Some-pop.ensures.entries

apart : (c : In-Some-pop) → AreApart (c.pop.new.entries.items ++ c.in-Some-pop.last ∷ [])
apart c = subst AreApart (items c) c.self.invariant.apart

placed : (c : In-Some-pop) (u : ℕ) → tree.get nat_cmp c.self.inside.places u ≡ place u (c.pop.new.entries.items ++ c.in-Some-pop.last ∷ [])
placed c u = c.self.invariant.placed u ∙ ap (place u) (items c)

found : (c : In-Some-pop) → place c.args.tenant (c.pop.new.entries.items ++ c.in-Some-pop.last ∷ []) ≡ Some c.in-Some.at
found c = sym (placed c c.args.tenant) ∙ (sym c.remove.ensures.value ∙ c.in-Some.is)

viewed : (c : In-Some-pop) → c.pop.new.entries.items ++ c.in-Some-pop.last ∷ [] ≡ c.args.self.now
viewed c = sym (items c) ∙ c.self.view_is

-- ---- the last goes

last_goes : (c : Then-at-count) → c.in-Some-pop.last.tenant ≡ c.args.tenant
last_goes c =
    let c' = (goal.at.invariant_of-self-then-at-count c).In-Some-pop in
    let xs : List AgendaEntry = c.pop.new.entries.items in
    let l : AgendaEntry = c.in-Some-pop.last in
    let at : c.in-Some.at ≡ length xs = omega (arith, c.if-at-count.true, c.len-count.ensures, c.pop.new.entries.ok.0) in
    is_last l xs (apart c') c.self.inside.places (placed c') c.args.tenant (found c' ∙ ap (λ (n : ℕ). Some n) at)

pub invariant_of-self-then-at-count : goal.invariant_of-self-then-at-count
invariant_of-self-then-at-count c =
    let c' = (goal.at.invariant_of-self-then-at-count c).In-Some-pop in
    let old = c.self.inside.places in
    let new = c.remove.new.self in
    let xs : List AgendaEntry = c.pop.new.entries.items in
    let l : AgendaEntry = c.in-Some-pop.last in
    record {
      apart = others_are_apart l l xs (apart c');
      even = c.pop.ensures.even;
      right = c.pop.ensures.right;
      placed = placed_without_last l xs (apart c') old (placed c') new (subst (λ (t : ℕ). tree.Updates nat_cmp old new t None) (sym (last_goes c)) c.remove.ensures.updates);
    }

pub returns-then-at-count-clause-members : goal.returns-then-at-count-clause-members
returns-then-at-count-clause-members c = λ other.
    let c' = (goal.at.returns-then-at-count-clause-members c).In-Some-pop in
    let xs : List AgendaEntry = c.pop.new.entries.items in
    let l : AgendaEntry = c.in-Some-pop.last in
    members_without_last l xs (apart c') other
    ∙ (ap (λ (t : ℕ). not (t == other) && is_member (xs ++ l ∷ []) other) (last_goes c) ∙ ap (λ (es : List AgendaEntry). not (c.args.tenant == other) && is_member es other) (viewed c'))

pub returns-then-at-count-clause-ready : goal.returns-then-at-count-clause-ready
returns-then-at-count-clause-ready c = fun_ext (λ other.
    let c' = (goal.at.returns-then-at-count-clause-ready c).In-Some-pop in
    let xs : List AgendaEntry = c.pop.new.entries.items in
    let l : AgendaEntry = c.in-Some-pop.last in
    ready_without_last l xs (apart c') other
    ∙ (ap (λ (t : ℕ). if t == other then None else ready_of (xs ++ l ∷ []) other) (last_goes c)
    ∙ (ap (λ (es : List AgendaEntry). if c.args.tenant == other then None else ready_of es other) (viewed c') ∙ ready_none c.args.tenant (ready_of c.args.self.now) other)))

-- ---- the last takes the place of the one that goes

between : (c : Else-at-count) → c.in-Some.at ≢ length c.pop.new.entries.items
between c = λ same. c.if-at-count.false (omega (arith, same, c.len-count.ensures, c.pop.new.entries.ok.0))

goes : (c : In-Some-pop) → c.in-Some.at ≢ length c.pop.new.entries.items → (x : AgendaEntry) × (slice_get c.pop.new.entries.items c.in-Some.at ≡ Some x) × (x.tenant ≡ c.args.tenant)
goes c other = is_before_last c.in-Some-pop.last c.pop.new.entries.items (apart c) c.self.inside.places (placed c) c.args.tenant c.in-Some.at (found c) other

pub unreachable-requires-in_default-insert : goal.unreachable-requires-in_default-insert
unreachable-requires-in_default-insert c =
    let c' = (goal.at.unreachable-requires-in_default-insert c).In-Some-pop in
    let other = between (goal.at.unreachable-requires-in_default-insert c).Else-at-count in
    last_stays c.in-Some-pop.last c.pop.new.entries.items (apart c') c.self.inside.places (placed c') c.args.tenant c.in-Some.at (found c') other c.remove.new.self c.remove.ensures.updates c.in_default-insert.ensures.absent

pub index_mut-requires : goal.index_mut-requires
index_mut-requires c =
    let there = goes (goal.at.index_mut-requires c).In-Some-pop (between (goal.at.index_mut-requires c).Else-at-count) in
    let within : c.in-Some.at < length c.pop.new.entries.items = slice_get_within c.pop.new.entries.items c.in-Some.at there.0 there.1 in
    omega (arith, within, c.pop.new.entries.ok.0)

pub mend-requires-clause-within : goal.mend-requires-clause-within
mend-requires-clause-within c =
    let xs : List AgendaEntry = c.pop.new.entries.items in
    let at = c.in-Some.at in
    let l : AgendaEntry = c.in-Some-pop.last in
    let there = goes (goal.at.mend-requires-clause-within c).In-Some-pop (between (goal.at.mend-requires-clause-within c).Else-at-count) in
    let within : at < length xs = slice_get_within xs at there.0 there.1 in
    let xs' : c.deref.result.now ≡ set xs at l = c.deref.ensures.value in
    omega (arith, within, ap length xs', length-set xs at l)

pub mend-requires-clause-right : goal.mend-requires-clause-right
mend-requires-clause-right c =
    let xs : List AgendaEntry = c.pop.new.entries.items in
    let fs : List AgendaEntry = c.pop.new.firsts.items in
    let at = c.in-Some.at in
    let l : AgendaEntry = c.in-Some-pop.last in
    let xs' : c.deref.result.now ≡ set xs at l = c.deref.ensures.value in
    let fs' : c.deref_mut.result.now ≡ fs = c.deref_mut.ensures.value in
    let right : IsRightBut at (set xs at l) fs = right_set xs fs at l c.pop.ensures.right in
    subst (λ (es : List AgendaEntry). IsRightBut at es c.deref_mut.result.now) (sym xs') (subst (λ (es : List AgendaEntry). IsRightBut at (set xs at l) es) (sym fs') right)

pub invariant_of-self-2 : goal.invariant_of-self-2
invariant_of-self-2 c =
    let c' = (goal.at.invariant_of-self-2 c).In-Some-pop in
    let xs : List AgendaEntry = c.pop.new.entries.items in
    let at = c.in-Some.at in
    let l : AgendaEntry = c.in-Some-pop.last in
    let there = goes c' (between (goal.at.invariant_of-self-2 c).Else-at-count) in
    let old = c.self.inside.places in
    let middle = c.remove.new.self in
    let leaves = subst (λ (t : ℕ). tree.Updates nat_cmp old middle t None) (sym there.2) c.remove.ensures.updates in
    let fs' : c.deref_mut.result.now ≡ c.pop.new.firsts.items = c.deref_mut.ensures.value in
    let kept : length c.mend.new.firsts ≡ length c.deref_mut.result.now = omega arith in
    let len : c.pop.new.firsts.len ≡ length c.mend.new.firsts = omega (arith, c.deref_mut.ensures.len, kept) in
    let rest : List AgendaEntry = drop (length c.mend.new.firsts) c.pop.new.firsts.items in
    let whole : take c.pop.new.firsts.len (c.mend.new.firsts ++ rest) ≡ c.mend.new.firsts = ap (λ (n : ℕ). take n (c.mend.new.firsts ++ rest)) len ∙ take-append_seam c.mend.new.firsts rest in
    let right : IsRight (set xs at l) c.mend.new.firsts = subst (λ (es : List AgendaEntry). IsRight es c.mend.new.firsts) c.deref.ensures.value c.mend.ensures in
    rw whole (record {
      apart = apart_moved l xs (apart c') there.0 at there.1;
      even = kept ∙ (ap length fs' ∙ (c.pop.ensures.even ∙ sym (length-set xs at l)));
      right = right;
      placed = placed_moved l xs (apart c') old (placed c') there.0 at there.1 middle c.insert.new.self leaves c.in-Ok.ensures.updates;
    })

pub returns-clause-members : goal.returns-clause-members
returns-clause-members c = λ other.
    let c' = (goal.at.returns-clause-members c).In-Some-pop in
    let xs : List AgendaEntry = c.pop.new.entries.items in
    let l : AgendaEntry = c.in-Some-pop.last in
    let there = goes c' (between (goal.at.returns-clause-members c).Else-at-count) in
    members_moved l xs (apart c') there.0 c.in-Some.at there.1 other
    ∙ (ap (λ (t : ℕ). not (t == other) && is_member (xs ++ l ∷ []) other) there.2 ∙ ap (λ (es : List AgendaEntry). not (c.args.tenant == other) && is_member es other) (viewed c'))

pub returns-clause-ready : goal.returns-clause-ready
returns-clause-ready c = fun_ext (λ other.
    let c' = (goal.at.returns-clause-ready c).In-Some-pop in
    let xs : List AgendaEntry = c.pop.new.entries.items in
    let l : AgendaEntry = c.in-Some-pop.last in
    let there = goes c' (between (goal.at.returns-clause-ready c).Else-at-count) in
    ready_moved l xs (apart c') there.0 c.in-Some.at there.1 other
    ∙ (ap (λ (t : ℕ). if t == other then None else ready_of (xs ++ l ∷ []) other) there.2
    ∙ (ap (λ (es : List AgendaEntry). if c.args.tenant == other then None else ready_of es other) (viewed c') ∙ ready_none c.args.tenant (ready_of c.args.self.now) other)))
