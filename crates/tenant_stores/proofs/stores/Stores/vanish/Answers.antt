use Rattle.std.proofs.Common.{◌≡◌, ◌<◌, ◌≤◌, ◌+◌, ◌∙◌, sym, subst, ap, refl, arith, ℕ, [], Bool, true, false, Option, None, eqb}
use Rattle.std.proofs.lemmas.Bool.Decides.{nat_tests}
use Rattle.trace_rows.specs.declared.table.Row.{Row}
use Rattle.trace_rows.specs.Part.{with_at}
use Rattle.tenant_stores.specs.Part.{part}
use Rattle.tenant_stores.specs.Counts.{all_left}
use Rattle.tenant_stores.specs.Invariant.{StoreInvariant}
use Rattle.tenant_stores.proofs.Sounds.{all_may_leave, none_is_left}
use Rattle.tenant_stores.proofs.stores.Stores.vanish.Goals as goal

-- the rows up to this one, once it has left too
one_less : {N : Type 0} (number last : ℕ) (rows : ℕ → Option (Row N)) → (number < last → rows number ≡ None) → number ≤ last → with_at last None rows number ≡ None
one_less number last rows before within = by_test (eqb number last) refl
  where
    by_test : (b : Bool) → eqb number last ≡ b → with_at last None rows number ≡ None
    by_test true e = grind (arith, nat_tests, e)
    by_test false e =
        let none : rows number ≡ None = before (grind (arith, nat_tests, e, within)) in
        grind (arith, nat_tests, e, none)

pub loop-before-init : goal.loop-before-init
loop-before-init g c = record {
  sound = λ n swept opened sound. subst (λ (k : ℕ). StoreInvariant (all_left k n) [] [] (part c.args.tenant c.args.self.now)) (sym swept) (all_may_leave (part c.args.tenant c.args.self.now) n sound);
  emptied = λ number above below. absurd (omega arith);
  others = λ other ne. refl;
}

pub loop-before-preserved : goal.loop-before-preserved
loop-before-preserved g c = record {
  sound = λ n swept opened sound. c.sweep.ensures.store_invariant (all_left c.loop-before.before n) [] [] refl (omega arith) (c.loop-before.invariant.sound n swept opened sound);
  emptied = λ number above below. ap (λ (rows : ℕ → Option (Row g.row.N.Denot)). rows number) c.sweep.ensures.own_part.rows ∙ one_less number (c.loop-before.before + 1) (part c.args.tenant c.loop-before.self).rows (λ before. c.loop-before.invariant.emptied number above (omega arith)) below;
  others = λ other ne. c.sweep.ensures.others_unchanged other ne ∙ c.loop-before.invariant.others other ne;
}

pub returns-clause-gone : goal.returns-clause-gone
returns-clause-gone g c = λ n swept opened sound.
    let all : c.loop-before.before ≡ n.opened = omega (arith, sound.order.swept, sound.order.first, sound.order.decided) in
    none_is_left (part c.args.tenant c.loop-before.self) n (subst (λ (k : ℕ). StoreInvariant (all_left k n) [] [] (part c.args.tenant c.loop-before.self)) all (c.loop-before.invariant.sound n swept opened sound))

pub returns-clause-others_unchanged : goal.returns-clause-others_unchanged
returns-clause-others_unchanged g c = c.loop-before.invariant.others

pub returns-clause-rows : goal.returns-clause-rows
returns-clause-rows g c = λ number above below. c.loop-before.invariant.emptied number above (omega arith)
