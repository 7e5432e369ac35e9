use Rattle.std.proofs.Common.{◌≡◌, ◌∙◌, sym, subst, List, ◌++◌, ◌∷◌, []}
use Rattle.tenant_stores.specs.declared.undo.UndoEntry.{UndoEntry}
use Rattle.tenant_stores.specs.Part.{Part, part}
use Rattle.tenant_stores.specs.Trail.{Trail}
use Rattle.tenant_stores.proofs.Backs.{Trail_pop}
use Rattle.tenant_stores.proofs.stores.Stores.take_all_back.Goals as goal

pub loop-placed-preserved : goal.loop-placed-preserved
loop-placed-preserved g c =
    let now : Part g.row.N.Denot = part c.args.tenant c.loop-placed.self in
    let split : c.loop-placed.journal.items ≡ c.pop.new.self.items ++ c.in-Some.placed ∷ [] = c.in-Some.ensures.items in
    record {
      back = λ start whole.
          let led = subst (λ (xs : List (UndoEntry g.row.N.Denot)). Trail start xs now) split (c.loop-placed.invariant.back start whole) in
          let popped = Trail_pop start now c.pop.new.self.items c.in-Some.placed led in
          subst (λ (p : Part g.row.N.Denot). Trail start c.pop.new.self.items p) (sym (c.take_back.ensures.back popped.0 popped.2)) popped.1;
      others = λ other ne. c.take_back.ensures.others_unchanged other ne ∙ c.loop-placed.invariant.others other ne;
    }
