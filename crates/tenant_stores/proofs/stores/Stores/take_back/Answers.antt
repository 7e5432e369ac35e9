use Rattle.std.proofs.Common.{◌∙◌, sym, subst, refl, Some, None}
use Rattle.tenant_stores.specs.declared.undo.UndoEntry.{UndoEntry}
use Rattle.tenant_stores.specs.Part.{part}
use Rattle.tenant_stores.specs.Trail.{IsUndone}
use Rattle.tenant_stores.proofs.Parts.{part_by}
use Rattle.tenant_stores.proofs.Backs.{back_joined, back_opened, back_late}
use Rattle.tenant_stores.proofs.stores.Stores.take_back.Goals as goal

pub returns-in-Some-clause-back : goal.returns-in-Some-clause-back
returns-in-Some-clause-back g c = λ start placed.
    let h = subst (λ (x : UndoEntry g.row.N.Denot). IsUndone x start (part c.args.tenant c.args.self.now)) c.in-Joined.is placed in
    back_joined start (part c.args.tenant c.args.self.now) (part c.args.tenant (record c.args.self.now { rows = c.undo_join.new.self })) _ c.in-Joined.number c.in-Joined.former (Some c.in-Some.key) h c.in-Some.ensures.key refl refl c.in-Some.ensures.rows c.in-Some.ensures.latest_rows c.leave.ensures.own_part

pub returns-in-Some-clause-others_unchanged : goal.returns-in-Some-clause-others_unchanged
returns-in-Some-clause-others_unchanged g c = λ other ne.
    let same = c.in-Some.ensures.others_unchanged other ne in
    c.leave.ensures.others_unchanged other ne ∙ part_by _ _ _ _ _ _ _ _ refl refl same.rows same.latest_rows

pub returns-in_default-clause-back : goal.returns-in_default-clause-back
returns-in_default-clause-back g c = λ start placed.
    let h = subst (λ (x : UndoEntry g.row.N.Denot). IsUndone x start (part c.args.tenant c.args.self.now)) c.in-Joined.is placed in
    back_joined start (part c.args.tenant c.args.self.now) (part c.args.tenant (record c.args.self.now { rows = c.undo_join.new.self })) _ c.in-Joined.number c.in-Joined.former None h (sym c.in_default.is ∙ c.undo_join.ensures.key) refl refl c.undo_join.ensures.rows c.undo_join.ensures.latest_rows (record { spans = refl; texts = refl; rows = refl; latest_rows = refl })

pub returns-in_default-clause-others_unchanged : goal.returns-in_default-clause-others_unchanged
returns-in_default-clause-others_unchanged g c = λ other ne.
    let same = c.undo_join.ensures.others_unchanged other ne in
    part_by _ _ _ _ _ _ _ _ refl refl same.rows same.latest_rows

pub returns-in-Opened-clause-back : goal.returns-in-Opened-clause-back
returns-in-Opened-clause-back g c = λ start placed.
    let h = subst (λ (x : UndoEntry g.row.N.Denot). IsUndone x start (part c.args.tenant c.args.self.now)) c.in-Opened.is placed in
    back_opened start (part c.args.tenant c.args.self.now) (part c.args.tenant (record c.args.self.now { rows = c.undo_open.new.self })) _ c.in-Opened.number c.in-Opened.key c.in-Opened.earlier h refl refl c.undo_open.ensures.rows c.undo_open.ensures.latest_rows c.leave-in-Opened.ensures.own_part

pub returns-in-Opened-clause-others_unchanged : goal.returns-in-Opened-clause-others_unchanged
returns-in-Opened-clause-others_unchanged g c = λ other ne.
    let same = c.undo_open.ensures.others_unchanged other ne in
    c.leave-in-Opened.ensures.others_unchanged other ne ∙ part_by _ _ _ _ _ _ _ _ refl refl same.rows same.latest_rows

pub returns-in-Late-clause-back : goal.returns-in-Late-clause-back
returns-in-Late-clause-back g c = λ start placed.
    let h = subst (λ (x : UndoEntry g.row.N.Denot). IsUndone x start (part c.args.tenant c.args.self.now)) c.in-Late.is placed in
    back_late start (part c.args.tenant c.args.self.now) _ c.in-Late.key h c.leave-in-Late.ensures.own_part
