use Rattle.std.proofs.Common.{◌≡◌, ◌∙◌, refl, ap, sym, List, Some}
use Rattle.std.specs.Prelude.{slice_get}
use Rattle.shard_agenda.specs.declared.AgendaEntry.{AgendaEntry}
use Rattle.shard_agenda.proofs.Order.{next_at}
use Rattle.shard_agenda.proofs.Agenda.next.Goals as goal

pub returns : goal.returns
returns c =
    let x = c.in_ok-first.first.now in
    let first : slice_get c.self.inside.firsts.items 0 ≡ Some x = sym (ap (λ (l : List AgendaEntry). slice_get l 0) c.deref.ensures.value) ∙ sym c.in_ok-first.ensures.value in
    rw (← c.self.view_is) (next_at c.self.inside.entries.items c.self.inside.firsts.items c.self.invariant.right x first c.self.invariant.apart x.ready refl)
