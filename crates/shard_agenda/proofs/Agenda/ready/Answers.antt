use Rattle.std.proofs.Common.{◌≡◌, ◌<◌, ◌∙◌, ap, sym, arith, length, is_some, false, List, Some, None}
use Rattle.std.proofs.lemmas.Option.{slice_get_within, get_or_from_slice_get}
use Rattle.shard_agenda.specs.declared.AgendaEntry.{AgendaEntry}
use Rattle.shard_agenda.specs.Agenda.{is_member, place, ready_of}
use Rattle.shard_agenda.proofs.Places.{is_member-place, place_at}
use Rattle.shard_agenda.proofs.Leaving.{no_moment}
use Rattle.shard_agenda.proofs.Order.{ready_of-at}
use Rattle.shard_agenda.proofs.Agenda.ready.Goals as goal

pub returns-in_err-at : goal.returns-in_err-at
returns-in_err-at c =
    let t = c.args.tenant in
    let es : List AgendaEntry = c.self.inside.entries.items in
    let nowhere : place t es ≡ None = sym (c.self.invariant.placed t) ∙ sym c.in_err-at.ensures.value in
    let none : is_member es t ≡ false = is_member-place t es ∙ ap is_some nowhere in
    c.from_residual.ensures ∙ (sym (no_moment es t none) ∙ ap (λ (l : List AgendaEntry). ready_of l t) c.self.view_is)

pub index-requires : goal.index-requires
index-requires c =
    let t = c.args.tenant in
    let es : List AgendaEntry = c.self.inside.entries.items in
    let at = c.in_ok-at.field-0.now in
    let found : place t es ≡ Some at = sym (c.self.invariant.placed t) ∙ sym c.in_ok-at.ensures.value in
    let there = place_at t es at found in
    let within : at < length es = slice_get_within es at there.0 there.1 in
    omega (arith, within, c.self.inside.entries.ok.0)

pub returns : goal.returns
returns c =
    let t = c.args.tenant in
    let es : List AgendaEntry = c.self.inside.entries.items in
    let at = c.in_ok-at.field-0.now in
    let found : place t es ≡ Some at = sym (c.self.invariant.placed t) ∙ sym c.in_ok-at.ensures.value in
    let there = place_at t es at found in
    let entry : c.index.result.now ≡ there.0 = c.index.ensures ∙ get_or_from_slice_get es at there.0 c.index.result.now there.1 in
    let moment : ready_of es t ≡ there.0.ready = ap (ready_of es) (sym there.2) ∙ ready_of-at es at there.0 c.self.invariant.apart there.1 in
    ap (λ (e : AgendaEntry). e.ready) entry ∙ (sym moment ∙ ap (λ (l : List AgendaEntry). ready_of l t) c.self.view_is)
