use Rattle.std.proofs.Common.{◌≡◌, ◌∙◌, ap, Some, None, option_map}
use Rattle.send_retry.specs.Delay.{state_view}
use Rattle.send_queue.specs.declared.active.Active.{Active}
use Rattle.send_queue.specs.Sender.{ActiveData, under, replaced}
use Rattle.send_queue.specs.View.{active_view, actives_view}
use Rattle.send_queue.proofs.Entries.{under_view, replaced_view}
use Rattle.send_queue.proofs.actives.Actives.set_waiting.Goals as goal

pub returns-in_default-clause-waiting : goal.returns-in_default-clause-waiting
returns-in_default-clause-waiting c = λ a h.
    let t = c.args.ticket in
    let none : None ≡ under t c.args.self.now = ap (option_map {T = Active} {U = ActiveData} (λ a. active_view (t, a))) c.in_default.ensures.value ∙ (under_view t c.self.inside.entries.entries ∙ ap (under t) c.self.view_is) in
    absurd (cc)

pub returns-clause-waiting : goal.returns-clause-waiting
returns-clause-waiting c = λ a h.
    let t = c.args.ticket in
    let es = c.self.inside.entries.entries in
    let row : Active = c.in-Some.active.now in
    let changed : Active = record row { retry = c.args.retry; due = Some c.args.due } in
    let there : Some (active_view (t, row)) ≡ Some a = ap (option_map {T = Active} {U = ActiveData} (λ a. active_view (t, a))) c.in-Some.ensures.value ∙ (under_view t es ∙ (ap (under t) c.self.view_is ∙ h)) in
    let is : active_view (t, row) ≡ a = cc in
    let written = c.get_mut.follows.holds changed in
    ap actives_view written.0
    ∙ (replaced_view t es changed
    ∙ (ap (replaced t (active_view (t, changed))) c.self.view_is
    ∙ ap (λ (x : ActiveData). replaced t (record x { retry = state_view c.args.retry; due = Some c.args.due }) c.args.self.now) is))

pub returns-clause-none : goal.returns-clause-none
returns-clause-none c = λ none.
    let t = c.args.ticket in
    let es = c.self.inside.entries.entries in
    let there : Some (active_view (t, c.in-Some.active.now)) ≡ under t c.args.self.now = ap (option_map {T = Active} {U = ActiveData} (λ a. active_view (t, a))) c.in-Some.ensures.value ∙ (under_view t es ∙ ap (under t) c.self.view_is) in
    absurd (cc)
