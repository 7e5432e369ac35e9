use Rattle.std.proofs.Common.{refl, ◌∙◌}
use Rattle.service_control.proofs.Heard.{heard_none, heard_more, heard_all}
use Rattle.service_control.proofs.control.Control.read_commands.Goals as goal

pub lines-init : goal.lines-init
lines-init g c = record { hub = refl; heard = heard_none _ _ _ _ _ _ _ _ _ }

pub lines-preserved : goal.lines-preserved
lines-preserved g c =
    let before = c.lines.invariant in
    let answered = c.run_command.ensures in
    record {
      hub = answered.hub ∙ before.hub;
      heard = heard_more _ _ _ _ _ _ _ _ _ _ _ _ _ _ _ _ _ _ _ c.next_line.new.line.items before.heard
          (rw c.if-not-branch.false at c.in_ok-next_line.ensures)
          (rw (before.hub, c.as_slice-text.ensures.value) at answered.answered);
    }

pub returns-then-not-branch-clause-commands_read : goal.returns-then-not-branch-clause-commands_read
returns-then-not-branch-clause-commands_read g c =
    heard_all _ _ _ _ _ _ _ _ _ _ (g.I.Read.remaining c.next_line.new.input) _ _ _ _ c.next_line.new.line.items c.lines.invariant.heard
    (rw c.if-not-branch.true at c.in_ok-next_line.ensures)
