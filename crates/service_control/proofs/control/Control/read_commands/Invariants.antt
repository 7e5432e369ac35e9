use Rattle.std.proofs.Common.{◌≡◌, length}
use Rattle.service_control.specs.Control.{standing_of}
use Rattle.service_control.proofs.Heard.{HeardSoFar}
use Rattle.service_control.proofs.control.Control.read_commands.Given as goal

abbrev pub invariant-lines : goal.invariant-lines
invariant-lines g l = record {
  hub : l.self.context.hub ≡ l.fn.self.context.hub;
  heard : HeardSoFar l.has_admin_port g.D.Documents.reads g.J.SettingsNaming.first (length l.fn.self.context.hub.now) (g.I.Read.remaining l.fn.input) (g.I.Read.remaining l.input)
      (standing_of l.fn.self l.fn.roster) l.fn.self.context.caller l.fn.self.beat.last (g.O.Write.contents l.fn.output, l.fn.lost)
      (standing_of l.self l.roster) l.self.context.caller l.self.beat.last (g.O.Write.contents l.output, l.lost);
}
