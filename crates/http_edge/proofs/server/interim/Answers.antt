use Rattle.std.proofs.Common.{◌≡◌, if◌then◌else◌, [], rules}
use Rattle.http_edge.specs.Reply.{continue_text}
use Rattle.http_edge.proofs.server.interim.Goals.{then-due, else-due}
use Rattle.http_edge.proofs.server.interim.Goals as goal

pub returns-clause-on_success : goal.returns-clause-on_success
returns-clause-on_success g c =
    let is : c.if-due.text.now ≡ (if c.args.due then continue_text else []) = elim c.if-due.branch [
      | then-due w ↦ let due = w.if-due.true in let text = w.text-is in search rules
      | else-due w ↦ let due = w.if-due.false in let text = w.text-is in search rules
    ] in
    rw is at c.send.ensures.on_success
