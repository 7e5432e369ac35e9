use Rattle.std.proofs.Common.{◌≡◌, ◌++◌, map}
use Rattle.otlp_trace.specs.Text.{repeated}
use Rattle.otlp_trace.proofs.Dropped.{repeated_from}
use Rattle.otlp_trace.proofs.write.embedded.put_each.Given as goal

abbrev pub invariant-messages : goal.invariant-messages
invariant-messages g l = l.out.items ++ repeated_from l.number g.M.Message.text g.M.Message.view l.message-index l.messages ≡ l.fn.out.items ++ repeated l.number g.M.Message.text (map g.M.Message.view l.messages)
