use Rattle.otlp_read.proofs.Inside.{message_by_fields}
use Rattle.otlp_read.proofs.message.messages_inside.Goals as goal

pub returns : goal.returns
returns g c = message_by_fields g.M.Message.step
