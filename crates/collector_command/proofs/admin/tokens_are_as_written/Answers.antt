use Rattle.collector_command.proofs.Tokens.{as_written}
use Rattle.collector_command.proofs.admin.tokens_are_as_written.Goals as goal

pub returns : goal.returns
returns c = as_written
