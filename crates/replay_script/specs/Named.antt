-- The command that a value of the code stands for. This project's own rule.
use Rattle.send_retry.specs.Class.{answer_view}
use Rattle.replay_script.specs.declared.command.Command.{Command}
use Rattle.replay_script.specs.declared.command.Command.TheVariants as variants
use Rattle.replay_script.specs.Command.{CommandData}
use Rattle.replay_script.specs.Command as data_of

-- names and bodies as lists of bytes
abbrev pub command_view : Command → CommandData
command_view (variants.Post name moment body) = data_of.Post name.now moment body.items
command_view (variants.Turn shard moment) = data_of.Turn shard moment
command_view (variants.Answer name moment ticket word answer) =
    data_of.Answer name.now moment ticket word (answer_view answer)
command_view (variants.Report name moment) = data_of.Report name.now moment
command_view (variants.Drain name moment) = data_of.Drain name.now moment
command_view (variants.Add document) = data_of.Add document.items
command_view (variants.Retire name moment) = data_of.Retire name.now moment
