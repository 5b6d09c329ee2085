use Rattle.std.proofs.lemmas.Result.{IfOk-weaker}
use Rattle.cli_words.proofs.Ranges.{view_range}
use Rattle.cli_words.proofs.command.read_command.Goals as goal

pub returns-clause-in_range : goal.returns-clause-in_range
returns-clause-in_range c = IfOk-weaker c.command_of.result _ _ (view_range _) c.command_of.ensures
