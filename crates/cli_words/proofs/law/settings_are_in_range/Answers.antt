use Rattle.cli_words.proofs.Ranges.{command_range}
use Rattle.cli_words.proofs.law.settings_are_in_range.Goals as goal

pub returns : goal.returns
returns c = command_range
