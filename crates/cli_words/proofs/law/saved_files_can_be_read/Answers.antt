use Rattle.cli_words.proofs.Saved.{readable}
use Rattle.cli_words.proofs.law.saved_files_can_be_read.Goals as goal

pub returns : goal.returns
returns c = readable
