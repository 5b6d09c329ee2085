use Rattle.cli_words.proofs.Says.{accepted, spelled_words}
use Rattle.cli_words.proofs.law.words_law.Goals as goal

pub returns-clause-accepted : goal.returns-clause-accepted
returns-clause-accepted c = accepted

pub returns-clause-spelled : goal.returns-clause-spelled
returns-clause-spelled c = spelled_words
