use Rattle.server_past.proofs.Starting.{starts}
use Rattle.server_past.proofs.laws.runs_start_behind_a_past.Goals as goal

pub returns : goal.returns
returns c = starts c.runs_start.ensures.with_a_journal c.there_are_words.ensures
