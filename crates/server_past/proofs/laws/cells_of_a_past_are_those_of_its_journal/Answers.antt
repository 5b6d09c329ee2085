use Rattle.server_past.proofs.PastCells.{cells_continued}
use Rattle.server_past.proofs.laws.cells_of_a_past_are_those_of_its_journal.Goals as goal

pub returns : goal.returns
returns c = λ v h serves database size items count. cells_continued v h serves database size items count
