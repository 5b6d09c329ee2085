use Rattle.spec_continued.proofs.FirstCells.{first_are}
use Rattle.spec_continued.proofs.laws.no_journal_leads_to_the_first_cells.Goals as goal

pub returns : goal.returns
returns c = λ v database size. first_are v database size
