use Rattle.law_blocks.proofs.Staying.{blocks_counted}
use Rattle.law_blocks.proofs.Counting.{entries_counted, closed_counted}
use Rattle.law_blocks.proofs.laws.entries_and_blocks_are_counted.Goals as goal

pub returns : goal.returns
returns c = record { blocks = blocks_counted; entries = entries_counted; closed = closed_counted }
