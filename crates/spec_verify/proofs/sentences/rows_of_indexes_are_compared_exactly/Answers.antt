use Rattle.spec_verify.proofs.SameRows.{exact_index}
use Rattle.spec_verify.proofs.sentences.rows_of_indexes_are_compared_exactly.Goals as goal

pub returns : goal.returns
returns c = exact_index
