use Rattle.spec_verify.proofs.ToldTables.{indexes_told}
use Rattle.spec_verify.proofs.sentences.the_first_wrong_index_is_named.Goals as goal

pub returns : goal.returns
returns c = indexes_told
