use Rattle.spec_verify.proofs.ToldTables.{definitions_told}
use Rattle.spec_verify.proofs.sentences.the_least_wrong_definition_is_named.Goals as goal

pub returns : goal.returns
returns c = definitions_told
