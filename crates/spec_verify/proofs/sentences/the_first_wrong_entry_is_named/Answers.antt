use Rattle.spec_verify.proofs.ToldEntries.{entries_told}
use Rattle.spec_verify.proofs.sentences.the_first_wrong_entry_is_named.Goals as goal

pub returns : goal.returns
returns c = entries_told
