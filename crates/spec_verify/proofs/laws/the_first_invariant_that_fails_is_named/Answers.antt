use Rattle.spec_verify.proofs.AllHold.{yes_exactly}
use Rattle.spec_verify.proofs.InOrder.{digests_first, chain_first, blocks_first, ids_first, entries_first, versions_first, definitions_first, indexes_first}
use Rattle.spec_verify.proofs.laws.the_first_invariant_that_fails_is_named.Goals as goal

pub returns : goal.returns
returns c = record {
  digests = digests_first;
  chain = chain_first;
  blocks = blocks_first;
  ids = ids_first;
  entries = entries_first;
  versions = versions_first;
  definitions = definitions_first;
  indexes = indexes_first;
  none = λ h i digests all. (yes_exactly h i digests).1 all;
}
