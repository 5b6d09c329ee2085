use Rattle.spec_verify.proofs.ToldBlocks.{chain_told, blocks_told}
use Rattle.spec_verify.proofs.sentences.the_first_wrong_block_is_named.Goals as goal

pub returns : goal.returns
returns c = record { chain = chain_told; entries = blocks_told }
