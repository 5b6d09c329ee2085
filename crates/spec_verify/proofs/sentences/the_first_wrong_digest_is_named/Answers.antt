use Rattle.spec_verify.proofs.ToldBlocks.{digests_told}
use Rattle.spec_verify.proofs.sentences.the_first_wrong_digest_is_named.Goals as goal

pub returns : goal.returns
returns c = digests_told
