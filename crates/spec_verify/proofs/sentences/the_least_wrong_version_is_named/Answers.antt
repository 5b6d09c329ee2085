use Rattle.spec_verify.proofs.ToldVersions.{versions_told}
use Rattle.spec_verify.proofs.sentences.the_least_wrong_version_is_named.Goals as goal

pub returns : goal.returns
returns c = versions_told
