use Rattle.audit_extract.proofs.EachDigest.{earlier}
use Rattle.audit_extract.proofs.laws.later_digests_cover_more.Goals as goal

pub returns : goal.returns
returns c = earlier
