use Rattle.audit_chain.proofs.Continuing.{each_holds}
use Rattle.audit_chain.proofs.laws.newest_digests_tell_all_histories.Goals as goal

pub returns : goal.returns
returns c = λ h chain newest older digests i fc x is linked blocks holds among. each_holds h i is linked blocks chain newest older digests fc x holds among
