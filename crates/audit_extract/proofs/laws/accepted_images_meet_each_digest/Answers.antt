use Rattle.audit_extract.proofs.Accepted.{accepted}
use Rattle.audit_extract.proofs.laws.accepted_images_meet_each_digest.Goals as goal

pub returns : goal.returns
returns c = accepted
