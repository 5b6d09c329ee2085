use Rattle.audit_extract.proofs.EachDigest.{one_history_of_bytes}
use Rattle.audit_extract.proofs.laws.accepted_bytes_have_one_history_or_a_collision.Goals as goal

pub returns : goal.returns
returns c = one_history_of_bytes c.equal_leaves_are_of_equal_events.ensures.equal
