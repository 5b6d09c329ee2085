use Rattle.std.specs.Prelude.{length}
use Rattle.std.proofs.Common.{arith}
use Rattle.audit_paths.proofs.Members.{member}
use Rattle.audit_paths.proofs.laws.steps_lead_from_a_leaf_of_the_tree.Goals as goal

pub returns : goal.returns
returns c = λ h leaves leaf steps sized fit e. member h sized (length steps) leaf steps leaves (omega arith) fit e
