use Rattle.spec_verify.proofs.CoveredSo.{same_covered, behind_not_covered}
use Rattle.spec_verify.proofs.laws.only_blocks_up_to_its_own_are_covered.Goals as goal

pub returns : goal.returns
returns c = record { same = same_covered; behind = behind_not_covered }
