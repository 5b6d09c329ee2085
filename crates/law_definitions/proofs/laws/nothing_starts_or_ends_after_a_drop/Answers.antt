use Rattle.spec_verify.proofs.AllTold.{yes_together}
use Rattle.law_definitions.proofs.AfterDrop.{nothing_after}
use Rattle.law_definitions.proofs.laws.nothing_starts_or_ends_after_a_drop.Goals as goal

pub returns : goal.returns
returns c = λ h i digests yes. nothing_after i h digests ((yes_together h i digests).0 yes)
