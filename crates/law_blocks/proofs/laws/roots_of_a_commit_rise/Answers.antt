use Rattle.law_blocks.proofs.Roots.{last_rises}
use Rattle.law_blocks.proofs.laws.roots_of_a_commit_rise.Goals as goal

pub returns : goal.returns
returns c = λ h reads J id time session explicit lines legal. last_rises reads h J id time session explicit lines legal
