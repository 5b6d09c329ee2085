use Rattle.spec_verify.proofs.AllTold.{yes_together}
use Rattle.spec_verify.proofs.sentences.yes_is_said_of_what_holds_together.Goals as goal

pub returns : goal.returns
returns c = yes_together
