use Rattle.law_frame.proofs.ChangeSets.{carries_change_set_out}
use Rattle.law_frame.proofs.agreement.effects_are_change_sets_carried_out.Goals as goal

pub returns : goal.returns
returns c = carries_change_set_out
