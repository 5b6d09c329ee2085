use Rattle.law_protocol_ledger.proofs.AloneStands.{alone_keeps}
use Rattle.law_protocol_ledger.proofs.seat_steps.steps_alone_keep_standing.Goals as goal

pub returns : goal.returns
returns g = λ v history cells seats st j s t there step. alone_keeps v cells seats st j s there t step
