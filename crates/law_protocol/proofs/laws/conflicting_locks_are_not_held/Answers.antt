use Rattle.law_protocol_steps.proofs.Locks.{no_conflict}
use Rattle.law_protocol.proofs.laws.conflicting_locks_are_not_held.Goals as goal

pub returns : goal.returns
returns c = λ v history cells seats st. no_conflict v cells seats st
