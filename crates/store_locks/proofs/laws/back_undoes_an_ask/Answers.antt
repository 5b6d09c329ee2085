use Rattle.store_locks.proofs.Steps.{back_restores}
use Rattle.store_locks.proofs.laws.back_undoes_an_ask.Goals as goal

pub returns : goal.returns
returns c = back_restores
