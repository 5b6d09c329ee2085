use Rattle.store_ledger.proofs.Closings.{closings_are_legal}
use Rattle.store_ledger.proofs.laws.closings_keep_the_ledger_legal.Goals as goal

pub returns : goal.returns
returns c = closings_are_legal
