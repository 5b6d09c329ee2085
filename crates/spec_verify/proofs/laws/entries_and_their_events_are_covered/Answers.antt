use Rattle.spec_verify.proofs.CoveredSo.{covered_exactly}
use Rattle.spec_verify.proofs.laws.entries_and_their_events_are_covered.Goals as goal

pub returns : goal.returns
returns c = covered_exactly
