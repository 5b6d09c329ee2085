use Rattle.spec_ledger.proofs.Parting.{parted, entries_by_size}
use Rattle.spec_ledger.proofs.laws.entries_fall_into_blocks.Goals as goal

pub returns : goal.returns
returns c = record {
  blocks = λ h reads J. (parted h reads J).closed;
  places = entries_by_size;
}
