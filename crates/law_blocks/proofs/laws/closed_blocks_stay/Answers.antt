use Rattle.spec_ledger.proofs.Adding.{more_extends}
use Rattle.law_blocks.proofs.Staying.{hash_stays}
use Rattle.law_blocks.proofs.laws.closed_blocks_stay.Goals as goal

pub returns : goal.returns
returns c = record {
  blocks = λ h reads J K. ((more_extends h reads J K).more_blocks, (more_extends h reads J K).blocks);
  entries = λ h reads J K. ((more_extends h reads J K).more_closed, (more_extends h reads J K).closed);
  hash = hash_stays;
}
