use Rattle.law_receipt.proofs.Agreeing.{receipts_agree}
use Rattle.law_receipt.proofs.laws.accepted_receipts_of_one_place_are_one.Goals as goal

pub returns : goal.returns
returns c = λ h a b d sized fa fb x y block ordinal. receipts_agree h sized a b d fa fb x y block ordinal
