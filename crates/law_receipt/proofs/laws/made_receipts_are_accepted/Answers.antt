use Rattle.audit_receipt.proofs.Made.{made_accepted}
use Rattle.law_receipt.proofs.laws.made_receipts_are_accepted.Goals as goal

pub returns : goal.returns
returns c = λ h i d k e is chain blocks holds at le. made_accepted h i is chain blocks d k e holds at le
