use Rattle.law_receipt.proofs.Agreeing.{agrees_with_image}
use Rattle.law_receipt.proofs.laws.accepted_receipts_agree_with_images.Goals as goal

pub returns : goal.returns
returns c = λ h r i d sized fr x is chain blocks holds. agrees_with_image h sized i is chain blocks r d fr x holds
