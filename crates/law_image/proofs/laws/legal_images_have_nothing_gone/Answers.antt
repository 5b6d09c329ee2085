use Rattle.law_image.proofs.Images.{nothing_is_gone}
use Rattle.law_image.proofs.laws.legal_images_have_nothing_gone.Goals as goal

pub returns : goal.returns
returns c = nothing_is_gone
