use Rattle.law_image.proofs.Images.{image_is}
use Rattle.law_image.proofs.laws.legal_images_are_encodable.Goals as goal

pub returns : goal.returns
returns c = λ h reads database items gives legal room. image_is reads gives items legal h database room
