use Rattle.law_image.proofs.Defs.{def_is}
use Rattle.law_image.proofs.laws.encoded_definitions_are_encodable.Goals as goal

pub returns : goal.returns
returns c = def_is
