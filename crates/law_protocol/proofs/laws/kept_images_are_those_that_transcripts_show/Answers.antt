use Rattle.law_protocol.proofs.KeptImages.{have_images}
use Rattle.law_protocol.proofs.laws.kept_images_are_those_that_transcripts_show.Goals as goal

pub returns : goal.returns
returns c = λ v history cells seats st. have_images v history cells seats st
