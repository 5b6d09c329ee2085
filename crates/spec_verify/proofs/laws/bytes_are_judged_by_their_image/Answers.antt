use Rattle.spec_verify.proofs.Judged.{of_spelling, of_none}
use Rattle.spec_verify.proofs.laws.bytes_are_judged_by_their_image.Goals as goal

pub returns : goal.returns
returns c = record { image = of_spelling; none = of_none }
