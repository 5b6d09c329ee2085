use Rattle.spec_verify.proofs.Judged.{of_two, of_two_spellings}
use Rattle.spec_verify.proofs.laws.spellings_of_one_image_have_one_verdict.Goals as goal

pub returns : goal.returns
returns c = record { read = of_two; spelled = of_two_spellings }
