use Rattle.spec_verify.proofs.Worked as worked
use Rattle.spec_verify.proofs.samples.an_honest_image_holds.Goals as goal

pub returns : goal.returns
returns c = record {
  image = worked.honest_image;
  verdict = worked.holds.0;
  two_blocks = worked.holds.1;
  pending = worked.holds.2;
  falling = worked.holds.3;
}
