use Rattle.law_frame.proofs.Beside.{beside}
use Rattle.law_frame.proofs.BesideOne.{beside_one}
use Rattle.law_frame.proofs.scripts.what_doesnt_clash_leaves_what_is_requested.Goals as goal

pub returns : goal.returns
returns c = record {
  script = λ reads T tx texts stmt explicit sound h. beside reads T tx texts sound stmt explicit h;
  alone = λ reads T tx text stmt explicit sound h. beside_one reads T tx text sound stmt explicit h;
}
