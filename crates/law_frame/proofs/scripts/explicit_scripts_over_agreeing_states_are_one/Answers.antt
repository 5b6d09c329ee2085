use Rattle.law_frame.proofs.SameScripts.{same_replies, same_end, same_script_changes, still_agree}
use Rattle.law_frame.proofs.scripts.explicit_scripts_over_agreeing_states_are_one.Goals as goal

pub returns : goal.returns
returns c = record {
  replies = λ reads T U tx texts more s t h. same_replies reads T U tx texts more s t h;
  counter = λ reads T U tx texts more s t h. same_end reads T U tx texts more s t h;
  changes = λ reads T U tx texts more s t h. same_script_changes reads T U tx texts more s t h;
  agree = λ reads T U tx texts more s t h. still_agree reads T U tx texts more s t h;
}
