use Rattle.law_frame.proofs.SameAlone.{alone_replies, alone_counter, alone_changes, alone_agree, alone_catalog}
use Rattle.law_frame.proofs.scripts.statements_alone_over_agreeing_states_are_one.Goals as goal

pub returns : goal.returns
returns c = record {
  replies = λ reads T U tx text s t a. alone_replies T U tx s t reads text a;
  counter = λ reads T U tx text s t a. alone_counter T U tx s t reads text a;
  changes = λ reads T U tx text s t a. alone_changes T U tx s t reads text a;
  agree = λ reads T U tx text stmt more s t e k a h. alone_agree T U tx s t reads text more h stmt e k a;
  catalog = λ reads T U tx text stmt s t e k a. alone_catalog T U tx s t reads text stmt e k a;
}
