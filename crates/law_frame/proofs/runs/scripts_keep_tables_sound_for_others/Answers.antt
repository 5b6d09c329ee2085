use Rattle.law_frame.proofs.OtherTransactions.{others_sound}
use Rattle.law_frame.proofs.runs.scripts_keep_tables_sound_for_others.Goals as goal

pub returns : goal.returns
returns c = λ reads explicit T tx other n texts differs h k. others_sound tx other n differs reads explicit T texts h k
