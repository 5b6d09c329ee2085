use Rattle.law_frame.proofs.SameChangeSet as laws
use Rattle.law_frame.proofs.agreement.agreeing_states_give_one_change_set.Goals as goal

pub returns : goal.returns
returns c = record { change_set = λ T U stmt ids a. laws.same_change_set T U ids stmt a; reply = laws.same_reply; counter = laws.same_counter }
