use Rattle.law_asof.proofs.Later.{cut_stays, upto_stays}
use Rattle.law_asof.proofs.laws.later_transactions_leave_what_earlier_ones_made.Goals as goal

pub returns : goal.returns
returns c = record { items = cut_stays; transactions = upto_stays }
