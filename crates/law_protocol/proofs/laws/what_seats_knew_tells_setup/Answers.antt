use Rattle.law_protocol_ledger.proofs.RanFirst.{ran_first}
use Rattle.law_protocol.proofs.laws.what_seats_knew_tells_setup.Goals as goal

pub returns : goal.returns
returns c = λ v history cells seats s rest input X written names u x there known. ran_first v history cells seats s rest input X written names u x there known
