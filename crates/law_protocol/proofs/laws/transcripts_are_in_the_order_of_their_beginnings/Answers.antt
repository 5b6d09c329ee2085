use Rattle.law_protocol_ledger.proofs.BegunNames.{in_order}
use Rattle.law_protocol.proofs.laws.transcripts_are_in_the_order_of_their_beginnings.Goals as goal

pub returns : goal.returns
returns c = λ v history cells seats st turn input X written. in_order v cells seats st turn input X written
