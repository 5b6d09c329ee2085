use Rattle.law_protocol_ledger.proofs.TheEnd.{input, X, are_written, agrees_then}
use Rattle.law_protocol.proofs.laws.transcripts_agree_at_the_end.Goals as goal

pub returns : goal.returns
returns c = λ v history cells seats s rest. (input v history cells seats s rest, X v history cells seats s rest, are_written v history cells seats s rest, agrees_then v history cells seats s rest)
