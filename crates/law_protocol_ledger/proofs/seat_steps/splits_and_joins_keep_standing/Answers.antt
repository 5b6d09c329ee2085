use Rattle.law_protocol_ledger.proofs.Splits.{splits_stand}
use Rattle.law_protocol_end.proofs.JoinsStand.{join_stands}
use Rattle.law_protocol_ledger.proofs.seat_steps.splits_and_joins_keep_standing.Goals as goal

pub returns : goal.returns
returns g = record {
  splits = λ v history cells seats j n s st there. splits_stand v cells seats j s n st there;
  joins = λ v history cells seats j k s t st there there_k apart rest. join_stands v cells seats st j k s t there there_k apart rest;
}
