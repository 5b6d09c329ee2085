use Rattle.sql_reference.proofs.Agreed.{agreeing_there, agreeing_back}
use Rattle.sql_reference.proofs.laws.run_agrees_with_legal_items.Goals as goal

pub returns : goal.returns
returns c = record { there = agreeing_there; back = agreeing_back }
