use Rattle.law_protocol_tables.proofs.GoingBack.{undoes_to}
use Rattle.law_protocol_tables.proofs.table_visits.undoing_keeps_standing.Goals as goal

pub returns : goal.returns
returns g = λ v history cells seats st i j s there c d t out w. undoes_to v cells seats st j s there i c d t out w
