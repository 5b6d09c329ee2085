use Rattle.law_protocol_tables.proofs.AddIndex.{adds_index}
use Rattle.law_protocol_tables.proofs.table_visits.adding_an_index_keeps_standing.Goals as goal

pub returns : goal.returns
returns g = λ v history cells seats st i j s there c d t out w. adds_index v cells seats st j s there i c d t out w
