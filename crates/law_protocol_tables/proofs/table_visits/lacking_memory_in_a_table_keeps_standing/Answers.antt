use Rattle.law_protocol_tables.proofs.StopsForMemory.{stops_in_table}
use Rattle.law_protocol_tables.proofs.table_visits.lacking_memory_in_a_table_keeps_standing.Goals as goal

pub returns : goal.returns
returns g = λ v history cells seats st i j s there c d t out w short same. stops_in_table v cells seats st j s there i c d t out w short same
