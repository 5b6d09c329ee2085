use Rattle.law_protocol_tables.proofs.StopsForMemory.{stops_in_catalog}
use Rattle.law_protocol_tables.proofs.catalog_visits.lacking_memory_in_the_catalog_keeps_standing.Goals as goal

pub returns : goal.returns
returns g = λ v history cells seats st j s there c d t out w short same. stops_in_catalog v cells seats st j s there c d t out w short same
