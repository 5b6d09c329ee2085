use Rattle.law_protocol_tables.proofs.StopsAtLock.{meets_in_catalog}
use Rattle.law_protocol_tables.proofs.catalog_visits.meeting_a_lock_in_the_catalog_keeps_standing.Goals as goal

pub returns : goal.returns
returns g = λ v history cells seats st asked j s there c d t out w holder named same. meets_in_catalog v cells seats st asked j s there c d t out w holder named same
