use Rattle.law_protocol_tables.proofs.StopsAtLock.{meets_in_table}
use Rattle.law_protocol_tables.proofs.table_visits.meeting_a_lock_in_a_table_keeps_standing.Goals as goal

pub returns : goal.returns
returns g = λ v history cells seats st asked i j s there c d t out w holder named same. meets_in_table v cells seats st asked j s there i c d t out w holder named same
