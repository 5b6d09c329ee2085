use Rattle.law_protocol_steps.proofs.ActedFor.{by_any}
use Rattle.law_protocol_changes.proofs.CreateVisits.{alters_table}
use Rattle.law_protocol_tables.proofs.catalog_visits.altering_a_table_keeps_standing.Goals as goal

pub returns : goal.returns
returns g = λ v history cells seats st j s there c d t out w. by_any (alters_table v cells seats st j s there c d t out w)
