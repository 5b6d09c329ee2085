use Rattle.law_protocol_tables.proofs.GivesBackStand.{gives_back}
use Rattle.law_protocol_tables.proofs.catalog_visits.giving_back_keeps_standing.Goals as goal

pub returns : goal.returns
returns g = λ v history cells seats st j s there c d t out w. gives_back v cells seats st j s there c d t out w
