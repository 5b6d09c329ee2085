use Rattle.law_protocol_tables.proofs.ReleasesCatalogStand.{releases_catalog}
use Rattle.law_protocol_tables.proofs.catalog_visits.releasing_the_catalog_keeps_standing.Goals as goal

pub returns : goal.returns
returns g = λ v history cells seats st j s there c d t out w. releases_catalog v cells seats st j s there c d t out w
