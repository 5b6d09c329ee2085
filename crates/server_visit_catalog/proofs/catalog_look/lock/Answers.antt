use Rattle.server_visit_catalog.proofs.CatalogParts.{no_room}
use Rattle.server_visit_catalog.proofs.catalog_look.lock.Goals as goal

pub returns-in_err-reserve-clause-stopped : goal.returns-in_err-reserve-clause-stopped
returns-in_err-reserve-clause-stopped g c = no_room g.H.Hash32.digest c.args.running.now.context c.args.catalog.now c.args.mode c.from_residual.result c.from_residual.ensures.1
