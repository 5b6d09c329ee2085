-- What contracts see of any cell.
use Rattle.server_visits.specs.declared.cell.Kind.{Kind}
use Rattle.server_visits.specs.declared.cell.Kind.TheVariants as kind
use Rattle.server_session.specs.KeptCell.{KeptCell, catalog_seen, rows_seen}
use Rattle.server_visit_ledger.specs.LedgerSeen.{ledger_seen}

abbrev pub cell_seen : Kind → KeptCell
cell_seen (kind.Catalog c) = catalog_seen c
cell_seen (kind.Ledger c) = ledger_seen c
cell_seen (kind.Rows c) = rows_seen c
