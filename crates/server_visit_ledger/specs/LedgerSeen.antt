-- The ledger's cell among cells.
use Rattle.server_session.specs.Cells.{Ledger}
use Rattle.store_ledger.specs.HashedCell.{HashedCell}
use Rattle.server_session.specs.KeptCell.{KeptCell}

abbrev pub ledger_seen : HashedCell → KeptCell
ledger_seen c = record { cell = Ledger c.cell; hash = c.hash }
