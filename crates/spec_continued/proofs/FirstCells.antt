-- A journal without items leads to the first cells.
use Rattle.std.proofs.Common.{◌≡◌, ℕ, [], refl}
use Rattle.spec_protocol.specs.Lists.{Text}
use Rattle.spec_protocol.specs.Ledger.{ledger_from}
use Rattle.spec_model.specs.Journals.{serial_from}
use Rattle.spec_model.specs.SystemTables.{first_tables}
use Rattle.spec_protocol.specs.Cells.{first_cells}
use Rattle.spec_protocol.specs.Server.{Server}
use Rattle.spec_continued.specs.Continued.{continued_cells}

pub first_are : (v : Server) (database : Text) (size : ℕ) → continued_cells v database size [] 0 ≡ first_cells database size
unfolding serial_from ledger_from first_tables
first_are v database size = refl
