pub mod CellSeen
pub mod Full
pub mod Images
pub use Rattle.server_visit_ledger.specs.LedgerSeen
pub use Rattle.store_image.specs.Room
pub use Rattle.server_visit_catalog.specs.Definitions
pub use Rattle.server_visit_catalog.specs.GoingOn
pub use Rattle.store_image.specs.HashedCell
