pub mod Known
pub mod Leads
pub use Rattle.format_image_rows.specs.Room
pub use Rattle.law_server.specs.CellsImage
pub use Rattle.store_ledger.specs.HashedCell
