pub mod InCatalog
pub use Rattle.store_catalog.specs.Definitions
pub use Rattle.store_catalog.specs.GoingOn
