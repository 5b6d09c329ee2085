pub mod Blocks
pub mod Entries
pub mod Ledger
pub mod Parts
pub use Rattle.format_event.specs.Leaf
pub use Rattle.format_entry.specs.Entry
pub use Rattle.format_entry.specs.TreeHash
