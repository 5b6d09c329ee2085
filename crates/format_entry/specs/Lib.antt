pub mod Entry
pub mod EntryReading
pub mod Record
pub use Rattle.base_merkle.specs.TreeHash
