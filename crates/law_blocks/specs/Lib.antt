pub mod Digests
pub use Rattle.spec_ledger.specs.Entries
pub use Rattle.spec_ledger.specs.Ledger
pub use Rattle.spec_ledger.specs.Leaf
pub use Rattle.spec_ledger.specs.Entry
pub use Rattle.spec_ledger.specs.TreeHash
pub use Rattle.spec_history.specs.Journals
