pub mod Counting
mod Digests
pub mod Roots
pub mod Staying
pub use Rattle.spec_history.proofs.Alls
pub use Rattle.spec_history.proofs.LeftRows
pub use Rattle.spec_history.proofs.SameKeys
pub use Rattle.spec_history.proofs.UndoneVersions
pub use Rattle.spec_ledger.proofs.Adding
