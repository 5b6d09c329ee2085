pub mod Begins
pub mod Unchanged
pub use Rattle.law_sequential.proofs.AlonesKeep
