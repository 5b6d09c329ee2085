pub mod Accepts
pub mod WithPast
mod Closed
pub use Rattle.law_sequential.proofs.InSessionOrder
pub use Rattle.law_sequential.proofs.JournalKept
pub use Rattle.law_sequential.proofs.KeptImages
pub use Rattle.law_sequential.proofs.RanFirst
pub use Rattle.law_sequential.proofs.Reorders
pub use Rattle.law_sequential.proofs.SameNames
pub use Rattle.law_sequential.proofs.TheEnd
pub use Rattle.law_sequential.proofs.AtStart
pub use Rattle.law_sequential.proofs.Over
pub use Rattle.law_sequential.proofs.SessionOutput
