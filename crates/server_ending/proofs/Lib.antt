pub mod Closings
mod Leavings
mod Ledgers
pub use Rattle.server_engine.proofs.ImagesOfCells
pub use Rattle.server_engine.proofs.SameNames
pub use Rattle.server_engine.proofs.SessionOutput
