mod Found
mod Kept
mod Known
mod Encoded
pub use Rattle.law_server.proofs.CellsShow
pub use Rattle.law_server.proofs.Servers
