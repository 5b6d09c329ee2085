mod FirstStand
mod Halves
mod Issued
mod Leaves
mod Named
mod Readers
mod Sizes
mod Together
mod WholeRun
pub use Rattle.server_ending.proofs.SessionOutput
