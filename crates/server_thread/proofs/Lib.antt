mod Going
mod Moments
mod Over
mod Ready
mod Seating
mod Snapshots
mod StepsAhead
mod Telling
mod Visiting
pub use Rattle.server_board.proofs.Begins
