pub mod AloneStands
mod Begins
mod CatalogLocks
pub mod CommitCreates
mod CommitRows
mod CommitsHistory
pub mod CommitsStand
mod CommittedMore
mod CreatedTables
mod EndsHistory
mod Entries
pub mod KeepsStand
mod KnownMore
mod KnownTurns
mod Overs
pub mod QuietOnes
pub mod ReadsStand
pub mod Splits
mod StepsBack
mod StepsChecked
mod StepsEnd
mod StepsRole
mod StepsTake
mod Visited
pub use Rattle.law_protocol_changes.proofs.CreateVisits
pub use Rattle.law_protocol_changes.proofs.DigestsStand
pub use Rattle.law_protocol_end.proofs.BegunNames
pub use Rattle.law_protocol_end.proofs.GoneFree
pub use Rattle.law_protocol_end.proofs.JoinsStand
pub use Rattle.law_protocol_end.proofs.NoneWanting
pub use Rattle.law_protocol_end.proofs.RanFirst
pub use Rattle.law_protocol_end.proofs.Reorders
pub use Rattle.law_protocol_end.proofs.TheEnd
