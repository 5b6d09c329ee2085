pub mod AlonesKeep
mod Beginning
mod CommitAsked
mod Decides
mod DecidesSteps
mod AnonymousActsTell
mod AssignNoId
mod FollowsMore
pub mod FollowsSteps
mod FreeOrMet
mod HeldStatements
mod IdleOnes
pub mod JournalKept
pub mod KeepsRequested
pub mod KeptImages
mod LeastHolder
mod LedgerAsked
mod LedgerBase
pub mod OneAtATime
mod OneSeat
mod OthersHold
pub mod InSessionOrder
mod SeatNames
pub mod SinceFirst
mod StepOrderKept
pub mod StepsAlone
pub mod StepsKeep
pub use Rattle.law_protocol_ledger.proofs.JoinsStand
pub use Rattle.law_protocol_ledger.proofs.RanFirst
pub use Rattle.law_protocol_ledger.proofs.Reorders
pub use Rattle.law_protocol_ledger.proofs.TheEnd
pub use Rattle.law_protocol_ledger.proofs.Splits
pub use Rattle.law_protocol_steps.proofs.LedgerVisit
pub use Rattle.law_protocol_tables.proofs.KeepsAsked
