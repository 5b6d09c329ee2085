pub mod AtStart
mod Begins
mod Calm
mod ClosedBefore
mod Closes
mod Ends
mod FirstRuns
pub mod Goes
pub mod GoesBehind
mod InFront
mod LedgerInStep
pub mod Over
pub mod SameNames
pub mod SeatOn
pub mod SeatOnBehind
pub mod SessionsStand
pub mod SessionsStandBehind
mod SinceStart
mod Texts
pub mod SessionOutput
mod VisitInStep
pub use Rattle.law_protocol.proofs.JournalKept
pub use Rattle.law_protocol.proofs.KeptImages
pub use Rattle.law_protocol.proofs.InSessionOrder
pub use Rattle.law_protocol.proofs.RanFirst
pub use Rattle.law_protocol.proofs.Reorders
pub use Rattle.law_protocol.proofs.StepsAlone
pub use Rattle.law_protocol.proofs.TheEnd
pub use Rattle.law_protocol.proofs.AlonesKeep
pub use Rattle.law_protocol.proofs.JoinsStand
pub use Rattle.law_protocol.proofs.KeepsAsked
pub use Rattle.law_protocol.proofs.KeepsRequested
pub use Rattle.law_protocol.proofs.Splits
pub use Rattle.law_protocol.proofs.StepsKeep
pub use Rattle.law_moments.proofs.Steps
