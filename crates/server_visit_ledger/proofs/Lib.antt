mod Ledger
mod LedgerAssigns
mod LedgerCommits
mod LedgerEnds
mod LedgerEntries
mod LedgerIssues
pub use Rattle.law_protocol_steps.proofs.CellsOut
