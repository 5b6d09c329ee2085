mod AnswerLemmas
mod CallLemmas
mod GoesOnLemmas
mod SavedLemmas
mod StartLemmas
mod TopLemmas
mod ReportLemmas
pub use Rattle.cli_audit.proofs.ExtractLemmas
pub use Rattle.cli_audit.proofs.ReplayLemmas
