pub mod AnswerLemmas
pub mod AsOfLemmas
pub mod CallLemmas
mod CheckLemmas
pub mod ExtractLemmas
mod FilesLemmas
mod GetLemmas
pub mod PastLemmas
mod ReceiptLemmas
pub mod ReplayLemmas
mod TransferLemmas
mod UpgradeLemmas
mod VerifyLemmas
