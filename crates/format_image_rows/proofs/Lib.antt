mod Filled
mod Joined
mod Orders
mod UserDefs
pub use Rattle.law_image.proofs.Entries
