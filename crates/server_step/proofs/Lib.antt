mod Comes
mod Ends
mod Joins
mod Named
mod Nexts
mod NoPast
mod OneList
mod Places
mod Steps
mod Whole
pub use Rattle.law_kept_images.proofs.SessionOutput
