pub mod Each
mod Forms
pub mod Joins
pub mod Kept
pub mod LegalTimes
pub mod Made
