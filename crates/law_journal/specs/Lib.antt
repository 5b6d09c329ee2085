pub mod AppendOnly
pub mod Described
pub mod Fine
pub mod Fits
pub mod Kept
pub mod Serial
