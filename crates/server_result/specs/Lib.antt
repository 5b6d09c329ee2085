pub mod Images
pub mod Joined
pub mod Moments
