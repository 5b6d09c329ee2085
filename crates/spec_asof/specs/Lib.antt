pub mod Answer
pub mod DatabaseAt
pub mod DefTold
