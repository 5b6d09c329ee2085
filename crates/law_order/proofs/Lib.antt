pub mod Counts
pub mod Holders
pub mod ImagesInOrder
mod InOrder
pub mod Parts
