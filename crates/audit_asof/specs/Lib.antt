pub mod KeyOrder
pub mod Kept
pub mod Told
