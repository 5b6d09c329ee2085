pub mod Asked
pub mod Index
pub mod Items
