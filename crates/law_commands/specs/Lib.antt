pub mod Calls
pub mod Exhibits
pub mod Runs
