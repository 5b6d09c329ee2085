pub mod AfterColumns
pub mod AsOfStart
