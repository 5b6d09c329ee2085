pub mod InTable
pub mod TableStages
