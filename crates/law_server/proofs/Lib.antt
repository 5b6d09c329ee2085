pub mod CellsShow
pub mod Servers
