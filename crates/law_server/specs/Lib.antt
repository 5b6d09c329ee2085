pub mod CellsImage
