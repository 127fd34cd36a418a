pub mod Cells
pub mod Escapes
pub mod CellValue
pub mod Body
pub mod Writing
pub mod Spots
pub mod Header
