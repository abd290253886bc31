pub mod CellLaws
pub mod Loops
