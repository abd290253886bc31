-- What contracts of a page cite beside the definitions of `model`.
pub mod Cells
pub mod Prints
