-- What the questions of a table ask of it before they are asked.
pub mod Slices
