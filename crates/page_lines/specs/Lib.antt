-- What contracts of the lines cite beside the definitions of `model`.
pub mod Lent
