-- What contracts of the steps cite beside the definitions of `model`.
pub mod Steps
