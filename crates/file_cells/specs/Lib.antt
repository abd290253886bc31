-- What contracts cite beside the definitions of `model`.
pub mod Parts
