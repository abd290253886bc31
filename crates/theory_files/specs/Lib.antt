-- What contracts of the reader's functions cite beside the definitions of `model`.
pub mod Files
