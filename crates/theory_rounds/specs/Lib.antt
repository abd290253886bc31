-- What contracts of the settling functions cite beside the definitions of `model`.
pub mod Bounds
pub mod Search
