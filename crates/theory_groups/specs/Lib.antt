-- What contracts of helpers that merge sectors cite beside the definitions of `model`.
pub mod Groups
