-- What contracts of the figures cite beside the definitions of `model`.
pub mod Stages
