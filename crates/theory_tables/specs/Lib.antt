-- What contracts of helpers that see a table cite beside the definitions of `model`.
pub mod Tables
