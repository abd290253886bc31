-- What the inner contracts cite beside the definitions of `model`.
pub mod Comparing
