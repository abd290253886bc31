-- What the contracts cite beside the definitions of `model` and those of the sums.
pub mod Advance
