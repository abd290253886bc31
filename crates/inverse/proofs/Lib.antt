-- That an inverse is ready for its ratios.
pub mod Ready
