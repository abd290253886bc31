-- Worked decimals.
pub mod Examples
