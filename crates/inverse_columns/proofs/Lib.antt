-- Laws of the Leontief inverse.
pub mod Leontief
