-- Laws of the sums of a sheet.
pub mod Dispersion
