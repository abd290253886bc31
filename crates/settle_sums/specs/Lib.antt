-- What contracts of the settling functions say of the sums that are carried.
pub mod Sums
