-- Laws of sums, lists and searches, of signed differences, of matrices and shares, of lists of checks, of decimals, and of texts written piece by
-- piece.
pub mod Sums
pub mod Bits
pub mod Lists
pub mod Signed
pub mod Matrices
pub mod Shares
pub mod Verdicts
pub mod Outputs
pub mod Decimals
pub mod Stores
